use Rattle.std.specs.Prelude.{ℕ, ◌≤◌, false, []}
use Rattle.can_frame.specs.Frames.Payload.{Data}
use Rattle.can_frame.specs.declared.item.Item.TheVariants as item
use Rattle.can_frame.specs.Sets.{no_ifaces}
use Rattle.can_frame.specs.declared.iface.IfaceSet.{IfaceSet}
use Rattle.can_filter.specs.declared.options.Options.{Options}
use Rattle.can_event.specs.declared.bus_config.BusConfig.{BusConfig}
use Rattle.can_event.specs.declared.opt.Opt.{Opt}
use Rattle.can_event.specs.declared.opt.Opt.TheVariants as opt
use Rattle.can_event.specs.declared.received.Received.{Received}
use Rattle.can_event.specs.declared.reply.Reply.{Reply}
use Rattle.can_event.specs.declared.reply.Reply.TheVariants as reply
use Rattle.can_event.specs.declared.attempt.Tried.{Tried}
use Rattle.can_event.specs.declared.attempt.Attempt.TheVariants as attempt

-- The limits of a configuration, and definitions for the plain types of a bus.

-- The interfaces that a reply names as restarted by its attempt.
abbrev pub restarted_in : Reply → IfaceSet
restarted_in (reply.Attempted (attempt.Idle restarted)) = restarted
restarted_in (reply.Attempted (attempt.Tried t)) = t.restarted
restarted_in _ = no_ifaces

-- The largest capacity of a transmit queue, in frames (the product's own limit, as in the manual page).
abbrev pub max_tx_capacity : ℕ
max_tx_capacity = 1024

-- The largest capacity of a socket's receive queue, in items (the product's own limit, as in the manual page).
abbrev pub max_rx_capacity : ℕ
max_rx_capacity = 65536

-- The largest number of entries in a record (the product's own limit, as in the manual page).
abbrev pub max_limit : ℕ
max_limit = 16777216

-- The largest number of attempts until an interface that went bus off is restarted automatically (the product's own
-- limit, as in the manual page).
abbrev pub max_auto_restart : ℕ
max_auto_restart = 1000000

-- The limits of a bus.
pub record IsConfig (c : BusConfig) : Type 0 where
  pub some_ifaces : 1 ≤ c.ifaces
  pub few_ifaces : c.ifaces ≤ 16
  pub some_frames : 1 ≤ c.tx_capacity
  pub few_frames : c.tx_capacity ≤ max_tx_capacity
  pub some_entries : 1 ≤ c.limit
  pub few_entries : c.limit ≤ max_limit
  pub few_attempts : c.auto_restart ≤ max_auto_restart

-- The largest number of entries in the record of a long run: their numbers fit in 32 bits (own choice).
abbrev pub max_long_limit : ℕ
max_long_limit = 4294967294

-- The limits of the bus of a long run, which does not keep its whole record in memory. They include the limits of a
-- bus.
pub record IsLongConfig (c : BusConfig) : Type 0 where
  pub some_ifaces : 1 ≤ c.ifaces
  pub few_ifaces : c.ifaces ≤ 16
  pub some_frames : 1 ≤ c.tx_capacity
  pub few_frames : c.tx_capacity ≤ max_tx_capacity
  pub some_entries : 1 ≤ c.limit
  pub few_entries : c.limit ≤ max_long_limit
  pub few_attempts : c.auto_restart ≤ max_auto_restart

-- A frame that was tried, in the form in which a socket receives it.
abbrev pub tried_item : Tried → Received
tried_item t = record { item = item.Data t.frame; from = t.winner; number = t.number; moment = t.moment }

-- An empty room: an empty frame from interface 0, at moment 0 (own choice).
abbrev pub no_item : Received
no_item = record {
  item = item.Data (record { id = record { extended = false; number = 0 }; payload = Data [] });
  from = 0;
  number = 0;
  moment = 0;
}

-- The options of a socket after one of them was set (linux/can/raw.h).
abbrev pub with_option : Opt → Options → Options
with_option (opt.Loopback on) o = record o { loopback = on }
with_option (opt.RecvOwn on) o = record o { recv_own = on }
with_option (opt.Join on) o = record o { join = on }
with_option (opt.ErrMask mask) o = record o { err_mask = mask }
with_option (opt.FdFrames on) o = record o { fd = on }
