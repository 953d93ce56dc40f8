use Rattle.std.specs.Prelude.{◌≡◌, ◌≢◌, ◌^◌, ◌<◌, ◌≤◌, true, List, length, Some, None, All, bit_and}
use Rattle.can_frame.specs.declared.item.Item.TheVariants as item
use Rattle.can_filter.specs.Filters.{CanFilter}
use Rattle.can_fault.specs.declared.verdict.Verdict.{Verdict}
use Rattle.can_fault.specs.declared.verdict.Verdict.TheVariants as verdict
use Rattle.can_event.specs.declared.bus_config.BusConfig.{BusConfig}
use Rattle.can_event.specs.declared.opt.Opt.{Opt}
use Rattle.can_event.specs.declared.opt.Opt.TheVariants as opt
use Rattle.can_event.specs.declared.event.Event.{Event}
use Rattle.can_event.specs.declared.event.Event.TheVariants.{Open, Close, SetFilters, SetOption}
use Rattle.can_event.specs.declared.event.Event.TheVariants.{Send, Receive, Attempt, Restart, Down}
use Rattle.can_event.specs.declared.received.Received.{Received}
use Rattle.can_event.specs.declared.attempt.Tried.{Tried}
use Rattle.can_event.specs.declared.attempt.Attempt.TheVariants as attempt
use Rattle.can_event.specs.declared.reply.Reply.{Reply}
use Rattle.can_event.specs.declared.reply.Reply.TheVariants as reply
use Rattle.can_event.specs.declared.entry.Entry.{Entry}
use Rattle.can_frame.specs.FrameText.{IsItem}
use Rattle.can_event.specs.Events.{IsLongConfig, max_limit}
use Rattle.can_event.specs.Spelled.{IsSpelled}
use Rattle.can_record_text.specs.declared.version.Version.{Version}
use Rattle.can_record_text.specs.declared.version.Version.TheVariants as version
use Rattle.can_record_text.specs.Spelling.{needs_of, takes, version_of}

-- The ranges of the values in an entry. A clause about all entries has to state them.

-- An identifier word, and a mask in which bit 29 is 0.
pub record HoldsFilter (f : CanFilter) : Type 0 where
  pub id : f.id < 2 ^ 32
  pub mask : f.mask < 2 ^ 32
  pub unmarked : bit_and f.mask (2 ^ 29) ≡ 0

-- An error mask of 32 bits.
abbrev pub HoldsOption : Opt → Type 0
HoldsOption (opt.Loopback on) = Unit {0}
HoldsOption (opt.RecvOwn on) = Unit {0}
HoldsOption (opt.Join on) = Unit {0}
HoldsOption (opt.ErrMask mask) = mask < 2 ^ 32
HoldsOption (opt.FdFrames on) = Unit {0}

-- A set of 16 interfaces.
abbrev pub HoldsVerdict : Verdict → Type 0
HoldsVerdict verdict.Good = Unit {0}
HoldsVerdict (verdict.Global kind) = Unit {0}
HoldsVerdict verdict.LastBit = Unit {0}
HoldsVerdict (verdict.Local set kind) = set.0 < 2 ^ 16

-- The arguments of an event are within their ranges.
abbrev pub HoldsEvent : Event → Type 0
HoldsEvent (Open i capacity) = (i < 16) × (capacity < 2 ^ 32)
HoldsEvent (Close s) = s.0 < 2 ^ 32
HoldsEvent (SetFilters s filters) = (s.0 < 2 ^ 32) × (length filters ≤ 512) × All HoldsFilter filters
HoldsEvent (SetOption s option) = (s.0 < 2 ^ 32) × HoldsOption option
HoldsEvent (Send s frame) = (s.0 < 2 ^ 32) × IsItem (item.Data frame)
HoldsEvent (Receive s) = s.0 < 2 ^ 32
HoldsEvent (Attempt m v) = (m < 10 ^ 16) × HoldsVerdict v
HoldsEvent (Restart i m) = (i < 16) × (m < 10 ^ 16)
HoldsEvent (Down i m) = (i < 16) × (m < 10 ^ 16)

-- The parts of a tried frame are within their ranges.
pub record HoldsTried (t : Tried) : Type 0 where
  pub moment : t.moment < 10 ^ 16
  pub winner : t.winner < 16
  pub number : t.number < 2 ^ 64
  pub frame : IsItem (item.Data t.frame)
  pub accepted : t.accepted.0 < 2 ^ 16
  pub off : t.off.0 < 2 ^ 16
  pub restarted : t.restarted.0 < 2 ^ 16

-- The parts of a received item are within their ranges.
abbrev pub HoldsReceived : Received → Type 0
HoldsReceived r = IsItem r.item × (r.from < 16) × (r.number < 2 ^ 64) × (r.moment < 10 ^ 16)

-- The parts of a reply are within their ranges.
abbrev pub HoldsReply : Reply → Type 0
HoldsReply (reply.Opened s) = s.0 < 2 ^ 32
HoldsReply (reply.Closed c) = (c.unread < 2 ^ 64) × (c.dropped < 2 ^ 64)
HoldsReply reply.Done = Unit {0}
HoldsReply (reply.Sent n) = n < 2 ^ 64
HoldsReply (reply.Received None) = Unit {0}
HoldsReply (reply.Received (Some r)) = HoldsReceived r
HoldsReply (reply.Attempted (attempt.Idle restarted)) = restarted.0 < 2 ^ 16
HoldsReply (reply.Attempted (attempt.Tried t)) = HoldsTried t
HoldsReply (reply.Refused why) = Unit {0}

-- The entry has a line in this version of the record of this bus, and its values are within their ranges.
pub record HasLine (v : Version) (c : BusConfig) (e : Entry) : Type 0 where
  pub spelled : IsSpelled c e
  pub version : takes v (needs_of e) ≡ true
  pub event : HoldsEvent e.event
  pub reply : HoldsReply e.reply

-- The version allows the limit of the bus: above the limit of a usual bus in version 4, which is for long runs, and at
-- most that in the other versions.
abbrev pub HasLimit : Version → BusConfig → Type 0
HasLimit version.Four c = max_limit < c.limit
HasLimit v c = c.limit ≤ max_limit

-- The version allows the restart setting of the bus: no automatic restart in version 1, automatic restart in version 2,
-- and either in the other versions.
abbrev pub Restarts : Version → BusConfig → Type 0
Restarts version.One c = c.auto_restart ≡ 0
Restarts version.Two c = c.auto_restart ≢ 0
Restarts version.Three c = Unit {0}
Restarts version.Four c = Unit {0}
Restarts version.Five c = Unit {0}
Restarts version.Six c = Unit {0}

-- The configuration has a line in this version.
pub record HasBusLine (v : Version) (c : BusConfig) : Type 0 where
  pub proper : IsLongConfig c
  pub limit : HasLimit v c
  pub reporting : c.reporting.0 < 2 ^ 16
  pub restarts : Restarts v c

-- The configuration and the entries have lines in this version.
pub record HasLines (v : Version) (c : BusConfig) (entries : List Entry) : Type 0 where
  pub bus : HasBusLine v c
  pub lines : All (HasLine v c) entries

-- The configuration and the entries have a text.
abbrev pub HasText : BusConfig → List Entry → Type 0
HasText c entries = HasLines (version_of c entries) c entries
