use Rattle.std.specs.Prelude.{ℕ, suc, ◌-◌, ◌==◌, Bool, false, not, List, []}
use Rattle.std.specs.Prelude.{◌∷◌, filter, Option, Some, None, if◌then◌else◌}
use Rattle.std.specs.List.{list_any, range_with_len}
use Rattle.std.specs.Option.{option_map}
use Rattle.can_frame.specs.Sets.{is_in}
use Rattle.can_frame.specs.declared.iface.IfaceSet.{IfaceSet}
use Rattle.can_attempt.specs.Attempts.{set_of}
use Rattle.can_event.specs.declared.bus_config.BusConfig.{BusConfig}
use Rattle.can_event.specs.declared.entry.Entry.{Entry}
use Rattle.can_event.specs.declared.event.Event.{Event}
use Rattle.can_event.specs.declared.event.Event.TheVariants.{Restart, Down}
use Rattle.can_event.specs.declared.reply.Reply.{Reply}
use Rattle.can_event.specs.declared.attempt.Attempt.TheVariants as attempt
use Rattle.can_event.specs.declared.reply.Reply.TheVariants as reply

-- Automatic restart: an interface that went bus off is restarted in the n-th attempt after that. The configuration of
-- the bus sets n (own choice; 0 for never).

-- attempts_off after one more entry (own choice).
abbrev pub attempts_off_after : Event → Reply → ℕ → Option ℕ → Option ℕ
attempts_off_after e (reply.Attempted (attempt.Idle restarted)) i before =
    if is_in i restarted then None else option_map suc before
attempts_off_after e (reply.Attempted (attempt.Tried t)) i before =
    if is_in i t.restarted then None else if is_in i t.off then Some 0 else option_map suc before
attempts_off_after (Restart k m) reply.Done i before = if k == i then None else before
attempts_off_after (Down k m) reply.Done i before = if k == i then None else before
attempts_off_after _ _ i before = before

-- The number of attempts, idle ones included, since interface i went bus off. It is None if the interface did not go
-- bus off, or was restarted or taken down since.
abbrev pub attempts_off : List Entry → ℕ → Option ℕ
attempts_off [] i = None
attempts_off (e ∷ past) i = attempts_off_after e.event e.reply i (attempts_off past i)

-- The next attempt after these is the n-th.
abbrev pub is_nth_after : ℕ → Option ℕ → Bool
is_nth_after n None = false
is_nth_after n (Some k) = suc k == n

-- The next attempt restarts interface i: it is the n-th since the interface went bus off.
abbrev pub is_due : BusConfig → List Entry → ℕ → Bool
is_due c past i = is_nth_after c.auto_restart (attempts_off past i)

-- The interfaces that the next attempt restarts.
abbrev pub restarted_next : BusConfig → List Entry → IfaceSet
restarted_next c past = set_of (filter (is_due c past) (range_with_len 0 c.ifaces))

-- The number of n attempts that is left after these (own choice).
abbrev pub left_after : ℕ → Option ℕ → ℕ
left_after n None = 0
left_after n (Some k) = n - k

-- The number of attempts until interface i is restarted; 0 if it does not count.
abbrev pub attempts_left : BusConfig → List Entry → ℕ → ℕ
attempts_left c past i = left_after c.auto_restart (attempts_off past i)

-- Some interface counts the attempts until its restart.
abbrev pub is_counting : BusConfig → List Entry → Bool
is_counting c past = list_any (λ i. not (attempts_left c past i == 0)) (range_with_len 0 c.ifaces)
