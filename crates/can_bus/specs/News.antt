use Rattle.std.specs.Prelude.{ℕ, List, [], ◌++◌, Some, if◌then◌else◌}
use Rattle.can_frame.specs.Sets.{is_in}
use Rattle.can_frame.specs.declared.iface.IfaceSet.{IfaceSet}
use Rattle.can_attempt.specs.Attempts.{counts_after}
use Rattle.can_errframe.specs.ErrorMessages.{state_message}
use Rattle.can_event.specs.declared.pending.Pending.{Pending}
use Rattle.can_event.specs.declared.attempt.Tried.{Tried}
use Rattle.can_bus.specs.Attempted.{Outcome, transmission_of}
use Rattle.can_bus.specs.Posts.{Post, attempt_posts, data_posts, error_posts, fault_message_for, role_at}

-- The items that an attempt posts to the sockets of each interface, in two parts.

-- The tried frame, which was queued like this (own choice).
abbrev pub frame_posts : Tried → Pending → ℕ → List Post
frame_posts t p i = data_posts i t (Some p)

-- The fault, if the interface reports faults, and a change of state (own choice).
abbrev pub fault_posts : IfaceSet → Outcome → ℕ → List Post
fault_posts reporting o i =
    (if is_in i reporting
    then error_posts i o.tried.moment (fault_message_for o.tried.class o.verdict (role_at (transmission_of o) i))
    else [])
    ++ error_posts i o.tried.moment (state_message ((transmission_of o).counts i) (counts_after (transmission_of o) i))

-- All items that an attempt posts to the sockets of interface i, for a frame that was queued like this (own choice).
abbrev pub outcome_posts : IfaceSet → Outcome → Pending → ℕ → List Post
outcome_posts reporting o p = attempt_posts reporting (transmission_of o) o.tried (Some p)
