use Rattle.std.specs.Prelude.{◌≡◌}
use Rattle.can_frame.specs.Sets.{no_ifaces}
use Rattle.can_frame.specs.declared.iface.IfaceSet.{IfaceSet}
use Rattle.can_attempt.specs.declared.class.Class.TheVariants.{NoAck}
use Rattle.can_event.specs.declared.attempt.Attempt.{Attempt}
use Rattle.can_event.specs.declared.attempt.Attempt.TheVariants as attempt

-- The interfaces that a server reports to its host because an attempt changed their state (own choice).

-- the interfaces that went bus off in an attempt
abbrev pub off_in : Attempt → IfaceSet
off_in (attempt.Idle restarted) = no_ifaces
off_in (attempt.Tried tried) = tried.off

-- the attempt sent no frame and restarted no interface
abbrev pub IsInVain : Attempt → Type 0
IsInVain (attempt.Idle restarted) = restarted ≡ no_ifaces
IsInVain (attempt.Tried tried) = (tried.class ≡ NoAck) × (tried.restarted ≡ no_ifaces)
