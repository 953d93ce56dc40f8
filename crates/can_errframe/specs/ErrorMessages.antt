use Rattle.std.specs.Prelude.{ℕ, ◌+◌, ◌==◌, nat_le, Bool, true, false, Option, Some, None}
use Rattle.std.specs.Prelude.{option_map, List, [], ◌∷◌, replicate, bit_or, if◌then◌else◌}
use Rattle.can_frame.specs.Frames.{ErrorMessage}
use Rattle.can_confine.specs.Confinement.{ErrorCounts, Step, state_of, is_off, is_down, severity}
use Rattle.can_confine.specs.Confinement.Step.{ReceiveError}
use Rattle.can_fault.specs.declared.verdict.Verdict.{Verdict}
use Rattle.can_fault.specs.declared.verdict.Verdict.TheVariants as verdict
use Rattle.can_fault.specs.declared.verdict.GlobalKind.{GlobalKind}
use Rattle.can_fault.specs.declared.verdict.GlobalKind.TheVariants as global
use Rattle.can_fault.specs.declared.verdict.LocalKind.{LocalKind}
use Rattle.can_fault.specs.declared.verdict.LocalKind.TheVariants as local
use Rattle.can_attempt.specs.declared.class.Class.{Class}
use Rattle.can_attempt.specs.declared.class.Class.TheVariants as class
use Rattle.can_attempt.specs.Attempts.{Transmission, is_struck}
use Rattle.can_errframe.specs.declared.side.Side.{Side}
use Rattle.can_errframe.specs.declared.side.Side.TheVariants as side
use Rattle.can_errframe.specs.declared.role.Role.{Role}
use Rattle.can_errframe.specs.declared.role.Role.TheVariants.{Winner, Named, Other}
use Rattle.can_errframe.specs.ErrorCodes.{err_crtl, err_prot, err_ack, err_busoff, err_buserror, err_restarted}
use Rattle.can_errframe.specs.ErrorCodes.{err_cnt, crtl_rx_warning, crtl_tx_warning, crtl_rx_passive, crtl_tx_passive}
use Rattle.can_errframe.specs.ErrorCodes.{crtl_active, prot_unspec, prot_bit, prot_form, prot_stuff, prot_tx}
use Rattle.can_errframe.specs.ErrorCodes.{loc_unspec, loc_crc_seq, loc_data, loc_ack, loc_eof, loc_ack_del}

-- The error message frame for each event. The numbers are those of linux/can/error.h; the choice of frames is our own.

-- Eight bytes without information.
abbrev pub no_bytes : List ℕ
no_bytes = replicate 8 0

-- Changes of state.

-- The state that one error count implies, without the other count.
abbrev pub side_of : ℕ → Side
side_of n = if nat_le 128 n then side.Passive else if nat_le 96 n then side.Warning else side.Active

-- The severity of a side: 0 for Active.
abbrev pub level : Side → ℕ
level side.Active = 0
level side.Warning = 1
level side.Passive = 2

-- The controller code of the transmit error count's side.
abbrev pub tx_code : Side → ℕ
tx_code side.Active = crtl_active
tx_code side.Warning = crtl_tx_warning
tx_code side.Passive = crtl_tx_passive

-- The controller code of the receive error count's side.
abbrev pub rx_code : Side → ℕ
rx_code side.Active = crtl_active
rx_code side.Warning = crtl_rx_warning
rx_code side.Passive = crtl_rx_passive

-- The code of the more severe side, or both codes if the sides are equal.
abbrev pub controller_code : Side → Side → ℕ
controller_code tx rx =
    bit_or
    (if nat_le (level rx) (level tx) then tx_code tx else 0)
    (if nat_le (level tx) (level rx) then rx_code rx else 0)

-- The report of the state and both error counts, for an interface that is neither bus off nor down.
abbrev pub controller_message : ErrorCounts → ErrorMessage
controller_message c = record {
  class = err_crtl + err_cnt;
  bytes = 0 ∷ controller_code (side_of c.tec) (side_of c.rec) ∷ 0 ∷ 0 ∷ 0 ∷ 0 ∷ c.tec ∷ c.rec ∷ [];
}

-- The report that an interface went bus off.
abbrev pub bus_off_message : ErrorMessage
bus_off_message = record { class = err_busoff; bytes = no_bytes }

-- The report of a change of error counts: none if the state stays the same or the interface is down.
abbrev pub state_message : ErrorCounts → ErrorCounts → Option ErrorMessage
state_message old new =
    if severity (state_of old) == severity (state_of new) then None
    else if is_off (state_of new) then Some bus_off_message
    else if is_down (state_of new) then None
    else Some (controller_message new)

-- Restarts.

-- The report that an interface was restarted.
abbrev pub restart_message : ErrorMessage
restart_message = record { class = err_restarted; bytes = no_bytes }

-- Faults.

-- The kind and the place of a local fault (bytes 2 and 3).
abbrev pub local_codes : LocalKind → ℕ × ℕ
local_codes local.Stuff = (prot_stuff, loc_data)
local_codes local.Crc = (prot_unspec, loc_crc_seq)
local_codes local.Form = (prot_form, loc_ack_del)

-- The kind and the place of a fault of the whole bus, as the transmitter sees it.
abbrev pub global_codes : GlobalKind → ℕ × ℕ
global_codes global.Bit = (prot_tx + prot_bit, loc_data)
global_codes global.Form = (prot_tx + prot_form, loc_ack_del)

-- The kind and the place of the fault that an interface sees (bytes 2 and 3).
abbrev pub fault_codes : Class → Verdict → Role → Option (ℕ × ℕ)
fault_codes class.Destroyed (verdict.Global kind) Winner = Some (global_codes kind)
fault_codes class.Destroyed (verdict.Global kind) Named = Some (prot_stuff, loc_unspec)
fault_codes class.Destroyed (verdict.Global kind) Other = Some (prot_stuff, loc_unspec)
fault_codes class.Destroyed (verdict.Local set kind) Winner = Some (prot_tx + prot_bit, loc_unspec)
fault_codes class.Destroyed (verdict.Local set kind) Named = Some (local_codes kind)
fault_codes class.Destroyed (verdict.Local set kind) Other = Some (prot_stuff, loc_unspec)
fault_codes class.Done (verdict.Local set kind) Named = Some (local_codes kind)
fault_codes class.LastBit verdict.LastBit Winner = Some (prot_tx + prot_form, loc_eof)
fault_codes class.NoAck (verdict.Local set kind) Winner = Some (prot_tx, loc_ack)
fault_codes class.NoAck (verdict.Local set kind) Named = Some (local_codes kind)
fault_codes class.NoAck verdict.Good Winner = Some (prot_tx, loc_ack)
fault_codes class.NoAck verdict.LastBit Winner = Some (prot_tx, loc_ack)
fault_codes _ _ _ = None

-- The class of a fault: a bus error, with a protocol violation, or for the transmitter a missing acknowledgement.
abbrev pub fault_class : Class → Role → ℕ
fault_class class.NoAck Winner = err_buserror + err_ack
fault_class _ _ = err_buserror + err_prot

-- The report of the fault that an interface saw, if it saw one.
abbrev pub fault_message : Class → Verdict → Role → Option ErrorMessage
fault_message c v r =
    option_map
    (λ codes. record { class = fault_class c r; bytes = 0 ∷ 0 ∷ codes.0 ∷ codes.1 ∷ 0 ∷ 0 ∷ 0 ∷ 0 ∷ [] })
    (fault_codes c v r)

-- The role of receiver i.
abbrev pub receiver_role : Transmission → ℕ → Role
receiver_role t i = if is_struck t.verdict i then Named else Other

-- The only step is a receive error.
abbrev pub is_receive_error : List Step → Bool
is_receive_error (ReceiveError ∷ []) = true
is_receive_error _ = false
