use Rattle.std.proofs.Common.{◌≡◌, ℕ, ◌-◌, ◌==◌, nat_le, Bool, true, false, not, ◌&&◌, List, length, Option, Some, None, if◌then◌else◌, refl, ap, ◌∙◌}
use Rattle.can_confine.specs.Confinement.{is_down, is_off, is_silent}
use Rattle.can_fault.specs.declared.verdict.Verdict.{Verdict}
use Rattle.can_event.specs.declared.bus_config.BusConfig.{BusConfig}
use Rattle.can_event.specs.declared.entry.Entry.{Entry}
use Rattle.can_event.specs.declared.event.Event.{Event}
use Rattle.can_event.specs.declared.event.Event.TheVariants.{Open, Close, SetFilters, SetOption, Send, Receive, Attempt, Restart, Down}
use Rattle.can_event.specs.declared.pending.Pending.{Pending}
use Rattle.can_event.specs.declared.reply.Reply.{Reply}
use Rattle.can_event.specs.declared.reply.Reply.TheVariants as reply
use Rattle.can_event.specs.declared.refusal.Refusal.TheVariants as refusal
use Rattle.can_bus.specs.Sockets.{open_sockets, is_open, iface_of, options_of}
use Rattle.can_bus.specs.Transmit.{sent_by, gone_count, head_of}
use Rattle.can_bus.specs.Counters.{state_at}
use Rattle.can_bus.specs.Attempts.{winner, attempt_reply, tried_head}
use Rattle.can_bus.specs.Legal.{lacks_fd, legal_reply}

-- No legal reply is RecordFull or NoMemory.

abbrev is_outside : Reply → Bool
is_outside (reply.Refused refusal.RecordFull) = true
is_outside (reply.Refused refusal.NoMemory) = true
is_outside _ = false

inside-if : (b : Bool) (x y : Reply) → is_outside x ≡ false → is_outside y ≡ false → is_outside (if b then x else y) ≡ false
inside-if true x y hx hy = hx
inside-if false x y hx hy = hy

inside-head : (c : BusConfig) (past : List Entry) (m : ℕ) (v : Verdict) (w : ℕ) (p : Option Pending) → is_outside (tried_head c past m v w p) ≡ false
inside-head c past m v w None = refl
inside-head c past m v w (Some p) = refl

inside-attempt : (c : BusConfig) (past : List Entry) (m : ℕ) (v : Verdict) (w : Option ℕ) → is_outside (attempt_reply c past m v w) ≡ false
inside-attempt c past m v None = refl
inside-attempt c past m v (Some w) = inside-head c past m v w (head_of past w)

legal-inside : (c : BusConfig) (past : List Entry) (e : Event) → is_outside (legal_reply c past e) ≡ false
legal-inside c past (Open i n) = inside-if (nat_le c.ifaces i) _ _ refl (inside-if (not (nat_le 1 n && nat_le n 65536)) _ _ refl (inside-if (nat_le 64 (length (open_sockets past))) _ _ refl refl))
legal-inside c past (Close s) = inside-if (is_open past s.0) _ _ refl refl
legal-inside c past (SetFilters s f) = inside-if (is_open past s.0) _ _ refl refl
legal-inside c past (SetOption s o) = inside-if (is_open past s.0) _ _ refl refl
legal-inside c past (Send s f) =
    let i = iface_of past s.0 in
    let full : Bool = length (sent_by past i) - gone_count past i == c.tx_capacity in
    inside-if (is_open past s.0) _ _ (inside-if (lacks_fd f (options_of past s.0)) _ _ refl (inside-if (is_off (state_at c past i)) _ _ refl (inside-if (is_down (state_at c past i)) _ _ refl (inside-if full _ _ refl refl)))) refl
legal-inside c past (Receive s) = inside-if (is_open past s.0) _ _ refl refl
legal-inside c past (Attempt m v) = inside-attempt c past m v (winner c past)
legal-inside c past (Restart i m) = inside-if (nat_le c.ifaces i) _ _ refl (inside-if (is_silent (state_at c past i)) _ _ refl refl)
legal-inside c past (Down i m) = inside-if (nat_le c.ifaces i) _ _ refl refl

pub never_full : (c : BusConfig) (past : List Entry) (e : Event) → reply.Refused refusal.RecordFull ≡ legal_reply c past e → ⊥
never_full c past e law = let both : true ≡ false = ap is_outside law ∙ legal-inside c past e in cc

pub never_no_memory : (c : BusConfig) (past : List Entry) (e : Event) → reply.Refused refusal.NoMemory ≡ legal_reply c past e → ⊥
never_no_memory c past e law = let both : true ≡ false = ap is_outside law ∙ legal-inside c past e in cc
