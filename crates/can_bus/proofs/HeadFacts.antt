use Rattle.std.proofs.Common.{◌≡◌, ℕ, ◌≤◌, List, slice_get, Option, Some, None, refl, sym, ap, ◌∙◌}
use Rattle.can_frame.specs.Frames.{CanFrame}
use Rattle.can_fault.specs.declared.verdict.Verdict.{Verdict}
use Rattle.can_event.specs.declared.bus_config.BusConfig.{BusConfig}
use Rattle.can_event.specs.declared.entry.Entry.{Entry}
use Rattle.can_event.specs.declared.pending.Pending.{Pending}
use Rattle.can_event.specs.declared.event.Event.TheVariants.{Attempt}
use Rattle.can_event.specs.declared.reply.Reply.TheVariants as reply
use Rattle.can_event.specs.declared.attempt.Tried.{Tried}
use Rattle.can_event.specs.declared.attempt.Attempt.TheVariants as attempt
use Rattle.can_bus.specs.Attempts.{winner, tried_head, attempt_reply}
use Rattle.can_bus.specs.AutoRestart.{restarted_next}
use Rattle.can_bus.specs.Heads.{with_frame, head_at, next_head, IsNext, ReportsNext}
use Rattle.can_bus.specs.Legal.{legal_reply, IsLegal}
use Rattle.can_bus.specs.State.{InterfaceState, kept_interfaces, kept_parts}
use Rattle.can_bus.specs.Transmit.{sent_by, gone_count, head_of}
use Rattle.can_bus.proofs.Lawful.{WasTried, was_tried}
use Rattle.can_bus.proofs.InterfaceFacts.{IsInterface-at}
use Rattle.can_bus.proofs.Lists.{slice_get-drop}
use Rattle.can_bus.proofs.Winning.{winner-is, idle-is}

-- The frame of the next attempt in the state is the one that the history gives.

head-kept : (c : BusConfig) (past : List Entry) (head : ℕ × CanFrame) → IsNext (kept_parts c past) head → with_frame head.0 (head_of past head.0) ≡ Some head
head-kept c past head next =
    let interface = IsInterface-at c past (kept_interfaces c past) head.0 next.interface refl next.there in
    let oldest : head_of past head.0 ≡ Some next.pending = sym (slice_get-drop (gone_count past head.0) (sent_by past head.0)) ∙ ap (λ (l : InterfaceState). slice_get l.waiting 0) (sym interface.left) ∙ next.oldest in
    ap (with_frame head.0) oldest ∙ ap (λ (f : CanFrame). Some (head.0, f)) (sym next.frame)

-- the next attempt as the state reports it is the one that the history gives
pub told_head : (c : BusConfig) (past : List Entry) (head : Option (ℕ × CanFrame)) → IsLegal c past → c.ifaces ≤ 16 → ReportsNext (kept_parts c past) head → head ≡ next_head c past
told_head c past None legal few idle = ap (head_at past) (sym (idle-is c past few idle))
told_head c past (Some head) legal few next =
    sym (ap (head_at past) (winner-is c past legal few head.0 next.wins) ∙ head-kept c past head next)

-- ---- an attempt tries that frame

tried-head : (c : BusConfig) (past : List Entry) (m : ℕ) (v : Verdict) (t : Tried) → WasTried c past m v t → next_head c past ≡ Some (t.winner, t.frame)
tried-head c past m v t w =
    ap (head_at past) w.won ∙ ap (with_frame w.place) w.head ∙ ap (λ (u : Tried). Some (u.winner, u.frame)) (sym w.is)

-- the frame that an attempt tries is the frame that was next
pub tried_is_next : (c : BusConfig) (past : List Entry) (m : ℕ) (v : Verdict) (t : Tried) → reply.Attempted (attempt.Tried t) ≡ legal_reply c past (Attempt m v) → next_head c past ≡ Some (t.winner, t.frame)
tried_is_next c past m v t law = tried-head c past m v t (was_tried c past m v t law)

idle-at : (c : BusConfig) (past : List Entry) (m : ℕ) (v : Verdict) (w : ℕ) (p : Option Pending) → with_frame w p ≡ None → tried_head c past m v w p ≡ reply.Attempted (attempt.Idle (restarted_next c past))
idle-at c past m v w None none = refl
idle-at c past m v w (Some p) none = cc

idle-of : (c : BusConfig) (past : List Entry) (m : ℕ) (v : Verdict) (w : Option ℕ) → head_at past w ≡ None → attempt_reply c past m v w ≡ reply.Attempted (attempt.Idle (restarted_next c past))
idle-of c past m v None none = refl
idle-of c past m v (Some w) none = idle-at c past m v w (head_of past w) none

-- if no frame is next, an attempt is idle
pub idle_without_next : (c : BusConfig) (past : List Entry) (m : ℕ) (v : Verdict) → next_head c past ≡ None → legal_reply c past (Attempt m v) ≡ reply.Attempted (attempt.Idle (restarted_next c past))
idle_without_next c past m v none = idle-of c past m v (winner c past) none
