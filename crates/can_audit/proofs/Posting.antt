use Rattle.std.proofs.Common.{◌≡◌, ℕ, List, ◌∷◌, slice_get, Option, Some, None, sym, ap, ◌∙◌, subst}
use Rattle.can_fault.specs.declared.verdict.Verdict.{Verdict}
use Rattle.can_attempt.specs.declared.judgement.Judgement.{Judgement}
use Rattle.can_attempt.specs.declared.nodes.Nodes.{Nodes}
use Rattle.can_attempt.specs.Attempts.{Transmission, attempt_between, judged}
use Rattle.can_event.specs.declared.bus_config.BusConfig.{BusConfig}
use Rattle.can_event.specs.declared.entry.Entry.{Entry}
use Rattle.can_event.specs.declared.event.Event.TheVariants.{Attempt}
use Rattle.can_event.specs.declared.pending.Pending.{Pending}
use Rattle.can_event.specs.declared.reply.Reply.TheVariants as reply
use Rattle.can_event.specs.declared.attempt.Tried.{Tried}
use Rattle.can_event.specs.declared.attempt.Attempt.TheVariants as attempt
use Rattle.can_event.specs.Replies.{entry_of}
use Rattle.can_bus.specs.Counters.{transmission}
use Rattle.can_bus.specs.Posts.{attempt_posts}
use Rattle.can_bus.specs.State.{kept_nodes}
use Rattle.can_bus.specs.Transmit.{sent_by}
use Rattle.can_bus.proofs.Attempting.{between-is}
use Rattle.can_bus.proofs.Lawful.{was_tried}
use Rattle.can_replay.specs.Histories.{IsHistory}
use Rattle.can_audit.specs.inner.Counted.{IsLive}
use Rattle.can_audit.proofs.Counting.{earlier, winner-live}

-- the items that an attempt in the record posts to the sockets, given the interfaces and the frame before the attempt
pub tried-posts : (c : BusConfig) (past : List Entry) (m : ℕ) (v : Verdict) (t : Tried) (i : ℕ) (nodes : Nodes) (p : Option Pending)
    → IsHistory c (entry_of (Attempt m v) (reply.Attempted (attempt.Tried t)) ∷ past) → nodes ≡ kept_nodes c past → p ≡ slice_get (sent_by past t.winner) t.number
    → attempt_posts c.reporting (attempt_between nodes t.winner v c.ack) t p i ≡ attempt_posts c.reporting (transmission c past t.winner v) t (slice_get (sent_by past t.winner) t.number) i
tried-posts c past m v t i nodes p h are frame =
    ap (λ (n : Nodes). attempt_posts c.reporting (attempt_between n t.winner v c.ack) t p i) are
    ∙ ap (λ (tr : Transmission). attempt_posts c.reporting tr t p i) (between-is c past t.winner v h.legal.2 h.proper.few_ifaces)
    ∙ ap (λ (q : Option Pending). attempt_posts c.reporting (transmission c past t.winner v) t q i) frame

-- an attempt that tried a frame has an outcome, so `None` is impossible
pub judged-tried : {P : Type 0} (c : BusConfig) (past : List Entry) (m : ℕ) (v : Verdict) (t : Tried) (nodes : Nodes) (j : Option Judgement)
    → IsHistory c (entry_of (Attempt m v) (reply.Attempted (attempt.Tried t)) ∷ past) → nodes ≡ kept_nodes c past → (IsLive nodes t.winner → j ≡ Some (judged (attempt_between nodes t.winner v c.ack))) → j ≡ None
    → P
judged-tried c past m v t nodes j h are some none =
    let live : IsLive nodes t.winner = subst (λ (n : Nodes). IsLive n t.winner) (sym are) (winner-live c past m v t (earlier c (entry_of (Attempt m v) (reply.Attempted (attempt.Tried t))) past h) (was_tried c past m v t h.legal.1)) in
    let is = some live in
    cc
