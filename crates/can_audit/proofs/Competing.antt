use Rattle.std.proofs.Common.{◌≡◌, ◌≢◌, ℕ, ◌+◌, ◌<◌, List, length, get_or, slice_set, below_more, Option, Some, None, refl, sym, ap, ◌∙◌, subst, arith, IfSome}
use Rattle.std.specs.Option.{IsNone}
use Rattle.std.proofs.lemmas.List.{get_or-set_other, get_or-set_same, length-set}
use Rattle.std.proofs.lemmas.List.FromFn.{fill_by_all}
use Rattle.can_arbiter.specs.Keys.{IsWinner, IsIdle}
use Rattle.can_fault.specs.declared.verdict.Verdict.{Verdict}
use Rattle.can_attempt.specs.declared.judgement.Judgement.{Judgement}
use Rattle.can_attempt.specs.declared.nodes.Nodes.{Nodes}
use Rattle.can_attempt.specs.Attempts.{attempt_between, judged}
use Rattle.can_event.specs.declared.bus_config.BusConfig.{BusConfig}
use Rattle.can_event.specs.declared.entry.Entry.{Entry}
use Rattle.can_event.specs.declared.pending.Pending.{Pending}
use Rattle.can_frame.specs.declared.iface.IfaceSet.{IfaceSet}
use Rattle.can_bus.specs.AutoRestart.{restarted_next}
use Rattle.can_bus.specs.Attempts.{winner, attempt_reply, tried_head}
use Rattle.can_bus.specs.State.{key_in, kept_keys, kept_nodes}
use Rattle.can_bus.specs.Transmit.{head_of, gone_count}
use Rattle.can_bus.proofs.Attempting.{between-is}
use Rattle.can_bus.proofs.OffFacts.{winner-contends}
use Rattle.can_bus.proofs.Winning.{winner-is, idle-is}
use Rattle.can_replay.specs.Histories.{IsHistory}
use Rattle.can_audit.specs.inner.Counted.{IsLive}
use Rattle.can_audit.specs.inner.Replied.{tried_reply}
use Rattle.can_audit.proofs.Counting.{live-kept}

-- The interface that wins arbitration, and the reply to the attempt.

-- one more element of the list is set
pub set_more : (f : ℕ → Option ℕ) (keys new : List (Option ℕ)) (i : ℕ) → i < length keys → ((k : ℕ) → k < i → get_or keys k None ≡ f k) → new ≡ slice_set keys i (f i) → (k : ℕ) → k < i + 1 → get_or new k None ≡ f k
set_more f keys new i lt so_far is =
    below_more (λ k. get_or new k None ≡ f k) i
    (λ k h. let ne : k ≢ i = omega arith in ap (λ (ks : List (Option ℕ)). get_or ks k None) is ∙ get_or-set_other keys i k (f i) None ne ∙ so_far k h)
    (ap (λ (ks : List (Option ℕ)). get_or ks i None) is ∙ get_or-set_same keys i (f i) None lt)

pub long_more : (keys new : List (Option ℕ)) (i : ℕ) (x : Option ℕ) → length keys ≡ 16 → new ≡ slice_set keys i x → length new ≡ 16
long_more keys new i x long is = ap length is ∙ length-set keys i x ∙ long

-- the key of an interface's oldest frame is set at the interface's index
pub competed : (past : List Entry) (keys new : List (Option ℕ)) (place i : ℕ) (head : Option Pending) → i ≡ place → head ≡ head_of past i → new ≡ slice_set keys i (key_in head) → new ≡ slice_set keys place (key_in (head_of past place))
competed past keys new place i head same head_is set =
    set ∙ ap (λ (p : Option Pending). slice_set keys i (key_in p)) head_is ∙ ap (λ (k : ℕ). slice_set keys k (key_in (head_of past k))) same

pub keys-are : (past : List Entry) (keys : List (Option ℕ)) → length keys ≡ 16 → ((k : ℕ) → k < 16 → get_or keys k None ≡ key_in (head_of past k)) → keys ≡ kept_keys past
unfolding kept_keys
keys-are past keys long all = fill_by_all (λ i. key_in (head_of past i)) keys 16 None long all

pub winner-of : (c : BusConfig) (past : List Entry) (w : Option ℕ) → IsHistory c past → IfSome w (λ i. IsWinner (kept_keys past) i) → (IsNone w → IsIdle (kept_keys past)) → w ≡ winner c past
winner-of c past None h first none = sym (idle-is c past h.proper.few_ifaces (none refl))
winner-of c past (Some i) h first none = sym (winner-is c past h.legal h.proper.few_ifaces i first)

pub tried-is : (c : BusConfig) (past : List Entry) (m : ℕ) (v : Verdict) (w : ℕ) (p : Pending) (n : ℕ) (nodes : Nodes) (j : Judgement) (set : IfaceSet) → IsHistory c past → set ≡ restarted_next c past
    → winner c past ≡ Some w → head_of past w ≡ Some p → n ≡ gone_count past w → nodes ≡ kept_nodes c past → j ≡ judged (attempt_between nodes w v c.ack)
    → tried_reply m w n p j set ≡ attempt_reply c past m v (winner c past)
tried-is c past m v w p n nodes j set h restarts won head number are judges =
    ap (λ (k : ℕ). tried_reply m w k p j set) number
    ∙ ap (λ (s : IfaceSet). tried_reply m w (gone_count past w) p j s) restarts
    ∙ ap (λ (k : Judgement). tried_reply m w (gone_count past w) p k (restarted_next c past))
    (judges ∙ ap (λ (q : Nodes). judged (attempt_between q w v c.ack)) are ∙ ap judged (between-is c past w v h.legal h.proper.few_ifaces))
    ∙ ap (tried_head c past m v w) (sym head)
    ∙ ap (attempt_reply c past m v) (sym won)

pub winner-is_live : (c : BusConfig) (past : List Entry) (w : ℕ) → IsHistory c past → winner c past ≡ Some w → IsLive (kept_nodes c past) w
winner-is_live c past w h won = let contends = winner-contends c past w won in live-kept c past w h contends.below contends.live

-- the winner's attempt has an outcome, so `None` is impossible
pub judged-winner : {P : Type 0} (c : BusConfig) (past : List Entry) (w : ℕ) (v : Verdict) (nodes : Nodes) (j : Option Judgement) → IsHistory c past → winner c past ≡ Some w → nodes ≡ kept_nodes c past → (IsLive nodes w → j ≡ Some (judged (attempt_between nodes w v c.ack))) → j ≡ None → P
judged-winner c past w v nodes j h won are some none =
    let live : IsLive nodes w = subst (λ (q : Nodes). IsLive q w) (sym are) (winner-is_live c past w h won) in
    let is = some live in
    cc
