use Rattle.std.proofs.Common.{◌≡◌, ℕ, ◌<◌, Bool, true, false, not, nat_lt, ◌&&◌, ◌||◌, ◌==◌, List, [], if◌then◌else◌, filter, length, ap, sym, arith, refl, ◌∙◌}
use Rattle.std.specs.List.{list_any, range_with_len}
use Rattle.can_confine.specs.Confinement.{ErrorCounts, all_stepped, is_passive, is_silent, state_of}
use Rattle.can_fault.specs.declared.verdict.Verdict.{Verdict}
use Rattle.can_attempt.specs.declared.class.Class.{Class}
use Rattle.can_attempt.specs.declared.ack_mode.AckMode.{AckMode}
use Rattle.can_attempt.specs.Attempts.{Transmission, SameToTheLive, is_among, state_at, can_hear, receivers, hit, unhurt, is_struck, is_global, is_last_bit, is_always, is_destroyed, is_acknowledged, class_of, class_when, winner_step, receiver_step, counts_after}
use Rattle.can_attempt.proofs.Places.{any_same, filter_same, below_among, is_among-hit}

-- Attempts that are the same to the live interfaces.

pub same_receivers : (t u : Transmission) → SameToTheLive t u → receivers t ≡ receivers u
same_receivers t u s =
    filter_same (can_hear t) (can_hear u) (range_with_len 0 t.count)
    (λ i among. ap (λ (w : ℕ). not (i == w) && not (is_silent (state_at t i))) s.winner ∙ ap (λ (b : Bool). not (i == u.winner) && not b) (s.silent i (below_among i t.count among)))
    ∙ ap (λ (n : ℕ). filter (can_hear u) (range_with_len 0 n)) s.count

pub same_hit : (t u : Transmission) → SameToTheLive t u → hit t ≡ hit u
same_hit t u s = ap (λ (v : Verdict). filter (is_struck v) (receivers t)) s.verdict ∙ ap (filter (is_struck u.verdict)) (same_receivers t u s)

pub same_unhurt : (t u : Transmission) → SameToTheLive t u → unhurt t ≡ unhurt u
same_unhurt t u s = ap (λ (v : Verdict). filter (λ i. not (is_struck v i)) (receivers t)) s.verdict ∙ ap (filter (λ i. not (is_struck u.verdict i))) (same_receivers t u s)

live_hit : (n o w m : Bool) → (n && ((w && not o) && m)) ≡ true → o ≡ false
live_hit n false w m among = refl
live_hit n true w m among = grind (arith, among)

hit_below : (n h : Bool) (i c : ℕ) → (n && (h && nat_lt i c)) ≡ true → i < c
hit_below n h i c among = grind (arith, among)

pub same_class : (t u : Transmission) → SameToTheLive t u → class_of t ≡ class_of u
same_class t u s =
    let struck : hit t ≡ hit u = same_hit t u s in
    let spared : unhurt t ≡ unhurt u = same_unhurt t u s in
    let active : list_any (λ i. not (is_passive (state_at t i))) (hit t) ≡ list_any (λ i. not (is_passive (state_at u i))) (hit t) =
    any_same (λ i. not (is_passive (state_at t i))) (λ i. not (is_passive (state_at u i))) (hit t)
    (λ i among. ap (λ (k : ErrorCounts). not (is_passive (state_of k)))
    (let struck_there : (is_struck t.verdict i && (can_hear t i && nat_lt i t.count)) ≡ true = sym (is_among-hit t i) ∙ among in
    s.live i (hit_below (is_struck t.verdict i) (can_hear t i) i t.count struck_there) (live_hit (is_struck t.verdict i) (is_silent (state_at t i)) (not (i == t.winner)) (nat_lt i t.count) struck_there))) in
    let destroyed : is_destroyed t ≡ is_destroyed u =
    ap (λ (b : Bool). is_global t.verdict || b) (active ∙ ap (list_any (λ i. not (is_passive (state_at u i)))) struck)
    ∙ ap (λ (v : Verdict). is_global v || list_any (λ i. not (is_passive (state_at u i))) (hit u)) s.verdict in
    let acknowledged : is_acknowledged t ≡ is_acknowledged u =
    ap (λ (is : List ℕ). is_always t.ack || not (length is == 0)) spared
    ∙ ap (λ (a : AckMode). is_always a || not (length (unhurt u) == 0)) s.ack in
    ap (λ (d : Bool). class_when d (is_acknowledged t) (is_last_bit t.verdict)) destroyed
    ∙ ap (λ (a : Bool). class_when (is_destroyed u) a (is_last_bit t.verdict)) acknowledged
    ∙ ap (λ (v : Verdict). class_when (is_destroyed u) (is_acknowledged u) (is_last_bit v)) s.verdict

-- the counts of interface i after an attempt, as a function of the values that they depend on
abbrev counts_from : ErrorCounts → ℕ → Class → List ℕ → Verdict → ℕ → ErrorCounts
counts_from c w k rs v i = all_stepped c (if i == w then winner_step k (state_of c) else if is_among i rs then receiver_step k (is_struck v i) else [])

-- the counts after two attempts of one kind, of an interface that had the same counts
pub same_counts : (t u : Transmission) → SameToTheLive t u → (i : ℕ) → t.counts i ≡ u.counts i → counts_after t i ≡ counts_after u i
same_counts t u s i counts =
    ap (λ (k : ErrorCounts). counts_from k t.winner (class_of t) (receivers t) t.verdict i) counts
    ∙ ap (λ (w : ℕ). counts_from (u.counts i) w (class_of t) (receivers t) t.verdict i) s.winner
    ∙ ap (λ (k : Class). counts_from (u.counts i) u.winner k (receivers t) t.verdict i) (same_class t u s)
    ∙ ap (λ (rs : List ℕ). counts_from (u.counts i) u.winner (class_of u) rs t.verdict i) (same_receivers t u s)
    ∙ ap (λ (v : Verdict). counts_from (u.counts i) u.winner (class_of u) (receivers u) v i) s.verdict
