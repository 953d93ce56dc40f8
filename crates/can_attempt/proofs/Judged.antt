use Rattle.std.proofs.Common.{◌≡◌, ℕ, ◌<◌, List, [], ◌∷◌, map, refl, ap, ◌∙◌, arith, if◌then◌else◌}
use Rattle.std.specs.List.{range_with_len}
use Rattle.std.proofs.lemmas.List.FromFn.{fill_by_all, length-map-range_with_len, get_or-map-range_with_len}
use Rattle.can_frame.specs.declared.iface.IfaceSet.{IfaceSet}
use Rattle.can_confine.specs.Confinement.{ErrorCounts, at_start, is_off, is_silent, state_of}
use Rattle.can_attempt.specs.declared.class.Class.{Class}
use Rattle.can_attempt.specs.declared.class.Class.TheVariants as class
use Rattle.can_attempt.specs.declared.judgement.Judgement.{Judgement}
use Rattle.can_attempt.specs.Attempts.{Transmission, SameToTheLive, SameToSixteen, unhurt, set_of, class_of, accepted_in, counts_after, judged}
use Rattle.can_attempt.proofs.Same.{same_class, same_hit, same_unhurt, same_counts}

-- judgements of equal parts are equal
pub same_judgement : (j k : Judgement) → j.class ≡ k.class → j.accepted ≡ k.accepted → j.hit ≡ k.hit → j.counters ≡ k.counters → j.off ≡ k.off → j ≡ k
same_judgement j k class accepted hit counters off =
    ap (λ (c : Class). record j { class = c }) class
    ∙ ap (λ (s : IfaceSet). record j { class = k.class; accepted = s }) accepted
    ∙ ap (λ (s : IfaceSet). record j { class = k.class; accepted = k.accepted; hit = s }) hit
    ∙ ap (λ (cs : List ErrorCounts). record k { counters = cs; off = j.off }) counters
    ∙ ap (λ (s : IfaceSet). record k { off = s }) off

same_accepted : (k : Class) (t u : Transmission) → unhurt t ≡ unhurt u → accepted_in k t ≡ accepted_in k u
same_accepted class.Done t u e = e
same_accepted class.LastBit t u e = e
same_accepted class.Destroyed t u e = refl
same_accepted class.NoAck t u e = refl

same_to_the_live : (t u : Transmission) → SameToSixteen t u → SameToTheLive t u
same_to_the_live t u s = record {
  count = s.count;
  winner = s.winner;
  verdict = s.verdict;
  ack = s.ack;
  silent = λ i below. ap (λ (k : ErrorCounts). is_silent (state_of k)) (s.counts i (omega (arith, below, s.within)));
  live = λ i below live. s.counts i (omega (arith, below, s.within));
}

-- attempts that are the same at sixteen places have the same judgement
pub judged_same : (t u : Transmission) → SameToSixteen t u → judged t ≡ judged u
judged_same t u s =
    let l : SameToTheLive t u = same_to_the_live t u s in
    let after : (i : ℕ) → i < 16 → counts_after t i ≡ counts_after u i = λ i below. same_counts t u l i (s.counts i below) in
    let winner : counts_after t t.winner ≡ counts_after u u.winner = after t.winner (omega (arith, s.winner_there, s.within)) ∙ ap (counts_after u) s.winner in
    same_judgement (judged t) (judged u)
    (same_class t u l)
    (ap set_of (ap (λ (k : Class). accepted_in k t) (same_class t u l) ∙ same_accepted (class_of u) t u (same_unhurt t u l)))
    (ap set_of (same_hit t u l))
    (fill_by_all (counts_after u) (map (counts_after t) (range_with_len 0 16)) 16 at_start (length-map-range_with_len (counts_after t) 0 16) (λ k below. get_or-map-range_with_len (counts_after t) 0 16 k k at_start below (omega arith) ∙ after k below))
    (ap (λ (k : ErrorCounts). set_of (if is_off (state_of k) then t.winner ∷ [] else [])) winner ∙ ap (λ (w : ℕ). set_of (if is_off (state_of (counts_after u u.winner)) then w ∷ [] else [])) s.winner)
