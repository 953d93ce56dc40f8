use Rattle.std.proofs.Common.{◌≡◌, Bool, ◌||◌, List, [], ◌∷◌, map, get_or, if◌then◌else◌, arith, ap, ◌∙◌}
use Rattle.std.specs.List.{range_with_len}
use Rattle.std.proofs.lemmas.List.FromFn.{get_or-map-range_with_len}
use Rattle.can_confine.specs.Confinement.{ErrorCounts, is_off, state_of}
use Rattle.can_attempt.specs.declared.class.Class.{Class}
use Rattle.can_attempt.specs.Attempts.{Transmission, attempt_between, counts_in, counts_after, class_of, class_when, is_global, is_always, is_last_bit, is_destroyed, set_of, accepted_in}
use Rattle.can_attempt.specs.Surveys.{IsSurveyOf}
use Rattle.can_attempt.proofs.Judged.{same_judgement}
use Rattle.can_attempt.proofs.judging.judge_each.Goals as goal

pub returns : goal.returns
returns c =
    let t : Transmission = attempt_between c.args.nodes.now c.args.winner c.args.verdict c.args.ack in
    let seen : IsSurveyOf t c.survey_of-seen.result = c.survey_of-seen.ensures c.args.ack in
    let class : c.class_of-class.result ≡ class_of t =
    c.class_of-class.ensures
    ∙ ap (λ (b : Bool). class_when (is_global c.args.verdict || b) (is_always c.args.ack || c.survey_of-seen.result.is_heard) (is_last_bit c.args.verdict)) seen.active
    ∙ ap (λ (b : Bool). class_when (is_destroyed t) (is_always c.args.ack || b) (is_last_bit c.args.verdict)) seen.heard in
    let counters : c.all_counters_after-counters.result ≡ map (counts_after t) (range_with_len 0 16) =
    c.all_counters_after-counters.ensures c.args.ack
    ∙ ap (λ (k : Class). map (counts_in k t) (range_with_len 0 16)) class in
    let winner : get_or c.all_counters_after-counters.result c.number.result c.index-counters-number.result ≡ counts_after t c.args.winner =
    ap (λ (xs : List ErrorCounts). get_or xs c.number.result c.index-counters-number.result) counters
    ∙ get_or-map-range_with_len (counts_after t) 0 16 c.number.result c.args.winner c.index-counters-number.result c.number.ensures.below (omega (arith, c.number.ensures.number)) in
    same_judgement _ _ class
    (c.accepted_of.ensures t seen.unhurt ∙ ap (λ (k : Class). set_of (accepted_in k t)) class)
    seen.hit
    counters
    (c.off_of.ensures ∙ ap (λ (k : ErrorCounts). set_of (if is_off (state_of k) then c.args.winner ∷ [] else [])) winner)
