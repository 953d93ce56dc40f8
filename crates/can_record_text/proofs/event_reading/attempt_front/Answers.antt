use Rattle.std.proofs.Common.{Some, codes}
use Rattle.std.proofs.lemmas.Bool.Decides.{Decides-eqb}
use Rattle.std.proofs.lemmas.Slice.Eq.{strip_prefix_is}
use Rattle.can_record_text.proofs.Fronts.{attempted_at}
use Rattle.can_record_text.proofs.event_reading.attempt_front.Goals as goal

pub returns : goal.returns
returns c =
    let rest = c.in_ok-strip_prefix.field-0 in
    let stands = strip_prefix_is Decides-eqb c.args.text.now (codes "attempt ") (Some rest) c.in_ok-strip_prefix.ensures.cases in
    attempted_at c.args.text.now rest.now c.attempt_fields.result stands c.attempt_fields.ensures
