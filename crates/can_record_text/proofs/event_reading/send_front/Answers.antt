use Rattle.std.proofs.Common.{Some, codes}
use Rattle.std.proofs.lemmas.Bool.Decides.{Decides-eqb}
use Rattle.std.proofs.lemmas.Slice.Eq.{strip_prefix_is}
use Rattle.can_record_text.proofs.Fronts.{sent_at}
use Rattle.can_record_text.proofs.event_reading.send_front.Goals as goal

pub returns : goal.returns
returns c =
    let rest = c.in_ok-strip_prefix.field-0 in
    let stands = strip_prefix_is Decides-eqb c.args.text.now (codes "send ") (Some rest) c.in_ok-strip_prefix.ensures.cases in
    sent_at c.args.text.now rest.now c.send_fields.result stands c.send_fields.ensures
