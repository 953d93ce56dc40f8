use Rattle.std.proofs.Common.{Some, codes, sym}
use Rattle.std.proofs.lemmas.Bool.Decides.{Decides-eqb}
use Rattle.std.proofs.lemmas.Slice.Eq.{strip_prefix_is}
use Rattle.can_record_text.proofs.Fronts.{received_at}
use Rattle.can_record_text.proofs.event_reading.receive_front.Goals as goal

pub returns : goal.returns
returns c =
    let stands = strip_prefix_is Decides-eqb c.args.text.now (codes "receive ") (Some c.in_ok-rest.rest) c.in_ok-rest.ensures.cases in
    (c.in_ok-id.field-0-1.now, received_at c.args.text.now c.in_ok-rest.rest.now c.in_ok-id.field-0-1.now c.in_ok-id.id stands (sym c.in_ok-id.ensures))
