use Rattle.std.proofs.Common.{refl, sym, ◌∙◌, arith}
use Rattle.std.proofs.KnownBytes.{Keeps-refl}
use Rattle.can_session.specs.Lines.{left_of}
use Rattle.can_session.proofs.Inputs.{takes}
use Rattle.can_session.proofs.lines.Lines.take_held.Goals as goal

pub returns-in-Line-clause-took : goal.returns-in-Line-clause-took
returns-in-Line-clause-took g c =
    let old = c.args.self.now in
    takes old old c.give.new.self c.in-Line.len (sym c.is_over.ensures.ended ∙ c.if-is_over.false) refl (record { same = Keeps-refl (left_of old); given = refl; reads = record { more = omega arith; bytes = omega arith } }) (rw c.held.ensures at c.in-Line.ensures) c.give.ensures.given
