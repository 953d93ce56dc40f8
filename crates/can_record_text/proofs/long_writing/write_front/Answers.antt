use Rattle.std.proofs.Common.{◌≡◌, ◌∙◌, [], List, ℕ, subst}
use Rattle.can_record_text.specs.Lines.{LineGoesOut}
use Rattle.can_record_text.specs.declared.version.Version.TheVariants as version
use Rattle.can_record_text.specs.Spelling.{front_lines}
use Rattle.can_record_text.proofs.Again.{kept}
use Rattle.can_record_text.proofs.long_writing.write_front.Goals as goal

pub returns : goal.returns
returns g c =
    let lines = front_lines version.Four c.args.config [] in
    let written : c.deref.result.now ≡ lines = c.deref.ensures.value ∙ kept c.new-front.result.items c.put_front.new.out.items lines c.new-front.ensures.items c.in_ok-put_front.ensures in
    subst (λ (l : List ℕ). LineGoesOut (g.W.Write.contents c.args.writer.now) (g.W.Write.contents c.write_line.new.writer) l c.write_line.result) written c.write_line.ensures
