use Rattle.std.proofs.Common.{◌≡◌, Bool, true, false, not, refl, sym, ◌∙◌, arith}
use Rattle.can_session.proofs.Heard.{whole}
use Rattle.can_session.proofs.ignored_input.is_message.Goals as goal

has_none : (b : Bool) → not b ≡ true → b ≡ false
has_none false h = refl
has_none true h = sym h

pub returns-in-60 : goal.returns-in-60
returns-in-60 c closed = whole c.args.bytes.now c.in-60.len_at_least (omega arith) (omega arith) (sym c.has_marks.ensures ∙ has_none c.has_marks.result closed)
