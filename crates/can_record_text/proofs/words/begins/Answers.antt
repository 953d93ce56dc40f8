use Rattle.std.proofs.Common.{ap, sym, take, length, drop, length-append, arith}
use Rattle.std.proofs.lemmas.Bool.Decides.{Decides-eqb, Decides-like, same_from_decides}
use Rattle.std.proofs.lemmas.Slice.Eq.{bytes_eq-Decides, slice_eq-Decides, starts_is}
use Rattle.can_record_text.proofs.words.begins.Goals as goal

pub returns-clause-yes : goal.returns-clause-yes
returns-clause-yes c = (starts_is Decides-eqb c.args.text.now c.args.front.now c.starts_with.result c.starts_with.ensures.value).0

pub returns-clause-no : goal.returns-clause-no
returns-clause-no c = (starts_is Decides-eqb c.args.text.now c.args.front.now c.starts_with.result c.starts_with.ensures.value).1

pub returns-clause-value : goal.returns-clause-value
returns-clause-value c =
    let front = c.args.front.now in
    let there = take (length front) c.args.text.now in
    same_from_decides _ _ (Decides-like c.starts_with.result sym sym (slice_eq-Decides Decides-eqb front there c.starts_with.result c.starts_with.ensures.value)) (bytes_eq-Decides there front)

pub returns-clause-within : goal.returns-clause-within
returns-clause-within c = λ yes.
    let is = (starts_is Decides-eqb c.args.text.now c.args.front.now c.starts_with.result c.starts_with.ensures.value).0 yes in
    omega (arith, ap length is, length-append c.args.front.now (drop (length c.args.front.now) c.args.text.now))
