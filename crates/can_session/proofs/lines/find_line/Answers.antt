use Rattle.std.proofs.Common.{◌≡◌, ◌≤◌, ℕ, List, length, take, drop, ◌-◌, Option, sym, ap, ◌∙◌, arith}
use Rattle.std.specs.List.{list_any, position}
use Rattle.std.proofs.lemmas.List.{take_all, take_rest}
use Rattle.can_session.specs.Lines.{is_lf}
use Rattle.can_session.proofs.Searches.{found, missed}
use Rattle.can_session.proofs.lines.find_line.Goals as goal

-- the bytes to search, as a slice of the held bytes
rest : (o : Option ℕ) (xs : List ℕ) (n : ℕ) → o ≡ position is_lf (take (length xs - n) (drop n xs)) → o ≡ position is_lf (drop n xs)
rest o xs n h = h ∙ ap (λ l. position is_lf l) (take_rest xs n)

pub returns-in-Some : goal.returns-in-Some
returns-in-Some c =
    found c.args.held.now c.min.result c.args.searched c.in-Some.more (omega arith) (omega arith) (omega arith) c.requires.unbroken
    (rest _ (take c.min.result c.args.held.now) c.args.searched c.in-Some.ensures.place) (rw take_rest at c.in-Some.ensures.within)

pub returns-in-None : goal.returns-in-None
returns-in-None c =
    let all : c.min.result ≡ 4097 = omega arith in
    let clear = missed c.args.held.now c.min.result c.args.searched (omega arith) (omega arith) c.requires.unbroken (rest _ (take c.min.result c.args.held.now) c.args.searched c.in-None.ensures.place) in
    record { long = omega arith; unbroken = rw (← all) clear }

pub returns-in-None-2 : goal.returns-in-None-2
returns-in-None-2 c =
    let all : length c.args.held.now ≤ c.min.result = omega arith in
    let clear = missed c.args.held.now c.min.result c.args.searched (omega arith) (omega arith) c.requires.unbroken (rest _ (take c.min.result c.args.held.now) c.args.searched c.in-None.ensures.place) in
    record { unbroken = ap (λ l. list_any is_lf l) (sym (take_all c.min.result c.args.held.now all)) ∙ clear; short = omega arith }
