use Rattle.std.proofs.Common.{◌≡◌, ◌+◌, ℕ, List, map, length, drop, Ok, refl, sym, ap, ◌∙◌, subst, lit<, arith}
use Rattle.std.specs.Prelude.{IsTrue}
use Rattle.std.proofs.lemmas.List.{length_push, at_drop_all}
use Rattle.std.proofs.lemmas.Iterator.Consumers.{YieldsList-turn, YieldsList-end}
use Rattle.std.proofs.lemmas.Iterator.Splits.{YieldsList-from_str_split}
use Rattle.can_fault.specs.Scripts.{Saying, lines_in, line_spelling, line_after, spelled_after, takes_memory, TakesLine}
use Rattle.can_fault.proofs.Sayings.{said-turn, spelled_then, spelled_after-turn, takes_memory-more, Reads-turn}
use Rattle.can_fault.proofs.script.Script.read.Goals as goal

pub returns-in-Err : goal.returns-in-Err
returns-in-Err c =
    let names = c.args.names.now in
    let lines = lines_in c.args.text.now in
    let n = length c.loop-line.yielded in
    let t = YieldsList-turn (YieldsList-from_str_split 10 c.args.text.now (lit< tt) (cc) (cc) (cc)) c.loop-line.yielded _ c.loop-line.yielded_by _ _ c.in-Some.line c.in-Some.is c.next.ensures.steps in
    let known = c.loop-line.script in
    let saying : Saying = line_spelling names c.in-Some.line.now in
    let rest : List Saying = map (line_spelling names) (drop (n + 1) lines) in
    Reads-turn names c.args.text.now known c.take_line.new.self (c.loop-line.number + 1) saying rest c.in-Err.fault
    (c.loop-line.invariant.spelled ∙ said-turn (spelled_after known (c.loop-line.number + 1)) names lines n c.in-Some.line.now saying t refl)
    (λ h. c.loop-line.invariant.memory (subst IsTrue (sym (said-turn takes_memory names lines n c.in-Some.line.now saying t refl)) h))
    (subst (λ r. TakesLine saying (c.loop-line.number + 1) known r c.take_line.new.self) c.in-Err.is c.take_line.ensures)

pub loop-line-preserved : goal.loop-line-preserved
loop-line-preserved c =
    let names = c.args.names.now in
    let lines = lines_in c.args.text.now in
    let n = length c.loop-line.yielded in
    let t = YieldsList-turn (YieldsList-from_str_split 10 c.args.text.now (lit< tt) (cc) (cc) (cc)) c.loop-line.yielded _ c.loop-line.yielded_by _ _ c.in-Some.line c.in-Some.is c.next.ensures.steps in
    let known = c.loop-line.script in
    let new = c.take_line.new.self in
    let number = c.loop-line.number + 1 in
    let saying : Saying = line_spelling names c.in-Some.line.now in
    let more = length_push c.loop-line.yielded c.in-Some.line in
    let rest : List Saying = map (line_spelling names) (drop (n + 1) lines) in
    let taken : line_after known number saying ≡ Ok new = subst (λ r. TakesLine saying number known r new) c.in_default.is c.take_line.ensures in
    record {
      number = omega (arith, more, c.loop-line.invariant.number);
      spelled =
          c.loop-line.invariant.spelled
          ∙ said-turn (spelled_after known number) names lines n c.in-Some.line.now saying t refl
          ∙ spelled_after-turn known number saying rest
          ∙ ap (λ r. spelled_then r (number + 1) rest) taken
          ∙ ap (λ (m : ℕ). spelled_after new (number + 1) (map (line_spelling names) (drop m lines))) (sym more);
      memory = λ h.
          c.loop-line.invariant.memory (subst IsTrue (sym (said-turn takes_memory names lines n c.in-Some.line.now saying t refl))
          (takes_memory-more known new number saying rest taken (subst IsTrue (ap (λ (m : ℕ). takes_memory (map (line_spelling names) (drop m lines))) more) h)));
    }

pub returns : goal.returns
returns c =
    let names = c.args.names.now in
    let lines = lines_in c.args.text.now in
    let t = YieldsList-end (YieldsList-from_str_split 10 c.args.text.now (lit< tt) (cc) (cc) (cc)) c.loop-line.yielded _ c.loop-line.yielded_by _ _ c.in-None.is c.next.ensures.steps in
    c.loop-line.invariant.spelled
    ∙ at_drop_all (λ ls. spelled_after c.loop-line.script (c.loop-line.number + 1) (map (line_spelling names) ls)) lines (length c.loop-line.yielded) (omega (arith, t.1))
