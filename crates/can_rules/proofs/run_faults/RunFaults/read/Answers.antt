use Rattle.std.proofs.Common.{◌≡◌, ◌+◌, ℕ, List, length, drop, Ok, Err, sym, ap, ◌∙◌, subst, lit<, arith}
use Rattle.std.specs.Prelude.{IsTrue}
use Rattle.std.specs.List.{list_any}
use Rattle.std.proofs.lemmas.List.{length_push, at_drop_all}
use Rattle.std.proofs.lemmas.Iterator.Consumers.{YieldsList-turn, YieldsList-end}
use Rattle.std.proofs.lemmas.Iterator.Splits.{YieldsList-from_str_split}
use Rattle.can_fault.specs.Scripts.{lines_in}
use Rattle.can_rules.specs.Plans.{has_bytes, gone_on}
use Rattle.can_rules.specs.RunFaults.{run_line, run_lines, TakesRunLine}
use Rattle.can_rules.proofs.Planning.{line-turn, any-first, any-later, ReadsRunFaults-turn}
use Rattle.can_rules.proofs.run_faults.RunFaults.read.Goals as goal

pub returns-in-Err : goal.returns-in-Err
returns-in-Err c =
    let names = c.args.names in
    let lines = lines_in c.args.text.now in
    let n = length c.loop-line.yielded in
    let line : List ℕ = c.in-Some.line.now in
    let t = YieldsList-turn (YieldsList-from_str_split 10 c.args.text.now (lit< tt) (cc) (cc) (cc)) c.loop-line.yielded _ c.loop-line.yielded_by _ _ c.in-Some.line c.in-Some.is c.next.ensures.steps in
    let known = c.loop-line.faults in
    ReadsRunFaults-turn names c.args.text.now known c.take_line.new.self (c.loop-line.number + 1) line (drop (n + 1) lines) c.in-Err.fault
    (c.loop-line.invariant.spelled ∙ line-turn (run_lines names known (c.loop-line.number + 1)) lines n line t)
    (λ h. c.loop-line.invariant.memory (subst IsTrue (sym (line-turn (list_any has_bytes) lines n line t)) (any-first line (drop (n + 1) lines) h)))
    (subst (λ (ns : List (List ℕ)). TakesRunLine ns line (c.loop-line.number + 1) known (Err c.in-Err.fault) c.take_line.new.self) c.loop-line.invariant.names
    (subst (λ r. TakesRunLine known.names line (c.loop-line.number + 1) known r c.take_line.new.self) c.in-Err.is c.take_line.ensures.taken))

pub loop-line-preserved : goal.loop-line-preserved
loop-line-preserved c =
    let names = c.args.names in
    let lines = lines_in c.args.text.now in
    let n = length c.loop-line.yielded in
    let line : List ℕ = c.in-Some.line.now in
    let t = YieldsList-turn (YieldsList-from_str_split 10 c.args.text.now (lit< tt) (cc) (cc) (cc)) c.loop-line.yielded _ c.loop-line.yielded_by _ _ c.in-Some.line c.in-Some.is c.next.ensures.steps in
    let known = c.loop-line.faults in
    let new = c.take_line.new.self in
    let number = c.loop-line.number + 1 in
    let more = length_push c.loop-line.yielded c.in-Some.line in
    let taken : run_line names known number line ≡ Ok new =
    subst (λ (ns : List (List ℕ)). run_line ns known number line ≡ Ok new) c.loop-line.invariant.names
    (subst (λ r. TakesRunLine known.names line number known r new) c.in_default.is c.take_line.ensures.taken) in
    record {
      number = omega (arith, more, c.loop-line.invariant.number);
      names = c.take_line.ensures.names ∙ c.loop-line.invariant.names;
      spelled =
          c.loop-line.invariant.spelled
          ∙ line-turn (run_lines names known number) lines n line t
          ∙ ap (λ r. gone_on r (λ next. run_lines names next (number + 1) (drop (n + 1) lines))) taken
          ∙ ap (λ (m : ℕ). run_lines names new (number + 1) (drop m lines)) (sym more);
      memory = λ h.
          c.loop-line.invariant.memory (subst IsTrue (sym (line-turn (list_any has_bytes) lines n line t))
          (any-later line (drop (n + 1) lines) (subst IsTrue (ap (λ (m : ℕ). list_any has_bytes (drop m lines)) more) h)));
    }

pub returns : goal.returns
returns c =
    let names = c.args.names in
    let lines = lines_in c.args.text.now in
    let t = YieldsList-end (YieldsList-from_str_split 10 c.args.text.now (lit< tt) (cc) (cc) (cc)) c.loop-line.yielded _ c.loop-line.yielded_by _ _ c.in-None.is c.next.ensures.steps in
    c.loop-line.invariant.spelled
    ∙ at_drop_all (run_lines names c.loop-line.faults (c.loop-line.number + 1)) lines (length c.loop-line.yielded) (omega (arith, t.1))
