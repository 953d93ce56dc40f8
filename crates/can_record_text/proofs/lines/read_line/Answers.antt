use Rattle.std.proofs.Common.{◌≡◌, ◌++◌, ◌∙◌, IsTrue, [], ap, sym, subst, arith, List, ℕ}
use Rattle.can_event.specs.declared.entry.Entry.{Entry}
use Rattle.can_record_text.specs.declared.fault.Unread.TheVariants as unread
use Rattle.can_record_text.specs.Values.{HasLine}
use Rattle.can_record_text.specs.Spelling.{entry_words, entry_line}
use Rattle.can_record_text.proofs.Again.{refused, same_entry, spell-rest, kept}
use Rattle.can_record_text.proofs.lines.read_line.Goals as goal

pub returns-in-Err-clause-bad : goal.returns-in-Err-clause-bad
returns-in-Err-clause-bad c = λ bad e rest s is.
    let refused_only : c.in-Err.why ≡ unread.NoMemory = refused c.in-Err.why c.args.text.now c.in-Err.ensures c.args.version c.args.config e rest s is in
    absurd cc

pub returns-then-not-has_line-clause-bad : goal.returns-then-not-has_line-clause-bad
returns-then-not-has_line-clause-bad c = λ bad e rest s is.
    let h : IsTrue c.has_line.result = c.has_line.ensures.no (subst (HasLine c.args.version c.args.config) (same_entry c.in-Ok.read c.args.text.now c.in-Ok.ensures c.args.version c.args.config e rest s is) s) in
    grind (arith, h, c.if-not-has_line.true)

pub returns-then-not-begins-clause-bad : goal.returns-then-not-begins-clause-bad
returns-then-not-begins-clause-bad c = λ bad e rest s is.
    let same : e ≡ c.in-Ok.read = same_entry c.in-Ok.read c.args.text.now c.in-Ok.ensures c.args.version c.args.config e rest s is in
    let written : c.deref.result.now ≡ entry_line e [] = c.deref.ensures.value ∙ kept c.clear.new.self.items c.put_answered.new.out.items (entry_line c.in-Ok.read []) c.clear.ensures.items c.in-Ok-put_answered.ensures ∙ ap (λ (x : Entry). entry_line x []) (sym same) in
    let h : IsTrue c.begins.result = c.begins.ensures.no rest (is ∙ sym (spell-rest (entry_words e) rest) ∙ ap (λ (x : List ℕ). x ++ rest) (sym written)) in
    grind (arith, h, c.if-not-begins.true)
