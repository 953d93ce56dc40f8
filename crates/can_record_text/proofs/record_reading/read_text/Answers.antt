use Rattle.std.proofs.Common.{◌∙◌, Err, ◌≡◌, Bool, List, [], ℕ, ap, inl, inr, subst, sym}
use Rattle.can_record_text.specs.RecordFaults.{Ends}
use Rattle.can_event.specs.declared.entry.Entry.{Entry}
use Rattle.can_record_text.specs.declared.needs.Needs.{Needs}
use Rattle.can_record_text.specs.declared.version.Version.{Version}
use Rattle.can_record_text.specs.Spelling.{all_needs, bus_words, end_words, front_lines, is_needless, spell}
use Rattle.can_record_text.proofs.Whole.{whole_text, end_is_wrong, made_text, needless_text, short_fault}
use Rattle.can_record_text.proofs.record_reading.read_text.Goals as goal

-- the needs of the entries that were read
needed : {b : Bool} (v : Version) (es ds : List Entry) (n : Needs) → ds ≡ es → n ≡ all_needs ds → is_needless v n ≡ b → is_needless v (all_needs es) ≡ b
needed v es ds n same is told = ap (λ (xs : List Entry). is_needless v (all_needs xs)) (sym same) ∙ ap (is_needless v) (sym is) ∙ told

pub returns-in-Err-read_end : goal.returns-in-Err-read_end
returns-in-Err-read_end c =
    let front = c.in-Ok.ensures.front in
    short_fault c.in-Ok.front.0 c.args.text.now (spell (bus_words c.in-Ok.front.0 c.in-Ok.front.1) c.in-Ok.front.2.now) c.in-Err-read_end.why c.in-Ok.ensures.short front.begins
    (end_is_wrong Unit c.in-Err-read_end.why c.in-Ok.front.0 c.args.text.now c.in-Ok-read_lines.rest.now c.in-Ok.front.1 c.read_lines.new.entries.items
    (record { bus = front.good; lines = c.in-Ok-read_lines.ensures.have }) (front.begins ∙ ap (front_lines c.in-Ok.front.0 c.in-Ok.front.1) c.in-Ok-read_lines.ensures.lines) c.in-Ok-read_lines.ensures.stops
    (subst (λ (n : ℕ). Ends {A = Unit {0}} n c.in-Ok-read_lines.rest.now (Err c.in-Err-read_end.why)) (c.len.ensures ∙ c.read_lines.new.entries.ok.0) c.in-Err-read_end.ensures))

pub returns-then-is_needless : goal.returns-then-is_needless
returns-then-is_needless c =
    let front = c.in-Ok.ensures.front in
    let begins = front.begins ∙ ap (front_lines c.in-Ok.front.0 c.in-Ok.front.1) c.in-Ok-read_lines.ensures.lines in
    inl
    (inr
    (needless_text c.args.text.now c.in-Ok.front.0 c.in-Ok.front.1 c.read_lines.new.entries.items (record { bus = front.good; lines = c.in-Ok-read_lines.ensures.have })
    (whole_text c.in-Ok.front.0 c.args.text.now c.in-Ok-read_lines.rest.now c.in-Ok.front.1 c.read_lines.new.entries.items begins (c.in-Ok-read_end.ensures ∙ ap (λ (n : ℕ). spell (end_words n) []) (c.len.ensures ∙ c.read_lines.new.entries.ok.0)))
    (needed c.in-Ok.front.0 c.read_lines.new.entries.items c.deref.result.now c.of_entries.result c.deref.ensures.value c.of_entries.ensures (sym c.is_needless.ensures ∙ c.if-is_needless.true))))

pub returns : goal.returns
returns c =
    let front = c.in-Ok.ensures.front in
    let begins = front.begins ∙ ap (front_lines c.in-Ok.front.0 c.in-Ok.front.1) c.in-Ok-read_lines.ensures.lines in
    made_text c.args.text.now c.in-Ok.front.0 c.in-Ok.front.1 c.from_spelled.result.config c.read_lines.new.entries.items c.from_spelled.result.history c.from_spelled.ensures.config c.from_spelled.ensures.history
    (record { bus = front.good; lines = c.in-Ok-read_lines.ensures.have })
    (whole_text c.in-Ok.front.0 c.args.text.now c.in-Ok-read_lines.rest.now c.in-Ok.front.1 c.read_lines.new.entries.items begins (c.in-Ok-read_end.ensures ∙ ap (λ (n : ℕ). spell (end_words n) []) (c.len.ensures ∙ c.read_lines.new.entries.ok.0)))
    (needed c.in-Ok.front.0 c.read_lines.new.entries.items c.deref.result.now c.of_entries.result c.deref.ensures.value c.of_entries.ensures (sym c.is_needless.ensures ∙ c.if-is_needless.false))
