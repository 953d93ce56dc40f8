-- The bytes after the lines that were taken do not begin with a valid next line of a record.
use Rattle.std.proofs.Common.{◌≡◌, ◌≢◌, ◌+◌, ◌⊎◌, ℕ, inl, inr, Bool, true, false, All, List, [], ◌∷◌, ◌++◌, length, Some, Err, append_assoc, refl, sym, ap, subst, ◌∙◌}
use Rattle.std.proofs.lemmas.List.{append-nil, append_cancel_left}
use Rattle.std.proofs.lemmas.List.Elements.{All-nil, All-push}
use Rattle.std.proofs.lemmas.Option.{same_Some}
use Rattle.can_event.specs.declared.bus_config.BusConfig.{BusConfig}
use Rattle.can_event.specs.declared.entry.Entry.{Entry}
use Rattle.can_record_text.specs.declared.fault.ReadFault.{ReadFault}
use Rattle.can_record_text.specs.declared.fault.ReadFault.TheVariants as fault
use Rattle.can_record_text.specs.declared.version.Version.{Version}
use Rattle.can_record_text.specs.RecordFaults.{IsFirstWrong, LacksBus, LacksEntry, Reads}
use Rattle.can_record_text.specs.Spelling.{bus_words, end_words, entry_line, entry_lines, first_line, front_lines, spell}
use Rattle.can_record_text.specs.Values.{HasLine, HasLines}
use Rattle.can_record_text.proofs.Again.{spell-rest}
use Rattle.can_record_text.proofs.LineLists.{lines-more}
use Rattle.can_record_text.proofs.Whole.{end_lacks, front-then, text-then}
use Rattle.can_replay.specs.declared.entry_audit.EntryAudit.{EntryAudit}
use Rattle.can_replay.specs.declared.text_audit.Phase.{Phase}
use Rattle.can_replay.specs.declared.text_audit.Phase.TheVariants as phase
use Rattle.can_replay.specs.inner.EntryAudits.{IsGoing, so_far}
use Rattle.can_replay.specs.TextAudits.{EndsLine, EndsNoLine, HasBus, HasCome, IsFrontOf, IsLine, LacksFront, MayFollow, bus_taken}
use Rattle.can_replay.proofs.GoingOn.{last_of, one_bus, one_list, one_version, read_rest}
use Rattle.can_replay.proofs.LineEnds.{bus_through, cut_entry, first_through, lacks_entry, same_line, torn_bus, torn_entry, torn_first}
use Rattle.can_replay.proofs.Uncut.{no_front}

-- The rest of the text does not begin with the next line of a record: one of the first two lines or the line of an
-- entry.
abbrev pub LacksNext : (text rest : List ℕ) (p : Phase) → HasCome text p → Type 0
LacksNext text rest (phase.Entries b) come = LacksEntry b.version b.config (last_of b.is_ended come.read.entries ++ rest)
LacksNext text rest p come = LacksFront (text ++ rest)

-- ---- a line is faulty, whatever bytes follow it

module _ (text line rest : List ℕ) (why : ReadFault) (known : why ≢ fault.NoMemory) (is : IsLine line) (end : EndsLine line) (may : MayFollow line rest) (fails : (more : List ℕ) → Reads (text ++ (line ++ more)) (Err why)) where
  ended : EndsLine (text ++ line)
  ended = (text ++ end.0, ap (λ (x : List ℕ). text ++ x) end.1 ∙ sym (append_assoc text end.0 (10 ∷ [])))

  none : (after : List ℕ) (c : BusConfig) (es : List Entry) → IsFrontOf ((text ++ line) ++ after) c es → ⊥
  none after = no_front (text ++ line) after why known ended (λ more. subst (λ (x : List ℕ). Reads x (Err why)) (sym (append_assoc text line more)) (fails more))

  at_start : text ≡ [] → LacksFront (text ++ (line ++ rest))
  unfolding entry_lines
  at_start empty v c r good begins =
      let here : line ++ rest ≡ front_lines v c r = ap (λ (x : List ℕ). x ++ (line ++ rest)) (sym empty) ∙ begins in
      let first : line ≡ first_line v = same_line line rest (front_lines v c r) (first_line v) may here (first_through v (spell (bus_words v c) r)) in
      let bus = spell (bus_words v c) [] in
      none bus c [] (record {
        version = v;
        torn = [];
        good = record { bus = good; lines = All-nil (HasLine v c) };
        begins = ap (λ (x : List ℕ). (x ++ line) ++ bus) empty ∙ ap (λ (x : List ℕ). x ++ bus) first;
        unended = All-nil (λ b. b ≢ 10);
      })

  at_front : (w : Version) → text ≡ first_line w → LacksFront (text ++ (line ++ rest))
  unfolding entry_lines
  at_front w first v c r good begins =
      let here : first_line w ++ (line ++ rest) ≡ first_line v ++ spell (bus_words v c) r = ap (λ (x : List ℕ). x ++ (line ++ rest)) (sym first) ∙ begins in
      let same : w ≡ v = one_version w v (line ++ rest) (spell (bus_words v c) r) here in
      let next : line ++ rest ≡ spell (bus_words v c) r =
      append_cancel_left (first_line v) _ _ (ap (λ (u : Version). first_line u ++ (line ++ rest)) (sym same) ∙ here) in
      let bus : line ≡ spell (bus_words v c) [] = same_line line rest (spell (bus_words v c) r) (spell (bus_words v c) []) may next (bus_through v c r good) in
      none [] c [] (record {
        version = v;
        torn = [];
        good = record { bus = good; lines = All-nil (HasLine v c) };
        begins = append-nil (text ++ line) ∙ ap (λ (x : List ℕ). x ++ line) (first ∙ ap first_line same) ∙ ap (λ (x : List ℕ). first_line v ++ x) bus;
        unended = All-nil (λ b. b ≢ 10);
      })

  at_entries : (is_ended : Bool) (v : Version) (c : BusConfig) (es : List Entry) → HasLines v c es → text ≡ so_far is_ended v c es → LacksEntry v c (last_of is_ended es ++ (line ++ rest))
  at_entries true v c es good begins =
      subst (LacksEntry v c) (sym (spell-rest (end_words (length es)) (line ++ rest))) (end_lacks v c (length es) (line ++ rest))
  at_entries false v c es good begins = lacks_entry v c line rest may (λ e more h spelled.
      let one : line ≡ entry_line e [] = cut_entry v c line more e is h spelled in
      none [] c (es ++ e ∷ []) (record {
        version = v;
        torn = [];
        good = record { bus = good.bus; lines = All-push (HasLine v c) es e good.lines h };
        begins = append-nil (text ++ line) ∙ ap (λ (x : List ℕ). x ++ line) begins ∙ front-then v c (entry_lines es []) line
            ∙ ap (front_lines v c) (ap (λ (x : List ℕ). entry_lines es [] ++ x) one ∙ lines-more es e);
        unended = All-nil (λ b. b ≢ 10);
      }))

  pub line_lacks : (p : Phase) (come : HasCome text p) → LacksNext text (line ++ rest) p come
  line_lacks phase.Start come = at_start come
  line_lacks (phase.Front w) come = at_front w come
  line_lacks (phase.Entries b) come = at_entries b.is_ended b.version b.config come.read.entries come.read.good come.read.begins
  line_lacks (phase.Failed what) come = absurd come

-- ---- bytes with no LF

torn_next : (is_ended : Bool) (v : Version) (c : BusConfig) (es : List Entry) (torn : List ℕ) → EndsNoLine torn → LacksEntry v c (last_of is_ended es ++ torn)
torn_next true v c es torn unended = subst (LacksEntry v c) (sym (spell-rest (end_words (length es)) torn)) (end_lacks v c (length es) torn)
torn_next false v c es torn unended = torn_entry v c torn unended

pub torn_lacks : (text torn : List ℕ) (p : Phase) (come : HasCome text p) → EndsNoLine torn → LacksNext text torn p come
torn_lacks text torn phase.Start come unended = λ v c r good begins.
    torn_first torn unended v (spell (bus_words v c) r) (ap (λ (x : List ℕ). x ++ torn) (sym come) ∙ begins)
torn_lacks text torn (phase.Front w) come unended = λ v c r good begins.
    let here : first_line w ++ torn ≡ first_line v ++ spell (bus_words v c) r = ap (λ (x : List ℕ). x ++ torn) (sym come) ∙ begins in
    let same : w ≡ v = one_version w v torn (spell (bus_words v c) r) here in
    torn_bus v torn unended c r good (append_cancel_left (first_line v) _ _ (ap (λ (u : Version). first_line u ++ torn) (sym same) ∙ here))
torn_lacks text torn (phase.Entries b) come unended = torn_next b.is_ended b.version b.config come.read.entries torn unended
torn_lacks text torn (phase.Failed what) come unended = absurd come

-- ---- the first wrong line

-- If all entries of a text are known, the first wrong line is the line after the entries or the line after the end
-- line.
pub next_wrong : (text rest : List ℕ) (n : ℕ) (v : Version) (c : BusConfig) (es : List Entry) → HasLines v c es → text ≡ front_lines v c (entry_lines es rest) → LacksEntry v c rest → IsFirstWrong text n → (n ≡ length es + 3) ⊎ (n ≡ length es + 4)
next_wrong text rest n v c es good begins lacks (inl h) =
    let here : first_line v ++ spell (bus_words v c) (entry_lines es rest) ≡ first_line h.version ++ h.rest = sym begins ∙ h.begins in
    let same : v ≡ h.version = one_version v h.version _ _ here in
    let next : spell (bus_words v c) (entry_lines es rest) ≡ h.rest =
    append_cancel_left (first_line v) _ _ (here ∙ ap (λ (u : Version). first_line u ++ h.rest) (sym same)) in
    absurd (subst (λ (u : Version). LacksBus u h.rest) (sym same) h.wrong c (entry_lines es rest) good.bus (sym next))
next_wrong text rest n v c es good begins lacks (inr (inl h)) =
    let same = one_list v h.version c h.config es h.entries rest h.rest good h.whole lacks h.wrong (sym begins ∙ h.begins) in
    inl (h.next ∙ ap (λ (xs : List Entry). length xs + 3) (sym same))
next_wrong text rest n v c es good begins lacks (inr (inr h)) =
    let more = spell (end_words (length h.entries)) h.rest in
    let same = one_list v h.version c h.config es h.entries rest more good h.whole lacks (end_lacks h.version h.config (length h.entries) h.rest)
    (sym begins ∙ h.begins ∙ text-then h.version h.config h.entries h.rest) in
    inr (h.behind ∙ ap (λ (xs : List Entry). length xs + 4) (sym same))

-- ---- the bus of a text

-- If the bus's line was taken, the text has this bus.
pub has_bus : (text rest : List ℕ) (p : Phase) (c : BusConfig) → HasCome text p → bus_taken p ≡ Some c → HasBus (text ++ rest) c
has_bus text rest phase.Start c come is = absurd cc
has_bus text rest (phase.Front w) c come is = absurd cc
has_bus text rest (phase.Entries b) c come is =
    let same : b.config ≡ c = same_Some b.config c is in
    subst (HasBus (text ++ rest)) same (b.version, entry_lines come.read.entries (last_of b.is_ended come.read.entries ++ rest), come.read.good.bus, read_rest text rest b come)
has_bus text rest (phase.Failed what) c come is = absurd come

-- If the text has a bus and the bytes not yet taken have no LF, the bus's line was taken.
pub bus_is : (text torn : List ℕ) (p : Phase) (c : BusConfig) → HasCome text p → EndsNoLine torn → HasBus (text ++ torn) c → bus_taken p ≡ Some c
bus_is text torn phase.Start c come unended h = absurd (torn_lacks text torn phase.Start come unended h.0 c h.1 h.2 h.3)
bus_is text torn (phase.Front w) c come unended h = absurd (torn_lacks text torn (phase.Front w) come unended h.0 c h.1 h.2 h.3)
bus_is text torn (phase.Entries b) c come unended h =
    ap Some (one_bus b.version h.0 b.config c (entry_lines come.read.entries (last_of b.is_ended come.read.entries ++ torn)) h.1 come.read.good.bus h.2 (sym (read_rest text torn b come) ∙ h.3))
bus_is text torn (phase.Failed what) c come unended h = absurd come

-- The bus stays the same when more of the text is taken.
pub same_bus : (text more : List ℕ) (p q : Phase) (c d : BusConfig) → HasCome text p → HasCome (text ++ more) q → bus_taken p ≡ Some c → bus_taken q ≡ Some d → c ≡ d
same_bus text more p q c d come then one other =
    let h = has_bus text more p c come one in
    let k = has_bus (text ++ more) [] q d then other in
    one_bus h.0 k.0 c d h.1 k.1 h.2 k.2 (sym h.3 ∙ sym (append-nil (text ++ more)) ∙ k.3)
