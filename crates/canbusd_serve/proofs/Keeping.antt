use Rattle.std.proofs.Common.{◌≡◌, ◌∷◌, ◌++◌, ◌∙◌, false, ℕ, List, [], IfSome, Option, Some, None, append-nil, append_assoc, ap, length, refl, sym, subst, take-append-drop}
use Rattle.std.proofs.KnownBytes.{Appends-trans}
use Rattle.std.proofs.lemmas.Grind.{flat_map-append}
use Rattle.std.proofs.lemmas.List.{length-reverse}
use Rattle.std.specs.Prelude.{reverse}
use Rattle.can_bus.specs.Long.{LongJournal, handed_entries, held_back}
use Rattle.can_event.specs.declared.bus_config.BusConfig.{BusConfig}
use Rattle.can_event.specs.declared.entry.Entry.{Entry}
use Rattle.can_logfile.specs.Log.{joined, log_lines}
use Rattle.can_logfile.proofs.Fronts.{blocks-log}
use Rattle.can_record_text.specs.Spelling.{bus_words, end_words, entry_line, entry_lines, first_line, front_lines, spell}
use Rattle.can_record_text.specs.declared.version.Version.TheVariants as version
use Rattle.can_record_text.proofs.Again.{spell-rest}
use Rattle.can_record_text.proofs.LineLists.{lines-rest}
use Rattle.canbusd_io.specs.Live.{MayGet, whole_contents}
use Rattle.canbusd_io.specs.LiveLines.{LogHas, RecordHas}
use Rattle.canbusd_io.specs.declared.live.LiveText.{LiveText}
use Rattle.can_hub.specs.Settling.{AllHanded}
use Rattle.can_roll.specs.Seen.{ScrollSeen}
use Rattle.can_station.specs.declared.pass.Settled.{Settled}
use Rattle.canbusd_serve.specs.LongRuns.{AllGiven, AllGivenFirst, AreWhole, HaveLines, IsTextOpen, LogGets, LogStays, RecordGets, RecordStays, TextGets}
use Rattle.canbusd_serve.specs.declared.live_files.LiveFiles.{LiveFiles}

-- The lines in the files of a bus, as they are written block by block.

-- the lines of some entries, followed by the lines of more entries
lines-then : (es more : List Entry) → entry_lines (es ++ more) [] ≡ entry_lines es (entry_lines more [])
unfolding entry_lines
lines-then [] more = refl
lines-then (e ∷ es) more = ap (λ (x : List ℕ). entry_line e x) (lines-then es more)

record-lines : (es more : List Entry) → entry_lines (es ++ more) [] ≡ entry_lines es [] ++ entry_lines more []
record-lines es more = lines-then es more ∙ sym (lines-rest es (entry_lines more []))

log-lines : (names : List (List ℕ)) (es more : List Entry) → joined (log_lines names (reverse (es ++ more))) ≡ joined (log_lines names (reverse es)) ++ joined (log_lines names (reverse more))
log-lines names es more =
    let both : log_lines names (reverse (es ++ more)) ≡ log_lines names (reverse es) ++ log_lines names (reverse more) =
    ap (λ (x : List Entry). log_lines names (reverse (es ++ x))) (sym (append-nil more))
    ∙ blocks-log names (es ∷ more ∷ [])
    ∙ ap (λ (x : List (List ℕ)). log_lines names (reverse es) ++ x) (append-nil (log_lines names (reverse more))) in
    ap joined both ∙ flat_map-append (λ (line : List ℕ). line) (log_lines names (reverse es)) (log_lines names (reverse more))

-- the first two lines and a text, followed by more text
front-then : (c : BusConfig) (text more : List ℕ) → front_lines version.Four c text ++ more ≡ front_lines version.Four c (text ++ more)
front-then c text more =
    ap (λ (x : List ℕ). (first_line version.Four ++ x) ++ more) (sym (spell-rest (bus_words version.Four c) text))
    ∙ append_assoc (first_line version.Four) (spell (bus_words version.Four c) [] ++ text) more
    ∙ ap (λ (x : List ℕ). first_line version.Four ++ x)
    (append_assoc (spell (bus_words version.Four c) []) text more ∙ spell-rest (bus_words version.Four c) (text ++ more))

-- ---- appending one text after another

gets_then : {W : Type 0} (contents : W → Option (List ℕ)) (a b c : Option W) (s t : List ℕ) → MayGet contents a b s → MayGet contents b c t → MayGet contents a c (s ++ t)
gets_then contents a b None s t f g = tt
gets_then contents a None (Some w) s t f g = absurd g
gets_then contents None (Some v) (Some w) s t f g = absurd f
gets_then contents (Some u) (Some v) (Some w) s t f g = Appends-trans (contents u) (contents v) (contents w) s t f g

text_then : {F B : Type 0} (contents : F → Option (List ℕ)) (has more all : B → List ℕ) (a b : Option (LiveText F B)) → ((bus : B) → has bus ++ more bus ≡ all bus)
    → IfSome a (λ t. MayGet (whole_contents contents) t.start.value.out t.file.out (has t.bus)) → TextGets contents more a b → IfSome b (λ t. MayGet (whole_contents contents) t.start.value.out t.file.out (all t.bus))
text_then {F} {B} contents has more all None b joins had gets = subst (λ (x : Option (LiveText F B)). IfSome x (λ t. MayGet (whole_contents contents) t.start.value.out t.file.out (all t.bus))) (sym gets) tt
text_then contents has more all (Some s) None joins had gets = absurd gets
text_then {F} {B} contents has more all (Some s) (Some t) joins had gets =
    let both = gets_then (whole_contents contents) s.start.value.out s.file.out t.file.out (has s.bus) (more s.bus) had gets.2 in
    let lines = subst (MayGet (whole_contents contents) s.start.value.out t.file.out) (joins s.bus) both in
    let own = subst (λ (bus : B). MayGet (whole_contents contents) s.start.value.out t.file.out (all bus)) (sym gets.1) lines in
    subst (λ start. MayGet (whole_contents contents) start.value.out t.file.out (all t.bus)) (sym gets.0) own

record_then : {F : Type 0} (contents : F → Option (List ℕ)) (a b : Option (LiveText F BusConfig)) (text more : List ℕ) → IfSome a (λ r. RecordHas contents r text) → RecordGets contents a more b → IfSome b (λ r. RecordHas contents r (text ++ more))
record_then contents a b text more has gets = text_then contents (λ c. front_lines version.Four c text) (λ c. more) (λ c. front_lines version.Four c (text ++ more)) a b (λ c. front-then c text more) has gets

log_then : {F : Type 0} (contents : F → Option (List ℕ)) (a b : Option (LiveText F (List (List ℕ)))) (es more : List Entry) → IfSome a (λ l. LogHas contents l es) → LogGets contents a more b → IfSome b (λ l. LogHas contents l (es ++ more))
log_then contents a b es more has gets =
    let text = λ (entries : List Entry) (names : List (List ℕ)). joined (log_lines names (reverse entries)) in
    text_then contents (text es) (text more) (text (es ++ more)) a b (λ names. sym (log-lines names es more)) has gets

-- open files remain open while the record and then the log are written, unless a write error is noted
going_on : {F : Type 0} (a m b : LiveFiles F) → (a.has_fault ≡ false → IsTextOpen a.record × IsTextOpen a.log) → RecordStays a m → m.log ≡ a.log → LogStays m b → b.record ≡ m.record → b.has_fault ≡ false → IsTextOpen b.record × IsTextOpen b.log
going_on {F} a m b going record_stays same_log log_stays same_record none =
    let after = log_stays none in
    let before = record_stays after.0 in
    let was = going before.0 in
    (subst (λ (r : Option (LiveText F BusConfig)). IsTextOpen r) (sym same_record) (before.1 was.0), after.1 (subst (λ (l : Option (LiveText F (List (List ℕ)))). IsTextOpen l) (sym same_log) was.1))

-- if files contain the lines of some entries, and the lines of more entries are appended, they contain the lines of all
-- these entries
have_then : {F : Type 0} (contents : F → Option (List ℕ)) (a b : LiveFiles F) (es more : List Entry) → HaveLines contents es a → RecordGets contents a.record (entry_lines more []) b.record → LogGets contents a.log more b.log
    → (b.has_fault ≡ false → IsTextOpen b.record × IsTextOpen b.log) → HaveLines contents (es ++ more) b
have_then contents a b es more have record_gets log_gets going = record {
  recorded = subst (λ (text : List ℕ). IfSome b.record (λ r. RecordHas contents r text)) (sym (record-lines es more)) (record_then contents a.record b.record (entry_lines es []) (entry_lines more []) have.recorded record_gets);
  logged = log_then contents a.log b.log es more have.logged log_gets;
  going = going;
}

-- the record is written first, and then the log
pub have_after : {F : Type 0} (contents : F → Option (List ℕ)) (a m b : LiveFiles F) (es more given : List Entry) → HaveLines contents es a → RecordGets contents a.record (entry_lines more []) m.record → RecordStays a m → m.log ≡ a.log
    → LogGets contents m.log more b.log → LogStays m b → b.record ≡ m.record → given ≡ es ++ more → HaveLines contents given b
have_after {F} contents a m b es more given have record_gets record_stays same_log log_gets log_stays same_record is =
    subst (λ (all : List Entry). HaveLines contents all b) (sym is)
    (have_then contents a b es more have (subst (λ (r : Option (LiveText F BusConfig)). RecordGets contents a.record (entry_lines more []) r) (sym same_record) record_gets)
    (subst (λ (l : Option (LiveText F (List (List ℕ)))). LogGets contents l more b.log) same_log log_gets) (going_on a m b have.going record_stays same_log log_stays same_record))

-- ---- the end

-- the entries handed out and the entries held back are together the whole history
whole_history : (j : LongJournal) → handed_entries j ++ held_back j ≡ reverse j.history
whole_history j = take-append-drop j.handed (reverse j.history)

-- the lines of these entries, with the last line, are the lines of the whole history
end-lines : (es more whole : List Entry) (count : ℕ) → es ++ more ≡ whole → count ≡ length whole
    → entry_lines es [] ++ (entry_lines more [] ++ spell (end_words count) []) ≡ entry_lines whole (spell (end_words (length whole)) [])
end-lines es more whole count is counted =
    sym (append_assoc (entry_lines es []) (entry_lines more []) (spell (end_words count) []))
    ∙ ap (λ (x : List ℕ). x ++ spell (end_words count) []) (sym (record-lines es more) ∙ ap (λ (x : List Entry). entry_lines x []) is)
    ∙ lines-rest whole (spell (end_words count) [])
    ∙ ap (λ (n : ℕ). entry_lines whole (spell (end_words n) [])) counted

-- files with the entries that a bus handed out contain its whole history once the entries held back and the last line
-- are appended
whole_then : {F : Type 0} (contents : F → Option (List ℕ)) (j : LongJournal) (a b : LiveFiles F) (count : ℕ) → HaveLines contents (handed_entries j) a → count ≡ length j.history
    → RecordGets contents a.record (entry_lines (held_back j) [] ++ spell (end_words count) []) b.record → LogGets contents a.log (held_back j) b.log
    → (b.has_fault ≡ false → IsTextOpen b.record × IsTextOpen b.log) → AreWhole contents (reverse j.history) b
whole_then contents j a b count have counted record_gets log_gets going = record {
  recorded = subst (λ (text : List ℕ). IfSome b.record (λ r. RecordHas contents r text))
      (end-lines (handed_entries j) (held_back j) (reverse j.history) count (whole_history j) (counted ∙ sym (length-reverse j.history)))
      (record_then contents a.record b.record _ _ have.recorded record_gets);
  logged = subst (λ (es : List Entry). IfSome b.log (λ l. LogHas contents l es)) (whole_history j) (log_then contents a.log b.log (handed_entries j) (held_back j) have.logged log_gets);
  going = going;
}

-- the record is written first, and then the log
pub whole_after : {F : Type 0} (contents : F → Option (List ℕ)) (j : LongJournal) (a m b : LiveFiles F) (rest : List Entry) (count : ℕ) → HaveLines contents (handed_entries j) a → rest ≡ held_back j → count ≡ length j.history
    → RecordGets contents a.record (entry_lines rest [] ++ spell (end_words count) []) m.record → RecordStays a m → m.log ≡ a.log → LogGets contents m.log rest b.log → LogStays m b → b.record ≡ m.record
    → AreWhole contents (reverse j.history) b
whole_after {F} contents j a m b rest count have is counted record_gets record_stays same_log log_gets log_stays same_record =
    let text = λ (es : List Entry). entry_lines es [] ++ spell (end_words count) [] in
    let ended = subst (λ (es : List Entry). RecordGets contents a.record (text es) m.record) is record_gets in
    let logged = subst (λ (es : List Entry). LogGets contents m.log es b.log) is log_gets in
    whole_then contents j a b count have counted
    (subst (λ (r : Option (LiveText F BusConfig)). RecordGets contents a.record (text (held_back j)) r) (sym same_record) ended)
    (subst (λ (l : Option (LiveText F (List (List ℕ)))). LogGets contents l (held_back j) b.log) same_log logged) (going_on a m b have.going record_stays same_log log_stays same_record)

-- ---- all buses

-- the entries given to the files are the entries handed out to the scrolls, which are the entries handed out of the
-- histories
pub given_first : {F L : Type 0} (contents : F → Option (List ℕ)) (handed : L → List Entry) (files : List (LiveFiles F)) (scrolls : List ScrollSeen) (settled : List (Settled L)) → AllGiven contents files scrolls → AllHanded handed scrolls settled
    → AllGivenFirst contents handed files settled
given_first contents handed [] [] [] given same = tt
given_first contents handed (f ∷ files) (s ∷ scrolls) (e ∷ settled) given same =
    (subst (λ (es : List Entry). HaveLines contents es f) same.0 given.0, given_first contents handed files scrolls settled given.1 same.1)
given_first contents handed [] [] (e ∷ settled) given same = absurd same
given_first contents handed [] (s ∷ scrolls) settled given same = absurd given
given_first contents handed (f ∷ files) [] settled given same = absurd given
given_first contents handed (f ∷ files) (s ∷ scrolls) [] given same = absurd same

-- the next file was given the entries that were handed out to the next scroll
pub given_push : {F : Type 0} (contents : F → Option (List ℕ)) (files : List (LiveFiles F)) (scrolls : List ScrollSeen) (f : LiveFiles F) (s : ScrollSeen) → AllGiven contents files scrolls → HaveLines contents s.entries f
    → AllGiven contents (files ++ f ∷ []) (scrolls ++ s ∷ [])
given_push contents [] [] f s all have = (have, tt)
given_push contents (x ∷ xs) (y ∷ ys) f s all have = (all.0, given_push contents xs ys f s all.1 have)
given_push contents [] (y ∷ ys) f s all have = absurd all
given_push contents (x ∷ xs) [] f s all have = absurd all
