-- The events that were written before an error in the text.
use Rattle.std.proofs.Common.{◌≡◌, ◌≢◌, ◌+◌, ◌⊎◌, ℕ, inl, inr, Bool, true, false, List, [], ◌∷◌, ◌++◌, Option, Some, None, Result, Ok, Err, arith, append-nil, length, refl, sym, ap, subst, ◌∙◌}
use Rattle.std.specs.Prelude.{reverse}
use Rattle.std.proofs.lemmas.List.Elements.{All-nil}
use Rattle.std.proofs.lemmas.Option.{none-some, same_Some}
use Rattle.std.specs.Io.KnownBytes.{Appends, Consumes}
use Rattle.can_event.specs.declared.bus_config.BusConfig.{BusConfig}
use Rattle.can_event.specs.declared.entry.Entry.{Entry}
use Rattle.can_bus.specs.Legal.{IsLegal}
use Rattle.can_record_text.specs.declared.fault.ReadFault.{ReadFault}
use Rattle.can_record_text.specs.declared.fault.ReadFault.TheVariants as read
use Rattle.can_record_text.specs.RecordFaults.{LacksEntry, Reads}
use Rattle.can_record_text.specs.RecordFaults.{IsFirstWrong as IsWrongLine}
use Rattle.can_record_text.specs.declared.version.Version.{Version}
use Rattle.can_record_text.specs.Spelling.{bus_words, end_words, entry_lines, first_line, spell}
use Rattle.can_record_text.proofs.Whole.{text-then}
use Rattle.can_replay.specs.EventsText.{events_front}
use Rattle.can_replay.specs.declared.wanted.Wanted.{Wanted}
use Rattle.can_replay.specs.Audits.{IsFirstWrongEntry}
use Rattle.can_replay.specs.Histories.{before}
use Rattle.can_replay.specs.declared.entry_audit.EntryAudit.{EntryAudit}
use Rattle.can_replay.specs.declared.events_text.EventsText.{EventsText}
use Rattle.can_replay.specs.declared.text_audit.Phase.{Phase}
use Rattle.can_replay.specs.declared.text_audit.Phase.TheVariants as phase
use Rattle.can_replay.specs.declared.text_audit.TextAudit.{TextAudit}
use Rattle.can_replay.specs.declared.text_fault.TextFault.{TextFault}
use Rattle.can_replay.specs.declared.text_fault.TextFault.TheVariants as found
use Rattle.can_replay.specs.declared.text_fault.WrongLine.{WrongLine}
use Rattle.can_replay.specs.EventTexts.{AreWritten, HasWritten, has_events, held_events, legal_part, wrong_so_far}
use Rattle.can_replay.specs.TextAudits.{AreTaken, EndsLine, FailsNext, HasCome, IsLine, LacksFront, bus_taken}
use Rattle.can_replay.specs.inner.EntryAudits.{IsGoing, IsSettled}
use Rattle.can_replay.proofs.EntriesBefore.{before_all}
use Rattle.can_replay.proofs.GoingOn.{last_of, read_rest}
use Rattle.can_replay.proofs.LineEnds.{torn_first}
use Rattle.can_replay.proofs.Lacking.{LacksNext, has_bus, line_lacks, next_wrong, same_bus}
use Rattle.canbusd_io.specs.declared.program_error.ProgramError.{ProgramError}
use Rattle.canbusd_io.specs.declared.program_error.ProgramError.TheVariants as fault
use Rattle.canbusd_io.specs.Files.{IsOfReading}
use Rattle.canbusd_audit.specs.Audited.{BeginsWrong, FaultsLine, FitsBus, HasIfaces, HasNoEvents, IsFaultAfter, IsFrontWritten, IsLeft, IsOfLine, IsOfOtherBus, IsOtherBus, IsPut, IsRead, IsTextIn, IsToldFault, IsUnderway, IsUnread, Leaves, LeavesFront, Puts, AuditStopsAfter, StopsEvents, output_of}
use Rattle.canbusd_audit.proofs.Underway.{follows, puts_more, same_output}

-- ---- the fault

-- an audit may report this error; if the error names a wrong entry, this is the first wrong entry of those that were
-- read
abbrev pub Names : ProgramError → Phase → Type 0
Names (fault.WrongEntry k) p = (w : WrongLine) × (wrong_so_far p ≡ Some w) × (w.place ≡ k)
Names (fault.Record what) p = Unit {0}
Names fault.Read p = Unit {0}
Names fault.NoMemory p = Unit {0}
Names why p = ⊥

pub names_reading : (why : ProgramError) (p : Phase) → IsOfReading why → Names why p
names_reading fault.Read p h = tt
names_reading fault.NoMemory p h = tt
names_reading why p h = absurd h

pub names_line : (what : ReadFault) (why : ProgramError) (p : Phase) → IsOfLine what why → Names why p
names_line what why p (inl is) = subst (λ (w : ProgramError). Names w p) (sym is) tt
names_line what why p (inr h) = names_reading why p h

pub names_told : (what : TextFault) (why : ProgramError) (p : Phase) → ((w : WrongLine) → what ≡ found.Wrong w → wrong_so_far p ≡ Some w) → IsToldFault what why → Names why p
names_told (found.Read what) why p wrong is = subst (λ (w : ProgramError). Names w p) (sym is) tt
names_told (found.Wrong w) why p wrong is = subst (λ (x : ProgramError). Names x p) (sym is) (w, wrong w refl, refl)

-- ---- the point in the text at which the taken lines stop

-- what the error in a line says about a text
abbrev pub Says : List ℕ → ProgramError → Type 0
Says text (fault.Record what) = Reads text (Err what)
Says text why = Unit {0}

-- the lines stop at a file error or lack of memory, or at bytes that do not continue a record
abbrev pub Stops : (text rest : List ℕ) → Phase → ProgramError → Type 0
Stops text rest p why = IsUnread why ⊎ (((come : HasCome text p) → LacksNext text rest p come) × Says (text ++ rest) why)

pub unread : (why : ProgramError) → IsOfReading why → IsUnread why
unread fault.Read h = tt
unread fault.NoMemory h = tt
unread why h = absurd h

pub line_stops : (text line rest : List ℕ) (audit : TextAudit) (what : ReadFault) (why : ProgramError) → AreTaken text audit → IsLine line → EndsLine line → FailsNext AreTaken audit line what → IsOfLine what why → Stops text (line ++ rest) audit.phase why
line_stops text line rest audit what why taken is end fails (inr reading) = inl (unread why reading)
line_stops text line rest audit read.NoMemory why taken is end fails (inl same) = inl (subst IsUnread (sym same) tt)
line_stops text line rest audit read.BadVersion why taken is end fails (inl same) =
    let may = λ (more : List ℕ). follows line more is end in
    subst (Stops text (line ++ rest) audit.phase) (sym same)
    (inr (line_lacks text line rest read.BadVersion (λ no. absurd cc) is end (may rest) (λ more. fails text more taken is (may more)) audit.phase, fails text rest taken is (may rest)))
line_stops text line rest audit (read.BadLine n) why taken is end fails (inl same) =
    let may = λ (more : List ℕ). follows line more is end in
    subst (Stops text (line ++ rest) audit.phase) (sym same)
    (inr (line_lacks text line rest (read.BadLine n) (λ no. absurd cc) is end (may rest) (λ more. fails text more taken is (may more)) audit.phase, fails text rest taken is (may rest)))

-- ---- a text that does not begin like a record

pub unread_none : (text : List ℕ) (why : ProgramError) → IsUnread why → HasNoEvents text why
unread_none text (fault.Record read.NoMemory) h = tt
unread_none text (fault.Record read.BadVersion) h = absurd h
unread_none text (fault.Record (read.BadLine n)) h = absurd h
unread_none text fault.OtherBus h = absurd h
unread_none text why h = h

second : (text : List ℕ) (n : ℕ) → LacksFront text → IsWrongLine text n → n ≡ 2
second text n lacks (inl h) = h.second
second text n lacks (inr (inl h)) = absurd (lacks h.version h.config (entry_lines h.entries h.rest) h.whole.bus h.begins)
second text n lacks (inr (inr h)) =
    absurd (lacks h.version h.config (entry_lines h.entries (spell (end_words (length h.entries)) h.rest)) h.whole.bus (h.begins ∙ text-then h.version h.config h.entries h.rest))

no_events : (text : List ℕ) (why : ProgramError) (p : Phase) → Names why p → wrong_so_far p ≡ None → LacksFront text → Says text why → HasNoEvents text why
no_events text (fault.Record read.NoMemory) p names none lacks says = tt
no_events text (fault.Record read.BadVersion) p names none lacks says = lacks
no_events text (fault.Record (read.BadLine n)) p names none lacks says = (second text n lacks says, lacks)
no_events text fault.Read p names none lacks says = tt
no_events text fault.NoMemory p names none lacks says = tt
no_events text (fault.WrongEntry k) p names none lacks says = absurd (none-some names.0 (sym none ∙ names.1))
no_events text why p names none lacks says = absurd names

none_at_start : (text rest : List ℕ) (why : ProgramError) (come : text ≡ []) → Names why phase.Start → Stops text rest phase.Start why → HasNoEvents (text ++ rest) why
none_at_start text rest why come names (inl h) = unread_none (text ++ rest) why h
none_at_start text rest why come names (inr h) = no_events (text ++ rest) why phase.Start names refl (h.0 come) h.1

none_at_front : (text rest : List ℕ) (version : Version) (why : ProgramError) (come : text ≡ first_line version) → Names why (phase.Front version) → Stops text rest (phase.Front version) why → HasNoEvents (text ++ rest) why
none_at_front text rest version why come names (inl h) = unread_none (text ++ rest) why h
none_at_front text rest version why come names (inr h) = no_events (text ++ rest) why (phase.Front version) names refl (h.0 come) h.1

-- ---- the entries that were read, up to the first wrong one

part_count : List Entry → Option WrongLine → ℕ
part_count es None = length es
part_count es (Some w) = w.place

-- the first `count` entries are legal, and the next one, if there is one, is the first wrong entry
record Part (c : BusConfig) (es : List Entry) (o : Option WrongLine) (count : ℕ) : Type 0 where
  legal : IsLegal c (before es count)
  last : (count ≡ length es) ⊎ IsFirstWrongEntry c es count
  part : reverse (legal_part es o) ≡ before es count

part_of : (c : BusConfig) (es : List Entry) (o : Option WrongLine) → IsSettled c es o → Part c es o (part_count es o)
unfolding part_count
part_of c es None settled =
    let all : before es (length es) ≡ reverse es = before_all es (length es) (omega arith) in
    record { legal = subst (IsLegal c) (sym all) settled; last = inl refl; part = sym all }
part_of c es (Some w) settled = record { legal = settled.told.first.legal_before; last = inr settled.told.first; part = refl }

-- what follows the entries that were read, for this reason to stop
After : (text rest : List ℕ) (b : EntryAudit) → IsGoing text b → ProgramError → Type 0
After text rest b g why = IsUnread why ⊎ (LacksEntry b.version b.config (last_of b.is_ended g.read.entries ++ rest) × Says (text ++ rest) why)

after_so : (text rest : List ℕ) (b : EntryAudit) (g : IsGoing text b) (why : ProgramError) → Stops text rest (phase.Entries b) why → After text rest b g why
unfolding After
after_so text rest b g why (inl h) = inl h
after_so text rest b g why (inr h) = inr (h.0 g, h.1)

all_there : (text rest : List ℕ) (b : EntryAudit) (g : IsGoing text b) (why : ProgramError) → After text rest b g why → IsUnread why ⊎ LacksEntry b.version b.config (last_of b.is_ended g.read.entries ++ rest)
unfolding After
all_there text rest b g why (inl h) = inl h
all_there text rest b g why (inr h) = inr h.0

counted : (text rest : List ℕ) (why : ProgramError) (b : EntryAudit) (g : IsGoing text b) (o : Option WrongLine) → b.wrong ≡ o → Names why (phase.Entries b) → After text rest b g why → IsFaultAfter why (length g.read.entries) (part_count g.read.entries o)
unfolding part_count After
counted text rest (fault.WrongEntry k) b g None is names after = absurd (none-some names.0 (sym is ∙ names.1))
counted text rest (fault.WrongEntry k) b g (Some w) is names after = ap (λ (x : WrongLine). x.place) (same_Some w names.0 (sym is ∙ names.1)) ∙ names.2
counted text rest (fault.Record (read.BadLine n)) b g o is names (inl h) = absurd h
counted text rest (fault.Record (read.BadLine n)) b g o is names (inr h) =
    next_wrong (text ++ rest) (last_of b.is_ended g.read.entries ++ rest) n b.version b.config g.read.entries g.read.good (read_rest text rest b g) h.0 h.1
counted text rest (fault.Record read.BadVersion) b g o is names after = tt
counted text rest (fault.Record read.NoMemory) b g o is names after = tt
counted text rest fault.OtherBus b g o is names after = absurd names
counted text rest why b g o is names after = tt

-- ---- the output

front_at : (v : Wanted) (ifaces : Option ℕ) (text rest cleared : List ℕ) (p : Phase) (e : EventsText) (why : ProgramError) (old new : Option (List ℕ)) → AreWritten v text cleared p (Some e) → Names why p → Stops text rest p why → FitsBus ifaces (bus_taken p) → Appends old new (cleared ++ e.text.items)
    → (HasNoEvents (text ++ rest) why × Appends old new []) ⊎ IsFrontWritten v ifaces (text ++ rest) why old new
front_at v ifaces text rest cleared phase.Start e why old new w names stops fits wrote = inl (none_at_start text rest why w.taken names stops, subst (Appends old new) w.complete wrote)
front_at v ifaces text rest cleared (phase.Front version) e why old new w names stops fits wrote = inl (none_at_front text rest version why w.taken names stops, subst (Appends old new) w.complete wrote)
front_at v ifaces text rest cleared (phase.Entries b) e why old new w names stops fits wrote =
    let g = w.taken in
    let es = g.read.entries in
    let p = part_of b.config es b.wrong g.read.settled in
    let after = after_so text rest b g why stops in
    inr (record {
      version = b.version;
      config = b.config;
      entries = es;
      rest = last_of b.is_ended es ++ rest;
      count = part_count es b.wrong;
      good = g.read.good;
      begins = read_rest text rest b g;
      all = all_there text rest b g why after;
      legal = p.legal;
      last = p.last;
      named = fits;
      names = counted text rest why b g b.wrong refl names after;
      wrote = subst (Appends old new) (w.complete ∙ ap (events_front v b.version b.config) p.part) wrote;
    })
front_at v ifaces text rest cleared (phase.Failed what) e why old new w names stops fits wrote = absurd w.taken

by_kind : {W : Type 0} (v : Wanted) (ifaces : Option ℕ) (first : Option (List ℕ)) (text rest events : List ℕ) (p : Phase) (held : Option EventsText) (why : ProgramError) (contents : W → Option (List ℕ)) (start out : W) → AreWritten v text events p held
    → Names why p → IsTextIn first (text ++ rest) → Stops text rest p why → FitsBus ifaces (bus_taken p) → Puts (has_events held) contents start out (events ++ held_events held) → LeavesFront (output_of v held) ifaces first why contents start out
by_kind v ifaces first text rest events p None why contents start out w names is stops fits put = put
by_kind v ifaces first text rest events p (Some e) why contents start out w names is stops fits put = (text ++ rest, is, front_at v ifaces text rest events p e why (contents start) (contents out) w names stops fits put)

-- the output after an error, if all events of these lines were written
pub leaves_front : {W : Type 0} (v : Wanted) (ifaces : Option ℕ) (first : Option (List ℕ)) (text rest events : List ℕ) (audit : TextAudit) (why : ProgramError) (contents : W → Option (List ℕ)) (start out : W) → HasWritten v text events audit
    → Names why audit.phase → IsTextIn first (text ++ rest) → Stops text rest audit.phase why → FitsBus ifaces (bus_taken audit.phase) → Puts (has_events audit.events) contents start out (events ++ held_events audit.events) → LeavesFront (output_of v audit.events) ifaces first why contents start out
leaves_front v ifaces first text rest events audit why contents start out w names is stops fits put = by_kind v ifaces first text rest events audit.phase audit.events why contents start out w names is stops fits put

pub none_more : {W : Type 0} (has : Bool) (contents : W → Option (List ℕ)) (start out : W) (events held : List ℕ) → held ≡ [] → Puts has contents start out events → Puts has contents start out (events ++ held)
none_more has contents start out events held none put = subst (Puts has contents start out) (sym (ap (λ (x : List ℕ). events ++ x) none ∙ append-nil events)) put

-- the output after an error, if the audit does not collect events
leaves_put : {W : Type 0} (v : Wanted) (ifaces : Option ℕ) (first : Option (List ℕ)) (text rest events : List ℕ) (begun : Option EventsText) (audit : TextAudit) (why : ProgramError) (contents : W → Option (List ℕ)) (start out : W) → has_events begun ≡ has_events audit.events
    → held_events audit.events ≡ [] → HasWritten v text events audit → Names why audit.phase → IsTextIn first (text ++ rest) → Stops text rest audit.phase why → FitsBus ifaces (bus_taken audit.phase) → Puts (has_events audit.events) contents start out events → LeavesFront (output_of v begun) ifaces first why contents start out
leaves_put v ifaces first text rest events begun audit why contents start out kind none w names is stops fits put =
    subst (λ (asked : Option Wanted). LeavesFront asked ifaces first why contents start out) (sym (same_output v begun audit.events kind))
    (leaves_front v ifaces first text rest events audit why contents start out w names is stops fits (none_more (has_events audit.events) contents start out events (held_events audit.events) none put))

-- ---- the text from which these bytes were read

text_with : (first now : Option (List ℕ)) (text : List ℕ) → Consumes first now text → (rest : List ℕ) × IsTextIn first (text ++ rest)
text_with None now text h = ([], tt)
text_with (Some all) None text h = absurd h
text_with (Some all) (Some rest) text h = (rest, sym h)

-- the text continues with the next line
text_read : (first now after : Option (List ℕ)) (text line : List ℕ) → Consumes first now text → Consumes now after line → (rest : List ℕ) × IsTextIn first (text ++ (line ++ rest))
text_read None now after text line h k = ([], tt)
text_read (Some all) None after text line h k = absurd h
text_read (Some all) (Some xs) None text line h k = absurd k
text_read (Some all) (Some xs) (Some rest) text line h k = (rest, sym (h ∙ ap (λ (x : List ℕ). text ++ x) k))

-- the text continues with the remaining bytes
text_left : (first old new : Option (List ℕ)) (before text left : List ℕ) → Consumes first old before → Consumes first new text → IsLeft old new left → IsTextIn first (text ++ left)
text_left None old new before text left h k is = tt
text_left (Some all) None new before text left h k is = absurd h
text_left (Some all) (Some xs) None before text left h k is = absurd k
text_left (Some all) (Some xs) (Some rest) before text left h k is = sym (k ∙ ap (λ (x : List ℕ). text ++ x) is)

-- ---- an error while lines are read

-- reading failed, or memory was refused
pub leaves_unread : {W : Type 0} (v : Wanted) (ifaces : Option ℕ) (first now : Option (List ℕ)) (begun : Option EventsText) (audit : TextAudit) (why : ProgramError) (contents : W → Option (List ℕ)) (start out : W) → has_events begun ≡ has_events audit.events → held_events audit.events ≡ []
    → FitsBus ifaces (bus_taken audit.phase) → IsPut v first now audit contents start out → IsOfReading why → LeavesFront (output_of v begun) ifaces first why contents start out
leaves_unread v ifaces first now begun audit why contents start out kind none fits p reading =
    let u = p.underway in
    let t = text_with first now u.text u.consumed in
    leaves_put v ifaces first u.text t.0 p.events begun audit why contents start out kind none u.written (names_reading why audit.phase reading) t.1 (inl (unread why reading)) fits p.put

-- the line that was read is invalid
pub leaves_line : {W : Type 0} (v : Wanted) (ifaces : Option ℕ) (first now after : Option (List ℕ)) (line : List ℕ) (begun : Option EventsText) (audit : TextAudit) (what : ReadFault) (why : ProgramError) (contents : W → Option (List ℕ)) (start out : W) → has_events begun ≡ has_events audit.events
    → held_events audit.events ≡ [] → FitsBus ifaces (bus_taken audit.phase) → IsPut v first now audit contents start out → IsRead now after line → FailsNext AreTaken audit line what → IsOfLine what why → LeavesFront (output_of v begun) ifaces first why contents start out
leaves_line v ifaces first now after line begun audit what why contents start out kind none fits p read fails of =
    let u = p.underway in
    let t = text_read first now after u.text line u.consumed read.consumed in
    leaves_put v ifaces first u.text (line ++ t.0) p.events begun audit why contents start out kind none u.written (names_line what why audit.phase of) t.1
    (line_stops u.text line t.0 audit what why u.written.taken read.is_line read.ended fails of) fits p.put

left_stops : (text left : List ℕ) (audit : TextAudit) (what : ReadFault) (why : ProgramError) → AreTaken text audit → BeginsWrong audit left what → IsOfLine what why → Stops text left audit.phase why
left_stops text left audit what why taken w of =
    subst (λ (x : List ℕ). Stops text x audit.phase why) (sym w.begins) (line_stops text w.line w.rest audit what why taken w.is_line w.ended w.wrong of)

-- the bus still has the wanted number of interfaces, because the bus is the same as before
fits_still : (ifaces : Option ℕ) (text more : List ℕ) (p q : Phase) → HasCome text p → HasCome (text ++ more) q → (bus_taken p ≡ None → bus_taken q ≡ None) → FitsBus ifaces (bus_taken p) → FitsBus ifaces (bus_taken q)
fits_still ifaces text more (phase.Entries b) (phase.Entries d) come then unknown fits = subst (HasIfaces ifaces) (same_bus text more (phase.Entries b) (phase.Entries d) b.config d.config come then refl refl) fits
fits_still ifaces text more phase.Start (phase.Entries d) come then unknown fits = absurd (none-some d.config (sym (unknown refl)))
fits_still ifaces text more (phase.Front version) (phase.Entries d) come then unknown fits = absurd (none-some d.config (sym (unknown refl)))
fits_still ifaces text more (phase.Failed what) (phase.Entries d) come then unknown fits = absurd come
fits_still ifaces text more p phase.Start come then unknown fits = tt
fits_still ifaces text more p (phase.Front version) come then unknown fits = tt
fits_still ifaces text more p (phase.Failed what) come then unknown fits = tt

-- the events of the lines before an error were also written
pub leaves_stopped : {W : Type 0} (v : Wanted) (ifaces : Option ℕ) (first old new : Option (List ℕ)) (begun : Option EventsText) (before after : TextAudit) (what : ReadFault) (why : ProgramError) (contents : W → Option (List ℕ)) (start out end : W) → has_events before.events ≡ has_events begun
    → has_events after.events ≡ has_events before.events → FitsBus ifaces (bus_taken before.phase) → IsPut v first old before contents start out → AuditStopsAfter old new before what after → Puts (has_events after.events) contents out end (held_events after.events) → IsOfLine what why
    → LeavesFront (output_of v begun) ifaces first why contents start end
leaves_stopped v ifaces first old new begun before after what why contents start out end kind same fits p stops put of =
    let last = stops.0 in
    let left = stops.5.0 in
    let on = stops.1 v first p.events p.underway in
    let u = on.0 in
    let fits_last = fits_still ifaces p.underway.text on.1 before.phase last.phase p.underway.written.taken (subst (λ (x : List ℕ). HasCome x last.phase) on.2 u.written.taken) stops.2 fits in
    let so_far : Puts (has_events last.events) contents start out p.events = subst (λ (b : Bool). Puts b contents start out p.events) (sym stops.3) p.put in
    let more : Puts (has_events last.events) contents out end (held_events last.events) =
    subst (Puts (has_events last.events) contents out end) stops.4 (subst (λ (b : Bool). Puts b contents out end (held_events after.events)) (same ∙ sym stops.3) put) in
    subst (λ (asked : Option Wanted). LeavesFront asked ifaces first why contents start end) (same_output v last.events begun (stops.3 ∙ kind))
    (leaves_front v ifaces first u.text left p.events last why contents start end u.written (names_line what why last.phase of) (text_left first old new p.underway.text u.text left p.underway.consumed u.consumed stops.5.1)
    (left_stops u.text left last what why u.written.taken stops.5.2 of) fits_last (puts_more (has_events last.events) contents start out end p.events (held_events last.events) so_far more))

-- ---- a record of another bus

no_front_of : (xs ys : List ℕ) → xs ++ ys ≡ [] → xs ≡ []
no_front_of [] ys e = refl
no_front_of (x ∷ xs) ys e = absurd cc

-- nothing was written before the bus was known
pub nothing_put : (v : Wanted) (ifaces : Option ℕ) (text more events : List ℕ) (p q : Phase) (held : Option EventsText) (why : ProgramError) → AreWritten v text events p held → held_events held ≡ [] → HasCome (text ++ more) q
    → FitsBus ifaces (bus_taken p) → IsOtherBus ifaces (bus_taken q) why → events ≡ []
nothing_put v ifaces text more events p q None why w none then fits other = w.complete
nothing_put v ifaces text more events phase.Start q (Some e) why w none then fits other = no_front_of events e.text.items w.complete
nothing_put v ifaces text more events (phase.Front version) q (Some e) why w none then fits other = no_front_of events e.text.items w.complete
nothing_put v None text more events (phase.Entries b) q (Some e) why w none then fits other = absurd other
nothing_put v (Some n) text more events (phase.Entries b) phase.Start (Some e) why w none then fits other = absurd other
nothing_put v (Some n) text more events (phase.Entries b) (phase.Front version) (Some e) why w none then fits other = absurd other
nothing_put v (Some n) text more events (phase.Entries b) (phase.Entries d) (Some e) why w none then fits other =
    let same = same_bus text more (phase.Entries b) (phase.Entries d) b.config d.config w.taken then refl refl in
    absurd (other.1 (ap (λ (c : BusConfig). c.ifaces) (sym same) ∙ fits))
nothing_put v (Some n) text more events (phase.Entries b) (phase.Failed what) (Some e) why w none then fits other = absurd other
nothing_put v ifaces text more events (phase.Failed what) q (Some e) why w none then fits other = absurd w.taken

pub none_left : {W : Type 0} (v : Wanted) (ifaces : Option ℕ) (first : Option (List ℕ)) (text rest events : List ℕ) (held : Option EventsText) (why : ProgramError) (contents : W → Option (List ℕ)) (start out : W) → why ≡ fault.OtherBus → events ≡ [] → IsTextIn first (text ++ rest)
    → Puts (has_events held) contents start out events → LeavesFront (output_of v held) ifaces first why contents start out
none_left v ifaces first text rest events None why contents start out other none is put = put
none_left v ifaces first text rest events (Some e) why contents start out other none is put =
    (text ++ rest, is, inl (subst (HasNoEvents (text ++ rest)) (sym other) tt, subst (Appends (contents start) (contents out)) none put))

pub is_other : (ifaces : Option ℕ) (o : Option BusConfig) (why : ProgramError) → IsOtherBus ifaces o why → why ≡ fault.OtherBus
is_other None o why h = absurd h
is_other (Some n) None why h = absurd h
is_other (Some n) (Some c) why h = h.0

-- after the error for another bus, no events are written
leaves_other : {W : Type 0} (v : Wanted) (ifaces : Option ℕ) (first now after : Option (List ℕ)) (begun : Option EventsText) (audit next : TextAudit) (why : ProgramError) (contents : W → Option (List ℕ)) (start out : W) → has_events begun ≡ has_events audit.events
    → held_events audit.events ≡ [] → (p : IsPut v first now audit contents start out) → (on : IsUnderway v first after next p.events) (more : List ℕ) → on.text ≡ p.underway.text ++ more → FitsBus ifaces (bus_taken audit.phase) → IsOtherBus ifaces (bus_taken next.phase) why
    → LeavesFront (output_of v begun) ifaces first why contents start out
leaves_other v ifaces first now after begun audit next why contents start out kind none p on more is fits other =
    let u = p.underway in
    let t = text_with first now u.text u.consumed in
    let nothing = nothing_put v ifaces u.text more p.events audit.phase next.phase audit.events why u.written none (subst (λ (x : List ℕ). HasCome x next.phase) is on.written.taken) fits other in
    subst (λ (asked : Option Wanted). LeavesFront asked ifaces first why contents start out) (sym (same_output v begun audit.events kind))
    (none_left v ifaces first u.text t.0 p.events audit.events why contents start out (is_other ifaces (bus_taken next.phase) why other) nothing t.1 p.put)

-- the bus of the text does not have the wanted number of interfaces
pub of_other : (ifaces : Option ℕ) (first : Option (List ℕ)) (text rest : List ℕ) (p : Phase) (why : ProgramError) → IsTextIn first (text ++ rest) → HasCome text p → IsOtherBus ifaces (bus_taken p) why → IsOfOtherBus ifaces first why
of_other None first text rest p why is come other = absurd other
of_other (Some n) first text rest phase.Start why is come other = absurd other
of_other (Some n) first text rest (phase.Front version) why is come other = absurd other
of_other (Some n) first text rest (phase.Entries b) why is come other =
    subst (IsOfOtherBus (Some n) first) (sym other.0) (text ++ rest, is, b.config, has_bus text rest (phase.Entries b) b.config come refl, other.1)
of_other (Some n) first text rest (phase.Failed what) why is come other = absurd other

-- the error of an audit that stops while lines are read, because writing failed or the bus is not the wanted one
pub known_told : {W : Type 0} (v : Wanted) (has asks : Bool) (ifaces : Option ℕ) (first now : Option (List ℕ)) (audit : TextAudit) (events : List ℕ) (why : ProgramError) (out new : W) → has ≡ asks → IsUnderway v first now audit events
    → StopsEvents has why ⊎ (IsOtherBus ifaces (bus_taken audit.phase) why × (new ≡ out)) → StopsEvents asks why ⊎ (IsOfOtherBus ifaces first why ⊎ FaultsLine first why)
known_told v has asks ifaces first now audit events why out new same u (inl h) = inl (subst (λ (b : Bool). StopsEvents b why) same h)
known_told v has asks ifaces first now audit events why out new same u (inr h) =
    let t = text_with first now u.text u.consumed in
    inr (inl (of_other ifaces first u.text t.0 audit.phase why t.1 u.written.taken h.0))

pub stops_writing : (has : Bool) (why : ProgramError) → StopsEvents has why → why ≡ fault.Write
stops_writing false why h = absurd h
stops_writing true why h = h

pub known_left : {W : Type 0} (v : Wanted) (ifaces : Option ℕ) (first now after : Option (List ℕ)) (begun : Option EventsText) (audit next : TextAudit) (why : ProgramError) (contents : W → Option (List ℕ)) (start out new : W) → has_events begun ≡ has_events audit.events
    → held_events audit.events ≡ [] → (p : IsPut v first now audit contents start out) → (on : IsUnderway v first after next p.events) (more : List ℕ) → on.text ≡ p.underway.text ++ more → FitsBus ifaces (bus_taken audit.phase)
    → StopsEvents (has_events next.events) why ⊎ (IsOtherBus ifaces (bus_taken next.phase) why × (new ≡ out)) → Leaves (output_of v begun) ifaces first why contents start new
known_left v ifaces first now after begun audit next why contents start out new kind none p on more is fits (inl h) = inl (stops_writing (has_events next.events) why h)
known_left v ifaces first now after begun audit next why contents start out new kind none p on more is fits (inr h) =
    inr (subst (LeavesFront (output_of v begun) ifaces first why contents start) (sym h.1) (leaves_other v ifaces first now after begun audit next why contents start out kind none p on more is fits h.0))

-- before the first line is taken, the bus is not known
pub fits_at_start : (ifaces : Option ℕ) (p : Phase) → HasCome [] p → FitsBus ifaces (bus_taken p)
fits_at_start ifaces phase.Start come = tt
fits_at_start ifaces (phase.Front version) come = tt
fits_at_start ifaces (phase.Entries b) come =
    let h = has_bus [] [] (phase.Entries b) b.config come refl in
    absurd (torn_first [] (All-nil (λ x. x ≢ 10)) h.0 (spell (bus_words h.0 b.config) h.1) h.3)
fits_at_start ifaces (phase.Failed what) come = tt
