-- The result that is reported at the end of a text.
use Rattle.std.proofs.Common.{◌≡◌, ◌≢◌, ◌⊎◌, ◌<◌, ℕ, inl, inr, Bool, true, false, nat_le, List, [], ◌∷◌, ◌++◌, Option, Some, None, Result, Ok, Err, IfErr, IfOk, OnOk, ap, append-nil, arith, get_or, if◌then◌else◌, length, map, refl, rules, sym, ◌∙◌, subst}
use Rattle.std.specs.Result.{IsErrAnd}
use denote.Ref.{Bor}
use Rattle.std.specs.List.{Contains}
use Rattle.std.specs.Io.KnownBytes.{Appends}
use Rattle.std.proofs.KnownBytes.{Appends-nil, Appends-trans}
use Rattle.std.proofs.lemmas.List.{get_or-map, length-map}
use Rattle.std.proofs.lemmas.List.Elements.{All-get_or, All-nil}
use Rattle.std.proofs.lemmas.Option.{get_or_from_slice_get, slice_get_within}
use Rattle.can_event.specs.declared.bus_config.BusConfig.{BusConfig}
use Rattle.can_event.specs.declared.entry.Entry.{Entry}
use Rattle.can_event.specs.declared.reply.Reply.{Reply}
use Rattle.can_event.specs.Spelled.{FitsReply}
use Rattle.can_bus.specs.Legal.{legal_reply}
use Rattle.can_bus.proofs.Fitting.{legal_is_spelled}
use Rattle.can_record_text.specs.declared.fault.ReadFault.{ReadFault}
use Rattle.can_record_text.specs.declared.fault.ReadFault.TheVariants as read
use Rattle.can_record_text.specs.RecordFaults.{IsTextOf, Reads}
use Rattle.can_record_text.specs.declared.version.Version.{Version}
use Rattle.can_record_text.specs.Spelling.{end_words, entry_lines, spell, version_of}
use Rattle.can_replay.specs.declared.wanted.Wanted.{Wanted}
use Rattle.can_replay.specs.declared.text_audit.Phase.{Phase}
use Rattle.can_record_text.specs.Values.{HasLine, HasLines}
use Rattle.can_replay.specs.Histories.{before}
use Rattle.can_replay.specs.declared.text_fault.Cut.{Cut}
use Rattle.can_replay.specs.declared.text_fault.Cut.TheVariants as cut
use Rattle.can_replay.specs.declared.text_fault.TextFault.{TextFault}
use Rattle.can_replay.specs.declared.text_fault.TextFault.TheVariants as found
use Rattle.can_replay.specs.declared.text_fault.WrongLine.{WrongLine}
use Rattle.can_replay.specs.EventTexts.{AreWritten, EndsCutEvents, EndsEvents, HasWritten, end_line, has_events, held_events, rules_last, wrong_so_far}
use Rattle.can_replay.specs.EventTexts.{cut_line as cut_end_line}
use Rattle.can_replay.specs.TextAudits.{AreTaken, EndsNoLine, FaultsUncut, HasBus, HasCome, IsCutText, IsFrontOf, IsLegalText, Reports, ReportsCut, bus_taken}
use Rattle.can_replay.proofs.Lacking.{bus_is, torn_lacks}
use Rattle.can_replay.specs.inner.EntryAudits.{IsWrongIn}
use Rattle.can_replay.specs.declared.events_text.EventsText.{EventsText}
use Rattle.can_replay.specs.declared.text_audit.TextAudit.{TextAudit}
use Rattle.canbusd_io.specs.declared.report.Report.{Report}
use Rattle.canbusd_io.specs.declared.program_error.ProgramError.{ProgramError}
use Rattle.canbusd_io.specs.declared.program_error.ProgramError.TheVariants as fault
use Rattle.canbusd_io.specs.Files.{IsOfFile}
use Rattle.canbusd_options.specs.declared.audit_options.AuditOutput.{AuditOutput}
use Rattle.canbusd_options.specs.declared.audit_options.AuditOutput.TheVariants as writes
use Rattle.canbusd_audit.specs.Audited.{Audits, AuditsBy, AuditsCut, AuditsFiles, AuditsSome, Faults, FaultsBy, FaultsCut, FaultsFiles, FaultsInput, FaultsLast, FaultsLine, FaultsWhole, FitsBus, FitsLines, HasIfaces, HasNote, IsAskedBy, IsAudited, IsAuditedBy, IsAuditedCut, IsBlamedCut, IsCutWritten, IsInputTaken, IsOfAsked, IsOfFiles, IsOfOtherBus, IsOfSomeLine, IsOtherBus, IsQuiet, IsTextIn, IsTold, IsToldFault, IsUnread, IsWritten, Leaves, LeavesFiles, LeavesFront, Puts, StopsEvents, TakesLast, are_events, asks_events, cut_record_line, entries_line, ifaces_named, last_cut_line, last_line, wanted_of}
use Rattle.canbusd_audit.proofs.Fronts.{Names, Says, is_other, leaves_front, names_line, names_told, none_left, none_more, nothing_put, of_other, stops_writing, unread_none}
use Rattle.canbusd_audit.proofs.Underway.{asked_so, puts_more}

-- a legal reply that is reported is the correct one
told-lawful : (past_limit : Bool) (law r : Reply) → Some r ≡ (if past_limit then None else Some law) → r ≡ law
told-lawful true law r e = grind rules
told-lawful false law r e = grind rules

-- the entry and its legal reply can be written as lines
fits : (v : Version) (c : BusConfig) (entries : List Entry) (w : WrongLine) → HasLines v c entries → IsWrongIn c entries w → FitsLines w
fits v c entries w good wrong =
    let t = wrong.told in
    let e = t.first.entry in
    let here : HasLine v c e = subst (HasLine v c) (get_or_from_slice_get entries w.place e e t.first.there) (All-get_or (HasLine v c) entries w.place e (slice_get_within entries w.place e t.first.there) good.lines) in
    record {
      entry = subst (λ (x : Entry). FitsReply x.event x.reply) (sym wrong.entry) here.spelled.fits;
      legal = λ r is.
          let lawful = told-lawful (nat_le c.limit w.place) (legal_reply c (before entries w.place) e.event) r (sym is ∙ t.is_allowed) in
          subst (λ (x : Entry). FitsReply x.event r) (sym wrong.entry) (legal_is_spelled c (before entries w.place) e.event r lawful);
    }

pub noted : (text : List ℕ) (r : Result ℕ TextFault) → Reports text r → IfErr r HasNote
noted text (Ok count) h = tt
noted text (Err (found.Read why)) h = tt
noted text (Err (found.Wrong w)) h = fits (version_of h.config h.entries) h.config h.entries w h.whole.0 h.wrong

pub noted_cut : (text : List ℕ) (r : Result Cut TextFault) → ReportsCut text r → IfErr r HasNote
noted_cut text (Ok how) h = tt
noted_cut text (Err (found.Read why)) h = tt
noted_cut text (Err (found.Wrong w)) (inl h) = fits (version_of h.config h.entries) h.config h.entries w h.whole.0 h.wrong
noted_cut text (Err (found.Wrong w)) (inr h) = fits h.front.version h.config h.entries w h.front.good h.wrong

bus_of_record : (text : List ℕ) (c : BusConfig) (es : List Entry) → IsTextOf text c es → HasBus text c
bus_of_record text c es whole = (version_of c es, entry_lines es (spell (end_words (length es)) []), whole.0.bus, whole.1)

bus_of_front : (text : List ℕ) (c : BusConfig) (es : List Entry) → IsFrontOf text c es → HasBus text c
bus_of_front text c es front = (front.version, entry_lines es front.torn, front.good.bus, front.begins)

-- an audit without events has no lines about rules at its end
no_rules : (held : Option EventsText) (ws : List ℕ) → has_events held ≡ false → ws ≡ rules_last held → ws ≡ []
no_rules None ws kind is = is
no_rules (Some e) ws kind is = absurd cc

-- the events that are still held are empty, so they do not change what was written
none_between : (events held last : List ℕ) → held ≡ [] → events ++ last ≡ (events ++ held) ++ last
none_between events held last none = ap (λ (x : List ℕ). x ++ last) (sym (ap (λ (x : List ℕ). events ++ x) none ∙ append-nil events))

-- the output of the audit of a legal record: its events if the audit collects them, the last lines about rules, and the
-- last line
whole_written : {W : Type 0} (asked : Option Wanted) (ifaces : Option ℕ) (held : Option EventsText) (ws : List ℕ) (contents : W → Option (List ℕ)) (start out new : W) (text events : List ℕ) (count : ℕ) → has_events held ≡ asks_events asked → held_events held ≡ [] → ws ≡ rules_last held
    → Puts (asks_events asked) contents start out events → EndsEvents (wanted_of asked) held text events count → IsLegalText text count → ((c : BusConfig) → HasBus text c → HasIfaces ifaces c) → Appends (contents out) (contents new) (ws ++ last_line (asks_events asked) count) → IsAudited asked ifaces text (contents start) (contents new)
whole_written {W = W} None ifaces held ws contents start out new text events count kind none rules put ends h named wrote =
    let plain = subst (λ (x : List ℕ). Appends (contents out) (contents new) (x ++ entries_line count)) (no_rules held ws kind rules) wrote in
    record {
      config = h.config;
      entries = h.entries;
      whole = h.whole;
      legal = h.legal;
      named = named h.config (bus_of_record text h.config h.entries h.whole);
      wrote = subst (λ (w : W). Appends (contents w) (contents new) (entries_line (length h.entries))) put (subst (λ (n : ℕ). Appends (contents out) (contents new) (entries_line n)) h.counted plain);
    }
whole_written (Some w) ifaces None ws contents start out new text events count kind none rules put ends h named wrote = absurd cc
whole_written (Some w) ifaces (Some e) ws contents start out new text events count kind none rules put ends h named wrote =
    let last : List ℕ = rules_last (Some e) ++ end_line count in
    let wrote_last = subst (λ (x : List ℕ). Appends (contents out) (contents new) (x ++ end_line count)) rules wrote in
    record {
      config = ends.config;
      entries = ends.entries;
      whole = ends.whole;
      legal = ends.legal;
      named = named ends.config (bus_of_record text ends.config ends.entries ends.whole);
      wrote = subst (Appends (contents start) (contents new)) (none_between events e.text.items last none ∙ ends.are) (Appends-trans (contents start) (contents out) (contents new) events last put wrote_last);
    }

-- the output of the audit of a record that is cut off
off_written : {W : Type 0} (asked : Option Wanted) (ifaces : Option ℕ) (held : Option EventsText) (ws : List ℕ) (contents : W → Option (List ℕ)) (start out new : W) (text events : List ℕ) (count : ℕ) → has_events held ≡ asks_events asked → held_events held ≡ [] → ws ≡ rules_last held
    → Puts (asks_events asked) contents start out events → EndsCutEvents (wanted_of asked) held text events (cut.Off count) → IsCutText text count → ((c : BusConfig) → HasBus text c → HasIfaces ifaces c) → Appends (contents out) (contents new) (ws ++ last_cut_line (asks_events asked) count)
    → IsAuditedCut asked ifaces text (contents start) (contents new)
off_written {W = W} None ifaces held ws contents start out new text events count kind none rules put ends h named wrote =
    let plain = subst (λ (x : List ℕ). Appends (contents out) (contents new) (x ++ cut_record_line count)) (no_rules held ws kind rules) wrote in
    record {
      config = h.config;
      entries = h.entries;
      front = h.front;
      legal = h.legal;
      named = named h.config (bus_of_front text h.config h.entries h.front);
      wrote = subst (λ (w : W). Appends (contents w) (contents new) (cut_record_line (length h.entries))) put (subst (λ (n : ℕ). Appends (contents out) (contents new) (cut_record_line n)) h.counted plain);
    }
off_written (Some w) ifaces None ws contents start out new text events count kind none rules put ends h named wrote = absurd cc
off_written (Some w) ifaces (Some e) ws contents start out new text events count kind none rules put ends h named wrote =
    let last : List ℕ = rules_last (Some e) ++ cut_end_line count in
    let wrote_last = subst (λ (x : List ℕ). Appends (contents out) (contents new) (x ++ cut_end_line count)) rules wrote in
    record {
      config = ends.config;
      entries = ends.entries;
      front = ends.front;
      legal = ends.legal;
      named = named ends.config (bus_of_front text ends.config ends.entries ends.front);
      wrote = subst (Appends (contents start) (contents new)) (none_between events e.text.items last none ∙ ends.are) (Appends-trans (contents start) (contents out) (contents new) events last put wrote_last);
    }

told : (text : List ℕ) (r : Result ℕ TextFault) (why : ProgramError) → Reports text r → IsTold r why → Faults text why
told text (Ok count) why h is = subst (Faults text) (sym is) (record { config = h.config; entries = h.entries; whole = h.whole; says = tt })
told text (Err (found.Read what)) why h is = subst (Faults text) (sym is) h
told text (Err (found.Wrong w)) why h is = subst (Faults text) (sym is) (record { config = h.config; entries = h.entries; whole = h.whole; says = h.wrong.told.first })

-- what an error says about a text that may be cut off
told_cut : (text : List ℕ) (r : Result Cut TextFault) (why : ProgramError) → ReportsCut text r → IsTold r why → FaultsBy true text why
told_cut text (Ok (cut.Whole count)) why h is = inl (subst (FaultsWhole text) (sym is) (record { config = h.config; entries = h.entries; whole = h.whole; says = tt }))
told_cut text (Ok (cut.Off count)) why h is = inr (subst (IsBlamedCut text) (sym is) (record { config = h.config; entries = h.entries; front = h.front; says = tt }))
told_cut text (Err (found.Read what)) why h is = inl (subst (FaultsWhole text) (sym is) h)
told_cut text (Err (found.Wrong w)) why (inl h) is = inl (subst (FaultsWhole text) (sym is) (record { config = h.config; entries = h.entries; whole = h.whole; says = h.wrong.told.first }))
told_cut text (Err (found.Wrong w)) why (inr h) is = inr (subst (IsBlamedCut text) (sym is) (record { config = h.config; entries = h.entries; front = h.front; says = h.wrong.told.first }))

-- what `FaultsWhole` says about a text implies what `Faults` says
plain : (text : List ℕ) (why : ProgramError) → FaultsWhole text why → Faults text why
plain text (fault.Record read.NoMemory) h = tt
plain text (fault.Record read.BadVersion) h = h.0
plain text (fault.Record (read.BadLine n)) h = h.0
plain text why h = h

-- ---- the result that is reported for the text from a reader

-- the error in a line is an error in the text
pub line_told : (first : Option (List ℕ)) (why : ProgramError) → FaultsLine first why → FaultsInput first why
line_told first why h = (h.0, h.1, plain h.0 why h.2)

-- all lines of a text were taken, and their events were written
pub record IsReady {W : Type 0} (w : Wanted) (first : Option (List ℕ)) (audit : TextAudit) (torn : List ℕ) (contents : W → Option (List ℕ)) (start out : W) : Type 0 where
  pub text : List ℕ
  pub events : List ℕ
  pub is_text : IsTextIn first (text ++ torn)
  pub written : HasWritten w text events audit
  pub none_held : held_events audit.events ≡ []
  pub put : Puts (has_events audit.events) contents start out events

pub ready : {W : Type 0} (w : Wanted) (first : Option (List ℕ)) (audit : TextAudit) (torn : List ℕ) (contents : W → Option (List ℕ)) (start out : W) → IsInputTaken w first audit torn contents start out → IsReady w first audit torn contents start out
ready w first audit torn contents start out t = record { text = t.lines; events = t.events; is_text = t.is_text; written = t.written; none_held = t.none_held; put = t.put }

-- the last line, if there is one, was also taken
pub ready_last : {W : Type 0} (w : Wanted) (first : Option (List ℕ)) (before after last : TextAudit) (torn : List ℕ) (contents : W → Option (List ℕ)) (start out new : W) → IsInputTaken w first before torn contents start out → TakesLast before torn after
    → has_events after.events ≡ has_events before.events → has_events last.events ≡ has_events after.events → ((w : Wanted) (text events : List ℕ) → HasWritten w text events after → HasWritten w text (events ++ held_events after.events) last)
    → held_events last.events ≡ [] → Puts (has_events after.events) contents out new (held_events after.events) → IsReady w first last [] contents start new
ready_last w first before after last torn contents start out new t takes kind kind_too written none put = record {
  text = t.lines ++ torn;
  events = t.events ++ held_events after.events;
  is_text = subst (IsTextIn first) (sym (append-nil (t.lines ++ torn))) t.is_text;
  written = written w (t.lines ++ torn) t.events (takes w t.lines t.events t.written);
  none_held = none;
  put = subst (λ (b : Bool). Puts b contents start new (t.events ++ held_events after.events)) (sym kind_too)
      (puts_more (has_events after.events) contents start out new t.events (held_events after.events) (subst (λ (b : Bool). Puts b contents start out t.events) (sym kind) t.put) put);
}

-- the bus of the whole text is the bus whose interfaces were counted
fitting : (ifaces : Option ℕ) (text torn : List ℕ) (p : Phase) (c : BusConfig) → HasCome text p → EndsNoLine torn → HasBus (text ++ torn) c → FitsBus ifaces (bus_taken p) → HasIfaces ifaces c
fitting ifaces text torn p c come unended bus fits = subst (FitsBus ifaces) (bus_is text torn p c come unended bus) fits

pub all_written : {W : Type 0} (asked : Option Wanted) (ifaces : Option ℕ) (has : Bool) (first : Option (List ℕ)) (audit : TextAudit) (ws : List ℕ) (contents : W → Option (List ℕ)) (start out new : W) (found : Result ℕ TextFault) (r : Result (Unit {0}) Report) → has ≡ asks_events asked
    → has_events audit.events ≡ asks_events asked → IsReady (wanted_of asked) first audit [] contents start out → ws ≡ rules_last audit.events → ((text : List ℕ) → AreTaken text audit → Reports text found)
    → ((w : Wanted) (text events : List ℕ) (held : Option EventsText) → AreWritten w text events audit.phase held → IfOk found (EndsEvents w held text events)) → FitsBus ifaces (bus_taken audit.phase) → OnOk r (IsWritten has ws found (contents out) (contents new)) → OnOk r (Audits asked ifaces first contents start new)
all_written asked ifaces has first audit ws contents start out new (Ok count) (Ok u) same kind t rules tells ends fits h = (
  t.text,
  subst (IsTextIn first) (append-nil t.text) t.is_text,
  whole_written asked ifaces audit.events ws contents start out new t.text t.events count kind t.none_held rules (subst (λ (b : Bool). Puts b contents start out t.events) kind t.put)
      (ends (wanted_of asked) t.text t.events audit.events t.written) (tells t.text t.written.taken) (λ c bus. fitting ifaces t.text [] audit.phase c t.written.taken (All-nil (λ b. b ≢ 10)) (subst (λ (x : List ℕ). HasBus x c) (sym (append-nil t.text)) bus) fits) (subst (λ (b : Bool). Appends (contents out) (contents new) (ws ++ last_line b count)) same h),
)
all_written asked ifaces has first audit ws contents start out new (Err what) (Ok u) same kind t rules tells ends fits h = absurd h
all_written asked ifaces has first audit ws contents start out new found (Err why) same kind t rules tells ends fits h = tt

pub all_told : {W : Type 0} (w : Wanted) (first : Option (List ℕ)) (audit : TextAudit) (contents : W → Option (List ℕ)) (start out : W) (found : Result ℕ TextFault) (r : Result (Unit {0}) Report) → IsReady w first audit [] contents start out
    → ((text : List ℕ) → AreTaken text audit → Reports text found) → IfErr r (λ failure. IsTold found failure.error) → IfErr r (λ failure. FaultsInput first failure.error)
all_told w first audit contents start out found (Ok u) t tells h = tt
all_told w first audit contents start out found (Err failure) t tells h = (t.text, subst (IsTextIn first) (append-nil t.text) t.is_text, told t.text found failure.error (tells t.text t.written.taken) h)

-- ---- the output before the error in the text was found

-- what an error says about a text
SaysOfText : List ℕ → TextFault → Type 0
SaysOfText text (found.Read what) = Reads text (Err what)
SaysOfText text (found.Wrong w) = Unit {0}

says_so : (text : List ℕ) (what : TextFault) (why : ProgramError) → SaysOfText text what → IsToldFault what why → Says text why
unfolding SaysOfText
says_so text (found.Read what) why h is = subst (Says text) (sym is) h
says_so text (found.Wrong w) why h is = subst (Says text) (sym is) tt

says_whole : (text : List ℕ) (r : Result ℕ TextFault) → Reports text r → (what : TextFault) → r ≡ Err what → SaysOfText text what
unfolding SaysOfText
says_whole text (Ok count) h what is = absurd cc
says_whole text (Err (found.Read why)) h what is =
    let same : found.Read why ≡ what = cc in
    subst (SaysOfText text) same h
says_whole text (Err (found.Wrong w)) h what is =
    let same : found.Wrong w ≡ what = cc in
    subst (SaysOfText text) same tt

reads_uncut : (text : List ℕ) (why : ReadFault) → FaultsUncut text why → Reads text (Err why)
reads_uncut text read.NoMemory h = tt
reads_uncut text read.BadVersion h = h.0
reads_uncut text (read.BadLine n) h = h.0

says_cut : (text : List ℕ) (r : Result Cut TextFault) → ReportsCut text r → (what : TextFault) → r ≡ Err what → SaysOfText text what
unfolding SaysOfText
says_cut text (Ok how) h what is = absurd cc
says_cut text (Err (found.Read why)) h what is =
    let same : found.Read why ≡ what = cc in
    subst (SaysOfText text) same (reads_uncut text why h)
says_cut text (Err (found.Wrong w)) h what is =
    let same : found.Wrong w ≡ what = cc in
    subst (SaysOfText text) same tt

says_last : (text : List ℕ) (why : ProgramError) → Faults text why → Says text why
says_last text (fault.Record what) h = h
says_last text why h = tt

all_left : {W : Type 0} (asked : Option Wanted) (ifaces : Option ℕ) (first : Option (List ℕ)) (audit : TextAudit) (torn : List ℕ) (contents : W → Option (List ℕ)) (start out new : W) (why : ProgramError) → has_events audit.events ≡ asks_events asked
    → EndsNoLine torn → (t : IsReady (wanted_of asked) first audit torn contents start out) → Names why audit.phase → Says (t.text ++ torn) why → FitsBus ifaces (bus_taken audit.phase) → IsQuiet why out new → Leaves asked ifaces first why contents start new
all_left asked ifaces first audit torn contents start out new why kind unended t names says fits (inl is) = inl is
all_left asked ifaces first audit torn contents start out new why kind unended t names says fits (inr same) =
    inr (subst (LeavesFront asked ifaces first why contents start) (sym same)
    (subst (λ (o : Option Wanted). LeavesFront o ifaces first why contents start out) (sym (asked_so asked audit.events kind))
    (leaves_front (wanted_of asked) ifaces first t.text torn t.events audit why contents start out t.written names t.is_text (inr ((λ come. torn_lacks t.text torn audit.phase come unended), says)) fits
    (none_more (has_events audit.events) contents start out t.events (held_events audit.events) t.none_held t.put))))

left : {W A : Type 0} (asked : Option Wanted) (ifaces : Option ℕ) (first : Option (List ℕ)) (audit : TextAudit) (torn : List ℕ) (contents : W → Option (List ℕ)) (start out new : W) (what : Result A TextFault) (r : Result (Unit {0}) Report) → has_events audit.events ≡ asks_events asked
    → EndsNoLine torn → (t : IsReady (wanted_of asked) first audit torn contents start out) → ((f : TextFault) → what ≡ Err f → SaysOfText (t.text ++ torn) f) → ((w : WrongLine) → what ≡ Err (found.Wrong w) → wrong_so_far audit.phase ≡ Some w)
    → FitsBus ifaces (bus_taken audit.phase) → IfErr r (λ failure. IsTold what failure.error) → IfErr r (λ failure. IsQuiet failure.error out new) → IfErr r (λ failure. Leaves asked ifaces first failure.error contents start new)
left asked ifaces first audit torn contents start out new what (Ok u) kind unended t says wrong fits tells quiet = tt
left asked ifaces first audit torn contents start out new (Ok count) (Err failure) kind unended t says wrong fits tells quiet = inl tells
left asked ifaces first audit torn contents start out new (Err what) (Err failure) kind unended t says wrong fits tells quiet =
    all_left asked ifaces first audit torn contents start out new failure.error kind unended t (names_told what failure.error audit.phase (λ w is. wrong w (ap Err is)) tells) (says_so (t.text ++ torn) what failure.error (says what refl) tells) fits quiet

-- the output after a call that failed because memory was refused, and that wrote nothing
pub memory_left : {W : Type 0} (asked : Option Wanted) (ifaces : Option ℕ) (first : Option (List ℕ)) (audit : TextAudit) (torn : List ℕ) (contents : W → Option (List ℕ)) (start out : W) (why : ProgramError) → has_events audit.events ≡ asks_events asked → EndsNoLine torn
    → IsReady (wanted_of asked) first audit torn contents start out → FitsBus ifaces (bus_taken audit.phase) → why ≡ fault.NoMemory → Leaves asked ifaces first why contents start out
memory_left asked ifaces first audit torn contents start out why kind unended t fits is =
    subst (λ (e : ProgramError). Leaves asked ifaces first e contents start out) (sym is) (all_left asked ifaces first audit torn contents start out out fault.NoMemory kind unended t tt tt fits (inr refl))

pub left_whole : {W : Type 0} (asked : Option Wanted) (ifaces : Option ℕ) (first : Option (List ℕ)) (audit : TextAudit) (contents : W → Option (List ℕ)) (start out new : W) (what : Result ℕ TextFault) (r : Result (Unit {0}) Report) → has_events audit.events ≡ asks_events asked
    → IsReady (wanted_of asked) first audit [] contents start out → ((text : List ℕ) → AreTaken text audit → Reports text what) → ((w : WrongLine) → what ≡ Err (found.Wrong w) → wrong_so_far audit.phase ≡ Some w)
    → FitsBus ifaces (bus_taken audit.phase) → IfErr r (λ failure. IsTold what failure.error) → IfErr r (λ failure. IsQuiet failure.error out new) → IfErr r (λ failure. Leaves asked ifaces first failure.error contents start new)
left_whole asked ifaces first audit contents start out new what r kind t tells wrong fits told quiet =
    left asked ifaces first audit [] contents start out new what r kind (All-nil (λ b. b ≢ 10)) t
    (λ f is. subst (λ (x : List ℕ). SaysOfText x f) (sym (append-nil t.text)) (says_whole t.text what (tells t.text t.written.taken) f is)) wrong fits told quiet

pub left_cut : {W : Type 0} (asked : Option Wanted) (ifaces : Option ℕ) (first : Option (List ℕ)) (audit : TextAudit) (torn : List ℕ) (contents : W → Option (List ℕ)) (start out new : W) (what : Result Cut TextFault) (r : Result (Unit {0}) Report) → has_events audit.events ≡ asks_events asked
    → EndsNoLine torn → IsReady (wanted_of asked) first audit torn contents start out → ((text : List ℕ) → AreTaken text audit → EndsNoLine torn → ReportsCut (text ++ torn) what) → ((w : WrongLine) → what ≡ Err (found.Wrong w) → wrong_so_far audit.phase ≡ Some w)
    → FitsBus ifaces (bus_taken audit.phase) → IfErr r (λ failure. IsTold what failure.error) → IfErr r (λ failure. IsQuiet failure.error out new) → IfErr r (λ failure. Leaves asked ifaces first failure.error contents start new)
left_cut asked ifaces first audit torn contents start out new what r kind unended t tells wrong fits told quiet =
    left asked ifaces first audit torn contents start out new what r kind unended t (λ f is. says_cut (t.text ++ torn) what (tells t.text t.written.taken unended) f is) wrong fits told quiet

-- the last line is invalid
pub last_told : {W : Type 0} (w : Wanted) (first : Option (List ℕ)) (torn : List ℕ) (audit : TextAudit) (contents : W → Option (List ℕ)) (start out : W) (why : ProgramError) → IsInputTaken w first audit torn contents start out → FaultsLast audit torn why
    → FaultsInput first why
last_told w first torn audit contents start out why t h = (t.lines ++ torn, t.is_text, h t.lines t.written.taken)

-- the output of the audit of a text that may be cut off
pub cut_written : {W : Type 0} (asked : Option Wanted) (ifaces : Option ℕ) (has : Bool) (first : Option (List ℕ)) (audit : TextAudit) (torn ws : List ℕ) (contents : W → Option (List ℕ)) (start out new : W) (found : Result Cut TextFault) (r : Result (Unit {0}) Report)
    → has ≡ asks_events asked → has_events audit.events ≡ asks_events asked → IsReady (wanted_of asked) first audit torn contents start out → ws ≡ rules_last audit.events → EndsNoLine torn → ((text : List ℕ) → AreTaken text audit → EndsNoLine torn → ReportsCut (text ++ torn) found)
    → ((w : Wanted) (text events : List ℕ) (held : Option EventsText) → AreWritten w text events audit.phase held → EndsNoLine torn → IfOk found (EndsCutEvents w held (text ++ torn) events))
    → FitsBus ifaces (bus_taken audit.phase) → OnOk r (IsCutWritten has ws found (contents out) (contents new)) → OnOk r (AuditsCut asked ifaces first contents start new)
cut_written asked ifaces has first audit torn ws contents start out new (Ok (cut.Whole count)) (Ok u) same kind t rules unended tells ends fits h = (
  t.text ++ torn,
  t.is_text,
  inl (whole_written asked ifaces audit.events ws contents start out new (t.text ++ torn) t.events count kind t.none_held rules (subst (λ (b : Bool). Puts b contents start out t.events) kind t.put)
      (ends (wanted_of asked) t.text t.events audit.events t.written unended) (tells t.text t.written.taken unended) (λ c bus. fitting ifaces t.text torn audit.phase c t.written.taken unended bus fits) (subst (λ (b : Bool). Appends (contents out) (contents new) (ws ++ last_line b count)) same h)),
)
cut_written asked ifaces has first audit torn ws contents start out new (Ok (cut.Off count)) (Ok u) same kind t rules unended tells ends fits h = (
  t.text ++ torn,
  t.is_text,
  inr (off_written asked ifaces audit.events ws contents start out new (t.text ++ torn) t.events count kind t.none_held rules (subst (λ (b : Bool). Puts b contents start out t.events) kind t.put)
      (ends (wanted_of asked) t.text t.events audit.events t.written unended) (tells t.text t.written.taken unended) (λ c bus. fitting ifaces t.text torn audit.phase c t.written.taken unended bus fits) (subst (λ (b : Bool). Appends (contents out) (contents new) (ws ++ last_cut_line b count)) same h)),
)
cut_written asked ifaces has first audit torn ws contents start out new (Err what) (Ok u) same kind t rules unended tells ends fits h = absurd h
cut_written asked ifaces has first audit torn ws contents start out new found (Err why) same kind t rules unended tells ends fits h = tt

pub all_told_cut : {W : Type 0} (w : Wanted) (first : Option (List ℕ)) (audit : TextAudit) (torn : List ℕ) (contents : W → Option (List ℕ)) (start out : W) (found : Result Cut TextFault) (r : Result (Unit {0}) Report) → IsReady w first audit torn contents start out
    → EndsNoLine torn → ((text : List ℕ) → AreTaken text audit → EndsNoLine torn → ReportsCut (text ++ torn) found) → IfErr r (λ failure. IsTold found failure.error) → IfErr r (λ failure. FaultsCut first failure.error)
all_told_cut w first audit torn contents start out found (Ok u) t unended tells h = tt
all_told_cut w first audit torn contents start out found (Err failure) t unended tells h = (t.text ++ torn, t.is_text, told_cut (t.text ++ torn) found failure.error (tells t.text t.written.taken unended) h)

-- ---- the output of an audit of files

pub files_written : {W : Type 0} (is_cut : Bool) (asked : Option Wanted) (ifaces : Option ℕ) {by : Bool} (first : Option (List ℕ)) (contents : W → Option (List ℕ)) (old new : W) (r : Result (Unit {0}) Report) → is_cut ≡ by → OnOk r (AuditsBy by asked ifaces first contents old new)
    → OnOk r (AuditsSome is_cut asked ifaces contents old new)
files_written is_cut asked ifaces {by} first contents old new (Ok u) is h = (h.0, subst (λ (b : Bool). IsAuditedBy b asked ifaces h.0 (contents old) (contents new)) (sym is) h.2)
files_written is_cut asked ifaces {by} first contents old new (Err why) is h = tt

-- nothing is known about the text that the files contain
front_of_some : {W : Type 0} (asked : Option Wanted) (ifaces : Option ℕ) (first : Option (List ℕ)) (why : ProgramError) (contents : W → Option (List ℕ)) (old new : W) → LeavesFront asked ifaces first why contents old new → LeavesFront asked ifaces None why contents old new
front_of_some None ifaces first why contents old new h = h
front_of_some (Some w) ifaces first why contents old new h = (h.0, tt, h.2)

pub files_left : {W : Type 0} (asked : Option Wanted) (ifaces : Option ℕ) (first : Option (List ℕ)) (contents : W → Option (List ℕ)) (old new : W) (r : Result (Unit {0}) Report) → IfErr r (λ failure. Leaves asked ifaces first failure.error contents old new)
    → IfErr r (λ failure. Leaves asked ifaces None failure.error contents old new)
files_left asked ifaces first contents old new (Ok u) h = tt
files_left asked ifaces first contents old new (Err failure) (inl is) = inl is
files_left asked ifaces first contents old new (Err failure) (inr h) = inr (front_of_some asked ifaces first failure.error contents old new h)

-- the output before any line was read is empty
pub nothing_left : {W : Type 0} (asked : Option Wanted) (ifaces : Option ℕ) (first : Option (List ℕ)) (why : ProgramError) (contents : W → Option (List ℕ)) (out : W) → IsUnread why → Leaves asked ifaces first why contents out out
nothing_left None ifaces first why contents out h = inr refl
nothing_left (Some w) ifaces None why contents out h = inr ([], tt, inl (unread_none [] why h, Appends-nil (contents out)))
nothing_left (Some w) ifaces (Some all) why contents out h = inr (all, refl, inl (unread_none all why h, Appends-nil (contents out)))

of_file_unread : (path : List ℕ) (why : ProgramError) → IsOfFile path why → IsUnread why
of_file_unread path (fault.CannotOpen named) h = tt
of_file_unread path fault.Read h = tt
of_file_unread path fault.NoMemory h = tt
of_file_unread path why h = absurd h

pub files_unread : (paths : List (List ℕ)) (why : ProgramError) → IsOfFiles paths why → IsUnread why
files_unread paths why h = of_file_unread h.0 why h.2

-- a property of an error holds for the error that is passed on to the caller
pub passed_on : {A : Type 0} (P : Report → Type 0) (failure : Report) (r : Result A Report) → IsErrAnd r (λ x. x ≡ failure) → P failure → IfErr r P
passed_on P failure (Ok a) passed h = tt
passed_on P failure (Err x) passed h = subst P (sym passed) h

-- ---- the files with these paths

abbrev pub paths_of : List (Bor (List ℕ)) → List (List ℕ)
paths_of named = map (λ (path : Bor (List ℕ)). path.now) named

path_at : (named : List (Bor (List ℕ))) (i : ℕ) (d : Bor (List ℕ)) → i < length named → Contains (paths_of named) (get_or named i d).now
path_at named i d low = (i, omega (arith, length-map named (λ (path : Bor (List ℕ)). path.now)), get_or-map (λ (path : Bor (List ℕ)). path.now) named i d (get_or named i d).now low)

pub of_file : (named : List (Bor (List ℕ))) (i : ℕ) (d : Bor (List ℕ)) (why : ProgramError) → i < length named → why ≡ fault.CannotOpen (get_or named i d) → IsOfFiles (paths_of named) why
of_file named i d why low is =
    let path = (get_or named i d).now in
    (path, path_at named i d low, subst (IsOfFile path) (sym is) refl)

pub of_memory : (named : List (Bor (List ℕ))) (i : ℕ) (why : ProgramError) → i < length named → why ≡ fault.NoMemory → IsOfFiles (paths_of named) why
of_memory [] i why low is = absurd (omega arith)
of_memory (path ∷ more) i why low is = (path.now, (0, omega arith, refl), subst (IsOfFile path.now) (sym is) tt)

-- ---- one of two kinds of error

-- it is an error in writing, or it says this about the text
abbrev pub Either : Bool → (ProgramError → Type 0) → Report → Type 0
Either has says failure = StopsEvents has failure.error ⊎ says failure.error

-- the bus does not have the wanted number of interfaces, or the error says this about the text
abbrev pub Or : Option ℕ → Option (List ℕ) → (ProgramError → Type 0) → ProgramError → Type 0
Or ifaces first says why = IsOfOtherBus ifaces first why ⊎ says why

pub or_text : {A : Type 0} (has : Bool) (ifaces : Option ℕ) (first : Option (List ℕ)) (says : ProgramError → Type 0) (r : Result A Report) → IfErr r (λ failure. says failure.error) → IfErr r (Either has (Or ifaces first says))
or_text has ifaces first says (Ok a) h = tt
or_text has ifaces first says (Err failure) h = inr (inr h)

or_more : {A : Type 0} (has : Bool) (says other : ProgramError → Type 0) (r : Result A Report) → ((why : ProgramError) → says why → other why) → IfErr r (Either has says) → IfErr r (Either has other)
or_more has says other (Ok a) turn h = tt
or_more has says other (Err failure) turn (inl is) = inl is
or_more has says other (Err failure) turn (inr h) = inr (turn failure.error h)

pub line_or : (has : Bool) (ifaces : Option ℕ) (first : Option (List ℕ)) (failure : Report) → Either has (Or ifaces first (FaultsLine first)) failure → Either has (Or ifaces first (FaultsInput first)) failure
line_or has ifaces first failure (inl is) = inl is
line_or has ifaces first failure (inr (inl other)) = inr (inl other)
line_or has ifaces first failure (inr (inr h)) = inr (inr (line_told first failure.error h))

cut_line_told : (first : Option (List ℕ)) (why : ProgramError) → FaultsLine first why → FaultsCut first why
cut_line_told first why h = (h.0, h.1, inl h.2)

pub line_or_cut : (has : Bool) (ifaces : Option ℕ) (first : Option (List ℕ)) (failure : Report) → Either has (Or ifaces first (FaultsLine first)) failure → Either has (Or ifaces first (FaultsCut first)) failure
line_or_cut has ifaces first failure (inl is) = inl is
line_or_cut has ifaces first failure (inr (inl other)) = inr (inl other)
line_or_cut has ifaces first failure (inr (inr h)) = inr (inr (cut_line_told first failure.error h))

-- more events had to be written, but writing failed or the bus is not the wanted one
pub known_or : {W : Type 0} (has asks : Bool) (ifaces : Option ℕ) (first : Option (List ℕ)) (text torn : List ℕ) (p : Phase) (failure : Report) (out new : W) (says : ProgramError → Type 0) → has ≡ asks → IsTextIn first (text ++ torn) → HasCome text p
    → StopsEvents has failure.error ⊎ (IsOtherBus ifaces (bus_taken p) failure.error × (new ≡ out)) → Either asks (Or ifaces first says) failure
known_or has asks ifaces first text torn p failure out new says same is come (inl h) = inl (subst (λ (b : Bool). StopsEvents b failure.error) same h)
known_or has asks ifaces first text torn p failure out new says same is come (inr h) = inr (inl (of_other ifaces first text torn p failure.error is come h.0))

-- memory for an audit was refused
pub memory_told : (first : Option (List ℕ)) (why : ProgramError) → why ≡ fault.NoMemory → FaultsInput first why
memory_told None why is = ([], tt, subst (Faults []) (sym is) tt)
memory_told (Some all) why is = (all, refl, subst (Faults all) (sym is) tt)

pub memory_told_cut : (first : Option (List ℕ)) (why : ProgramError) → why ≡ fault.NoMemory → FaultsCut first why
memory_told_cut None why is = ([], tt, inl (subst (FaultsWhole []) (sym is) tt))
memory_told_cut (Some all) why is = (all, refl, inl (subst (FaultsWhole all) (sym is) tt))

-- the output after the last line was taken, if writing failed or the bus is not the wanted one
pub known_left_last : {W : Type 0} (asked : Option Wanted) (ifaces : Option ℕ) (first : Option (List ℕ)) (before after : TextAudit) (torn : List ℕ) (contents : W → Option (List ℕ)) (start out new : W) (why : ProgramError) → has_events before.events ≡ asks_events asked
    → IsInputTaken (wanted_of asked) first before torn contents start out → TakesLast before torn after → FitsBus ifaces (bus_taken before.phase) → StopsEvents (has_events after.events) why ⊎ (IsOtherBus ifaces (bus_taken after.phase) why × (new ≡ out))
    → Leaves asked ifaces first why contents start new
known_left_last asked ifaces first before after torn contents start out new why kind t takes fits (inl h) = inl (stops_writing (has_events after.events) why h)
known_left_last asked ifaces first before after torn contents start out new why kind t takes fits (inr h) =
    let w = wanted_of asked in
    let nothing = nothing_put w ifaces t.lines torn t.events before.phase after.phase before.events why t.written t.none_held (takes w t.lines t.events t.written).taken fits h.0 in
    inr (subst (LeavesFront asked ifaces first why contents start) (sym h.1) (subst (λ (o : Option Wanted). LeavesFront o ifaces first why contents start out) (sym (asked_so asked before.events kind))
    (none_left w ifaces first t.lines torn t.events before.events why contents start out (is_other ifaces (bus_taken after.phase) why h.0) nothing t.is_text t.put)))

-- the output if the last line is invalid, so that it has no events
pub last_left : {W : Type 0} (asked : Option Wanted) (ifaces : Option ℕ) (first : Option (List ℕ)) (audit : TextAudit) (torn : List ℕ) (contents : W → Option (List ℕ)) (start out : W) (why : ProgramError) → has_events audit.events ≡ asks_events asked
    → IsInputTaken (wanted_of asked) first audit torn contents start out → FitsBus ifaces (bus_taken audit.phase) → FaultsLast audit torn why → IsOfSomeLine why → Leaves asked ifaces first why contents start out
unfolding ready
last_left asked ifaces first audit torn contents start out why kind t fits faults line =
    all_left asked ifaces first audit torn contents start out out why kind t.unended (ready (wanted_of asked) first audit torn contents start out t) (names_line line.0 why audit.phase line.1) (says_last (t.lines ++ torn) why (faults t.lines t.written.taken)) fits (inr refl)

-- ---- a record of another bus, in files

other_of_some : (ifaces : Option ℕ) (first : Option (List ℕ)) (why : ProgramError) → IsOfOtherBus ifaces first why → IsOfOtherBus ifaces None why
other_of_some (Some n) first fault.OtherBus h = (h.0, tt, h.2, h.3, h.4)
other_of_some (Some n) first why h = absurd h
other_of_some None first why h = absurd h

of_files : (ifaces : Option ℕ) (is_cut : Bool) (paths : List (List ℕ)) (first : Option (List ℕ)) (says : ProgramError → Type 0) → ((why : ProgramError) → says why → FaultsFiles is_cut paths why) → (why : ProgramError) → Or ifaces first says why
    → Or ifaces None (FaultsFiles is_cut paths) why
of_files ifaces is_cut paths first says turn why (inl other) = inl (other_of_some ifaces first why other)
of_files ifaces is_cut paths first says turn why (inr h) = inr (turn why h)

pub files_told : (is_cut has : Bool) (ifaces : Option ℕ) (paths : List (List ℕ)) (first : Option (List ℕ)) (r : Result (Unit {0}) Report) → is_cut ≡ false → IfErr r (Either has (Or ifaces first (FaultsInput first))) → IfErr r (Either has (Or ifaces None (FaultsFiles is_cut paths)))
files_told true has ifaces paths first r is h = absurd cc
files_told false has ifaces paths first r is h =
    or_more has (Or ifaces first (FaultsInput first)) (Or ifaces None (FaultsFiles false paths)) r (of_files ifaces false paths first (FaultsInput first) (λ why k. inr (k.0, k.2))) h

pub cut_files_told : (is_cut has : Bool) (ifaces : Option ℕ) (paths : List (List ℕ)) (first : Option (List ℕ)) (r : Result (Unit {0}) Report) → is_cut ≡ true → IfErr r (Either has (Or ifaces first (FaultsCut first))) → IfErr r (Either has (Or ifaces None (FaultsFiles is_cut paths)))
cut_files_told false has ifaces paths first r is h = absurd cc
cut_files_told true has ifaces paths first r is h =
    or_more has (Or ifaces first (FaultsCut first)) (Or ifaces None (FaultsFiles true paths)) r (of_files ifaces true paths first (FaultsCut first) (λ why k. inr (k.0, k.2))) h

-- ---- the result of an audit of files, according to the options

kinds : (output : AuditOutput) (asked : Option Wanted) → IsAskedBy output asked → asks_events asked ≡ are_events output
kinds writes.Count None by = refl
kinds writes.Count (Some w) by = absurd by
kinds (writes.Events e) None by = absurd by
kinds (writes.Events e) (Some w) by = refl

pub asked_written : {W : Type 0} (is_cut : Bool) (output : AuditOutput) (asked : Option Wanted) (ifaces : Option ℕ) (contents : W → Option (List ℕ)) (old new : W) (r : Result (Unit {0}) Report) → IsAskedBy output asked → ifaces ≡ ifaces_named output
    → OnOk r (AuditsSome is_cut asked ifaces contents old new) → OnOk r (AuditsFiles is_cut output contents old new)
asked_written is_cut output asked ifaces contents old new (Ok u) by is h = (asked, by, subst (λ (n : Option ℕ). AuditsSome is_cut asked n contents old new) is h)
asked_written is_cut output asked ifaces contents old new (Err why) by is h = tt

pub asked_told : (is_cut : Bool) (output : AuditOutput) (paths : List (List ℕ)) (asked : Option Wanted) (ifaces : Option ℕ) (r : Result (Unit {0}) Report) → IsAskedBy output asked → ifaces ≡ ifaces_named output
    → IfErr r (Either (asks_events asked) (Or ifaces None (FaultsFiles is_cut paths)))
    → IfErr r (λ failure. IsOfAsked output failure.error ⊎ (StopsEvents (are_events output) failure.error ⊎ (IsOfOtherBus (ifaces_named output) None failure.error ⊎ FaultsFiles is_cut paths failure.error)))
asked_told is_cut output paths asked ifaces (Ok u) by is h = tt
asked_told is_cut output paths asked ifaces (Err failure) by is h =
    inr (subst (λ (n : Option ℕ). Either (are_events output) (Or n None (FaultsFiles is_cut paths)) failure) is (subst (λ (b : Bool). Either b (Or ifaces None (FaultsFiles is_cut paths)) failure) (kinds output asked by) h))

pub asked_left : {W : Type 0} (output : AuditOutput) (asked : Option Wanted) (ifaces : Option ℕ) (contents : W → Option (List ℕ)) (old new : W) (r : Result (Unit {0}) Report) → IsAskedBy output asked → ifaces ≡ ifaces_named output → IfErr r (λ failure. Leaves asked ifaces None failure.error contents old new)
    → IfErr r (λ failure. LeavesFiles output failure.error contents old new)
asked_left output asked ifaces contents old new (Ok u) by is h = tt
asked_left output asked ifaces contents old new (Err failure) by is h = inr (asked, by, subst (λ (n : Option ℕ). Leaves asked n None failure.error contents old new) is h)
