-- The events that one more line of the record adds.
use Rattle.std.proofs.Common.{◌≡◌, ◌≢◌, ◌≤◌, ◌+◌, ◌-◌, ◌&&◌, not, ℕ, Bool, true, false, All, List, [], ◌∷◌, ◌++◌, length, take, Option, Some, None, IfOk, Result, Ok, Err, inl, inr, append_assoc, length-append, refl, sym, ap, subst, ◌∙◌, arith}
use Rattle.std.specs.Prelude.{codes, reverse}
use Rattle.std.proofs.Math.Seq.{take-append_seam}
use Rattle.std.proofs.lemmas.Bool.{cases_lt}
use Rattle.std.proofs.lemmas.List.{append-nil, length-reverse, reverse-append, take-append-le}
use Rattle.std.proofs.lemmas.List.Elements.{All-head}
use Rattle.std.proofs.lemmas.Option.{slice_get_within}
use Rattle.can_event.specs.declared.bus_config.BusConfig.{BusConfig}
use Rattle.can_event.specs.declared.entry.Entry.{Entry}
use Rattle.can_event.specs.declared.event.Event.{Event}
use Rattle.can_event.specs.declared.event.Event.TheVariants.{Open, Close, SetFilters, SetOption, Send, Receive, Attempt, Restart, Down}
use Rattle.can_event.specs.declared.reply.Reply.{Reply}
use Rattle.can_bus.specs.Lean.{IsAfter}
use Rattle.can_bus.specs.Legal.{IsLegal}
use Rattle.can_wire.specs.Timings.{BusTiming}
use Rattle.can_rules.specs.RunFaults.{RunSeen}
use Rattle.can_record_text.specs.declared.version.Version.{Version}
use Rattle.can_record_text.specs.Spelling.{bus_words, entry_line, entry_words, first_line, spell, version_of}
use Rattle.can_record_text.specs.Values.{HasLine}
use Rattle.can_replay.specs.Brought.{is_step}
use Rattle.can_replay.specs.declared.wanted.Wanted.{Wanted}
use Rattle.can_replay.specs.Words.{numbered}
use Rattle.can_replay.specs.EventsText.{asked_by, asked_of, events_front, events_line, events_lines, faults_after, parts_of, rule_by, rule_in, rule_part, rules_at_end, rules_at_start, rules_before, rules_by, tried_part, unended, wanted_after, wire_part, with_parts}
use Rattle.can_replay.specs.EventsText.{events_version as events_first_line}
use Rattle.can_replay.specs.inner.Seen.{HasSeen}
use Rattle.can_replay.specs.Audits.{IsFirstWrongEntry}
use Rattle.can_replay.specs.Histories.{before}
use Rattle.can_replay.specs.declared.entry_audit.EntryAudit.{EntryAudit}
use Rattle.can_replay.specs.declared.text_fault.WrongLine.{WrongLine}
use Rattle.can_replay.specs.declared.events_text.EventsText.{EventsText}
use Rattle.can_replay.specs.declared.text_audit.Phase.TheVariants as phase
use Rattle.can_replay.specs.declared.text_fault.Cut.{Cut}
use Rattle.can_replay.specs.declared.text_fault.Cut.TheVariants as cut
use Rattle.can_replay.specs.declared.text_fault.TextFault.{TextFault}
use Rattle.can_replay.specs.EventTexts.{AreWritten, Completes, EndsCutEvents, EndsEvents, IsReached, IsWantedAfter, IsWhole, WritesOn, WritesParts, cut_line, end_line, events_of, is_legal_yet, is_none, legal_part, legal_past, rules_first}
use Rattle.can_replay.specs.TextAudits.{IsLine}
use Rattle.can_replay.specs.inner.EntryAudits.{IsBegun, IsGoing, IsSettled}
use Rattle.can_replay.proofs.Auditing.{last-right, none-wrong, one-first}
use Rattle.can_replay.proofs.EntriesBefore.{legal_front}
use Rattle.can_replay.proofs.GoingOn.{An_entry, No_entry, goes_on, last_of, none_after_end, one_line_more}
use Rattle.can_replay.proofs.LineEnds.{event_words_then}
use Rattle.can_replay.proofs.Taking.{told_more}
use Rattle.can_replay.proofs.Uncut.{words_end}

-- ---- the legal entries at the front of the record

-- Legal entries contain no wrong entry.
after_legal : (c : BusConfig) (es more : List Entry) (k : ℕ) → IsLegal c (reverse es) → IsFirstWrongEntry c (es ++ more) k → length es ≤ k
after_legal c es more k legal f =
    elim (cases_lt k (length es)) [
      | inl lt ↦
          let same : before es (k + 1) ≡ before (es ++ more) (k + 1) = ap reverse (sym (take-append-le (k + 1) es more (omega (arith, lt)))) in
          absurd (last-right c (es ++ more) k (subst (IsLegal c) same (legal_front c es (k + 1) legal)) f)
      | inr le ↦ le
    ]

-- Entries after a wrong entry do not change the legal entries at the front.
part_stays : (c : BusConfig) (es more : List Entry) (o p : Option WrongLine) → is_none o ≡ false → IsSettled c es o → IsSettled c (es ++ more) p → legal_part (es ++ more) p ≡ legal_part es o
part_stays c es more None p some old new = absurd cc
part_stays c es more (Some w) None some old new = absurd (none-wrong c (es ++ more) w.place new (told_more c es more w.place w.legal old.told).first)
part_stays c es more (Some w) (Some u) some old new =
    let first = told_more c es more w.place w.legal old.told in
    let same : u.place ≡ w.place = one-first c (es ++ more) u.place w.place new.told.first first.first in
    let below = slice_get_within es w.place old.told.first.entry old.told.first.there in
    ap (λ (n : ℕ). take n (es ++ more)) same ∙ take-append-le w.place es more (omega (arith, below))

-- Two audit results for the same entries give the same legal entries.
part_same : (c : BusConfig) (es : List Entry) (o p : Option WrongLine) → IsSettled c es o → IsSettled c es p → legal_part es p ≡ legal_part es o
part_same c es None None old new = refl
part_same c es None (Some w) old new = absurd (none-wrong c es w.place old new.told.first)
part_same c es (Some w) None old new = absurd (none-wrong c es w.place new old.told.first)
part_same c es (Some w) (Some u) old new = ap (λ (n : ℕ). take n es) (one-first c es u.place w.place new.told.first old.told.first)

-- If one more entry is the first wrong one, all entries before it are legal.
part_ends : (c : BusConfig) (es : List Entry) (e : Entry) (o p : Option WrongLine) → is_none o ≡ true → is_none p ≡ false → IsSettled c es o → IsSettled c (es ++ e ∷ []) p → legal_part (es ++ e ∷ []) p ≡ legal_part es o
part_ends c es e (Some w) p none some old new = absurd cc
part_ends c es e None None none some old new = absurd cc
part_ends c es e None (Some w) none some old new =
    let first = new.told.first in
    let low = after_legal c es (e ∷ []) w.place old first in
    let below = slice_get_within (es ++ e ∷ []) w.place first.entry first.there in
    let here : w.place ≡ length es = omega (arith, low, below, length-append es (e ∷ [])) in
    ap (λ (n : ℕ). take n (es ++ e ∷ [])) here ∙ take-append_seam es (e ∷ [])

part_whole : (es : List Entry) (o : Option WrongLine) → is_none o ≡ true → legal_part es o ≡ es
part_whole es None none = refl
part_whole es (Some w) none = absurd cc

-- ---- the events that belong to a line

ends_line : (ws : List (List ℕ)) → ws ≢ [] → (q : List ℕ) × (spell ws [] ≡ q ++ 10 ∷ [])
ends_line [] some = absurd (some refl)
ends_line (w ∷ ws) some = let last = words_end w ws in (last.0, last.1 [])

unended_line : (line q : List ℕ) → line ≡ q ++ 10 ∷ [] → unended line ++ 10 ∷ [] ≡ line
unended_line line q is =
    let size : length line - 1 ≡ length q = omega (arith, ap length is, length-append q (10 ∷ [])) in
    ap (λ (x : List ℕ). x ++ 10 ∷ []) (ap (λ (n : ℕ). take n line) size ∙ ap (take (length q)) is ∙ take-append_seam q (10 ∷ [])) ∙ sym is

no_parts : (c : BusConfig) (past : List Entry) (e : Entry) → is_step e.event ≡ false → parts_of c past e ≡ []
unfolding parts_of
no_parts c past e plain = rw plain refl

none_tried : (t : BusTiming) (v : Event) (r : Reply) → is_step v ≡ false → tried_part t v r ≡ []
none_tried t (Attempt m w) r plain = absurd cc
none_tried t (Restart i m) r plain = refl
none_tried t (Down i m) r plain = refl
none_tried t (Open i k) r plain = refl
none_tried t (Close s) r plain = refl
none_tried t (SetFilters s f) r plain = refl
none_tried t (SetOption s o) r plain = refl
none_tried t (Send s f) r plain = refl
none_tried t (Receive s) r plain = refl

no_wire : (t : Option BusTiming) (e : Entry) → is_step e.event ≡ false → wire_part t e ≡ []
unfolding wire_part
no_wire None e plain = refl
no_wire (Some t) e plain = none_tried t e.event e.reply plain

none_ruled : (run : RunSeen) (v : Event) (r : Reply) → is_step v ≡ false → rule_by run v r ≡ None
none_ruled run (Attempt m w) r plain = absurd cc
none_ruled run (Restart i m) r plain = refl
none_ruled run (Down i m) r plain = refl
none_ruled run (Open i k) r plain = refl
none_ruled run (Close s) r plain = refl
none_ruled run (SetFilters s f) r plain = refl
none_ruled run (SetOption s o) r plain = refl
none_ruled run (Send s f) r plain = refl
none_ruled run (Receive s) r plain = refl

no_rule : (faults : Option RunSeen) (e : Entry) → is_step e.event ≡ false → rule_part faults e ≡ []
unfolding rule_in numbered
no_rule None e plain = refl
no_rule (Some run) e plain = ap (numbered (codes "rule")) (none_ruled run e.event e.reply plain)

none_given : (run : RunSeen) (v : Event) (r : Reply) → is_step v ≡ false → rules_by run v r ≡ []
none_given run (Attempt m w) r plain = absurd cc
none_given run (Restart i m) r plain = refl
none_given run (Down i m) r plain = refl
none_given run (Open i k) r plain = refl
none_given run (Close s) r plain = refl
none_given run (SetFilters s f) r plain = refl
none_given run (SetOption s o) r plain = refl
none_given run (Send s f) r plain = refl
none_given run (Receive s) r plain = refl

no_rules : (faults : Option RunSeen) (e : Entry) → is_step e.event ≡ false → rules_before faults e ≡ []
unfolding rules_before
no_rules None e plain = refl
no_rules (Some run) e plain = none_given run e.event e.reply plain

none_asked : (run : RunSeen) (v : Event) (r : Reply) → is_step v ≡ false → asked_by run v r ≡ run
none_asked run (Attempt m w) r plain = absurd cc
none_asked run (Restart i m) r plain = refl
none_asked run (Down i m) r plain = refl
none_asked run (Open i k) r plain = refl
none_asked run (Close s) r plain = refl
none_asked run (SetFilters s f) r plain = refl
none_asked run (SetOption s o) r plain = refl
none_asked run (Send s f) r plain = refl
none_asked run (Receive s) r plain = refl

-- If an entry is not an attempt, a restart or a down, no fault rule is queried for it.
plain_asked : (faults : Option RunSeen) (e : Entry) → is_step e.event ≡ false → asked_of faults e ≡ faults
unfolding asked_of
plain_asked None e plain = refl
plain_asked (Some run) e plain = ap Some (none_asked run e.event e.reply plain)

-- For an entry that is not an attempt, a restart or a down, only its own line is written, without effects.
pub plain_line : (w : Wanted) (c : BusConfig) (past : List Entry) (e : Entry) → is_step e.event ≡ false → events_line w c past e ≡ entry_line e []
unfolding with_parts
plain_line w c past e plain =
    let end = ends_line (entry_words e) (event_words_then e) in
    let faults = faults_after w.faults past in
    let none : unended (entry_line e []) ++ [] ++ [] ++ [] ++ 10 ∷ [] ≡ unended (entry_line e []) ++ 10 ∷ [] = simp append-nil in
    ap (λ (x : List ℕ). x ++ unended (entry_line e []) ++ parts_of c past e ++ wire_part w.timing e ++ rule_part faults e ++ 10 ∷ []) (no_rules faults e plain)
    ∙ ap (λ (x : List ℕ). unended (entry_line e []) ++ x ++ wire_part w.timing e ++ rule_part faults e ++ 10 ∷ []) (no_parts c past e plain)
    ∙ ap (λ (x : List ℕ). unended (entry_line e []) ++ [] ++ x ++ rule_part faults e ++ 10 ∷ []) (no_wire w.timing e plain)
    ∙ ap (λ (x : List ℕ). unended (entry_line e []) ++ [] ++ [] ++ x ++ 10 ∷ []) (no_rule faults e plain)
    ∙ none ∙ unended_line (entry_line e []) end.0 end.1

-- ---- the events that belong to several lines

is_going : (a b : Bool) → (not a && b) ≡ true → (a ≡ false) × (b ≡ true)
is_going true b h = absurd cc
is_going false b h = (refl, h)

never : (b : Bool) → b ≡ true → b ≡ false → ⊥
never b h k = absurd cc

settled_in : (text : List ℕ) (b : EntryAudit) (g : IsGoing text b) (c : BusConfig) (es : List Entry) → b.config ≡ c → g.read.entries ≡ es → IsSettled c es b.wrong
settled_in text b g c es config are = subst (λ (x : BusConfig). IsSettled x es b.wrong) config (subst (λ (xs : List Entry). IsSettled b.config xs b.wrong) are g.read.settled)

-- The line added no legal entry: the legal entries are the same as before the line.
pub record NothingMore (text line : List ℕ) (old new : EntryAudit) (g : IsGoing text old) (h : IsGoing (text ++ line) new) : Type 0 where
  pub version : new.version ≡ old.version
  pub config : new.config ≡ old.config
  pub past : legal_past (text ++ line) new h ≡ legal_past text old g

module _ (text line : List ℕ) (old new : EntryAudit) (g : IsGoing text old) (h : IsGoing (text ++ line) new) (is : IsLine line) where
  -- The end line adds no entry.
  no_more : (more : List Entry) → new.version ≡ old.version → new.config ≡ old.config → h.read.entries ≡ g.read.entries ++ more → more ≡ [] → NothingMore text line old new g h
  no_more more v c are none =
      let same : h.read.entries ≡ g.read.entries = are ∙ ap (λ (x : List Entry). g.read.entries ++ x) none ∙ append-nil g.read.entries in
      let part = ap (λ (x : List Entry). legal_part x new.wrong) same ∙ part_same old.config g.read.entries old.wrong new.wrong g.read.settled (settled_in (text ++ line) new h old.config g.read.entries c same) in
      record { version = v; config = c; past = ap (λ (x : List Entry). reverse x) part }

  -- A line after the end line or after a wrong entry adds no legal entry.
  after_wrong : (b : Bool) → old.is_ended ≡ b → (not b && is_none old.wrong) ≡ false → NothingMore text line old new g h
  after_wrong true ended stopped =
      let on = goes_on text line old new g h in
      no_more on.more on.version on.config on.are (none_after_end old.is_ended old.version old.config g.read.entries on.more line (last_of new.is_ended h.read.entries) ended on.lines on.rest)
  after_wrong false going stopped =
      let on = goes_on text line old new g h in
      let part = ap (λ (x : List Entry). legal_part x new.wrong) on.are
      ∙ part_stays old.config g.read.entries on.more old.wrong new.wrong stopped g.read.settled (settled_in (text ++ line) new h old.config (g.read.entries ++ on.more) on.config on.are) in
      record { version = on.version; config = on.config; past = ap (λ (x : List Entry). reverse x) part }

  pub nothing_more : is_legal_yet old ≡ false → NothingMore text line old new g h
  nothing_more stopped = after_wrong old.is_ended refl stopped

  not_ended : (b : Bool) (es : List Entry) → last_of b es ≡ [] → b ≡ false
  not_ended true es none = absurd cc
  not_ended false es none = refl

  -- If no legal entry can follow a line, it is the end line or the line of a wrong entry.
  pub nothing_legal : is_legal_yet old ≡ true → is_legal_yet new ≡ false → NothingMore text line old new g h
  nothing_legal legal stopped =
      let on = goes_on text line old new g h in
      let going = is_going old.is_ended (is_none old.wrong) legal in
      elim (one_line_more old.is_ended old.version old.config g.read.entries on.more line (last_of new.is_ended h.read.entries) going.0 is on.lines on.rest) [
        | No_entry none end ↦ no_more on.more on.version on.config on.are none
        | An_entry e one line_is rest ↦
            let unended_too : new.is_ended ≡ false = not_ended new.is_ended h.read.entries rest in
            let wrong : is_none new.wrong ≡ false = subst (λ (b : Bool). (not b && is_none new.wrong) ≡ false) unended_too stopped in
            let are : h.read.entries ≡ g.read.entries ++ e ∷ [] = on.are ∙ ap (λ (x : List Entry). g.read.entries ++ x) one in
            let part = ap (λ (x : List Entry). legal_part x new.wrong) are
            ∙ part_ends old.config g.read.entries e old.wrong new.wrong going.1 wrong g.read.settled (settled_in (text ++ line) new h old.config (g.read.entries ++ e ∷ []) on.config are) in
            record { version = on.version; config = on.config; past = ap (λ (x : List Entry). reverse x) part }
      ]

-- The line contains one more legal entry.
pub record OneMore (text line : List ℕ) (old new : EntryAudit) (g : IsGoing text old) (h : IsGoing (text ++ line) new) : Type 0 where
  pub entry : Entry
  pub past : List Entry
  pub is_line : line ≡ entry_line entry []
  pub good : HasLine new.version new.config entry
  pub before : IsAfter old.bus past
  pub after : IsAfter new.bus (entry ∷ past)
  pub same : old.bus.config ≡ new.bus.config
  pub was : legal_past text old g ≡ past
  pub now : legal_past (text ++ line) new h ≡ entry ∷ past
  pub version : new.version ≡ old.version
  pub config : new.config ≡ old.config
  pub kept : new.bus.config ≡ new.config

wrong_none : (o : Option WrongLine) → is_none o ≡ true → o ≡ None
wrong_none None h = refl
wrong_none (Some w) h = absurd cc

pub one_more : (text line : List ℕ) (old new : EntryAudit) (g : IsGoing text old) (h : IsGoing (text ++ line) new) → IsLine line → is_legal_yet old ≡ true → is_legal_yet new ≡ true → OneMore text line old new g h
one_more text line old new g h is legal legal_too =
    let on = goes_on text line old new g h in
    let going = is_going old.is_ended (is_none old.wrong) legal in
    let still = is_going new.is_ended (is_none new.wrong) legal_too in
    let past = reverse g.read.entries in
    elim (one_line_more old.is_ended old.version old.config g.read.entries on.more line (last_of new.is_ended h.read.entries) going.0 is on.lines on.rest) [
      | No_entry none end ↦ absurd (is.some (end ∙ ap (λ (b : Bool). last_of b h.read.entries) still.0))
      | An_entry e one line_is rest ↦
          let are : h.read.entries ≡ g.read.entries ++ e ∷ [] = on.are ∙ ap (λ (x : List Entry). g.read.entries ++ x) one in
          let turned : reverse h.read.entries ≡ e ∷ past = ap reverse are ∙ reverse-append g.read.entries (e ∷ []) in
          let of_old : old.bus.config ≡ old.config = g.config going.0 in
          let of_new : new.bus.config ≡ new.config = h.config still.0 in
          let first : HasLine old.version old.config e = All-head (HasLine old.version old.config) e [] (subst (All (HasLine old.version old.config)) one on.lines) in
          let good : HasLine new.version new.config e =
          subst (λ (x : Version). HasLine x new.config e) (sym on.version) (subst (λ (x : BusConfig). HasLine old.version x e) (sym on.config) first) in
          record {
            entry = e;
            past = past;
            is_line = line_is;
            good = good;
            before = g.is_after going.0 (wrong_none old.wrong going.1);
            after = subst (IsAfter new.bus) turned (h.is_after still.0 (wrong_none new.wrong still.1));
            same = of_old ∙ sym on.config ∙ sym of_new;
            was = ap (λ (x : List Entry). reverse x) (part_whole g.read.entries old.wrong going.1);
            now = ap (λ (x : List Entry). reverse x) (part_whole h.read.entries new.wrong still.1) ∙ turned;
            version = on.version;
            config = on.config;
            kept = of_new;
          }
    ]

-- ---- writing the events of one more line

-- These are the events of the legal entries. `now` stores which parts are wanted after these entries.
abbrev pub IsUpTo : (w : Wanted) (text : List ℕ) (b : EntryAudit) → IsGoing text b → List ℕ → Wanted → Type 0
IsUpTo w text b g events now = (events ≡ events_of w text b g) × (now ≡ wanted_after w (legal_past text b g))

-- Nothing is written.
pub stays_written : (w : Wanted) (text line : List ℕ) (old new : EntryAudit) (g : IsGoing text old) (h : IsGoing (text ++ line) new) (events : List ℕ) (now : Wanted) → NothingMore text line old new g h → events ≡ events_of w text old g → now ≡ wanted_after w (legal_past text old g)
    → IsUpTo w (text ++ line) new h events now
stays_written w text line old new g h events now none complete wanted =
    let past = legal_past (text ++ line) new h in
    let same : events_of w (text ++ line) new h ≡ events_of w text old g =
    ap (λ (x : Version). events_front w x new.config past) none.version ∙ ap (λ (x : BusConfig). events_front w old.version x past) none.config ∙ ap (events_front w old.version old.config) none.past in
    (complete ∙ sym same, wanted ∙ ap (wanted_after w) (sym none.past))

front_more : (w : Wanted) (v : Version) (c : BusConfig) (past : List Entry) (e : Entry) → events_front w v c (e ∷ past) ≡ events_front w v c past ++ events_line w c past e
front_more w v c past e = sym (append_assoc (events_first_line ++ spell (bus_words v c) [] ++ rules_at_start w.faults) (events_lines w c past) (events_line w c past e))

events_more : (w : Wanted) (text line : List ℕ) (old new : EntryAudit) (g : IsGoing text old) (h : IsGoing (text ++ line) new) (one : OneMore text line old new g h) → events_of w (text ++ line) new h ≡ events_of w text old g ++ events_line w new.bus.config one.past one.entry
events_more w text line old new g h one =
    let past = legal_past (text ++ line) new h in
    ap (λ (x : Version). events_front w x new.config past) one.version
    ∙ ap (λ (x : BusConfig). events_front w old.version x past) one.config
    ∙ ap (events_front w old.version old.config) one.now
    ∙ front_more w old.version old.config one.past one.entry
    ∙ ap (λ (x : List Entry). events_front w old.version old.config x ++ events_line w old.config one.past one.entry) (sym one.was)
    ∙ ap (λ (x : BusConfig). events_of w text old g ++ events_line w x one.past one.entry) (sym one.config ∙ sym one.kept)

wanted_more : (w : Wanted) (text line : List ℕ) (old new : EntryAudit) (g : IsGoing text old) (h : IsGoing (text ++ line) new) (one : OneMore text line old new g h) (now next : Wanted) → now ≡ wanted_after w (legal_past text old g)
    → next ≡ record now { faults = asked_of now.faults one.entry } → next ≡ wanted_after w (legal_past (text ++ line) new h)
wanted_more w text line old new g h one now next is asked =
    asked
    ∙ ap (λ (x : Wanted). record x { faults = asked_of x.faults one.entry }) (is ∙ ap (wanted_after w) one.was)
    ∙ ap (wanted_after w) (sym one.now)

written_more : (cleared old new line before after : List ℕ) → cleared ++ old ≡ before → new ≡ old ++ line → after ≡ before ++ line → cleared ++ new ≡ after
written_more cleared old new line before after complete wrote is =
    ap (λ (x : List ℕ). cleared ++ x) wrote ∙ sym (append_assoc cleared old line) ∙ ap (λ (x : List ℕ). x ++ line) complete ∙ sym is

-- The line of an entry without effects is written as in the record.
pub plain_more : (w : Wanted) (text line : List ℕ) (old new : EntryAudit) (g : IsGoing text old) (h : IsGoing (text ++ line) new) (cleared before after : List ℕ) (now : Wanted) (one : OneMore text line old new g h) → is_step one.entry.event ≡ false → after ≡ before ++ line
    → cleared ++ before ≡ events_of w text old g → now ≡ wanted_after w (legal_past text old g) → IsUpTo w (text ++ line) new h (cleared ++ after) now
plain_more w text line old new g h cleared before after now one plain wrote complete wanted = (
  written_more cleared before after (events_line w new.bus.config one.past one.entry) (events_of w text old g) (events_of w (text ++ line) new h) complete
      (wrote ∙ ap (λ (x : List ℕ). before ++ x) (one.is_line ∙ sym (plain_line w new.bus.config one.past one.entry plain))) (events_more w text line old new g h one),
  wanted_more w text line old new g h one now now wanted (ap (λ (x : Option RunSeen). record now { faults = x }) (sym (plain_asked now.faults one.entry plain))),
)

-- The line of an entry is written with its effects and the other wanted parts.
pub step_more : (w : Wanted) (text line : List ℕ) (old new : EntryAudit) (g : IsGoing text old) (h : IsGoing (text ++ line) new) (cleared : List ℕ) (before after : EventsText) (one : OneMore text line old new g h) → is_step one.entry.event ≡ true
    → HasSeen old.bus.config one.past before.before → WritesParts before new line after → cleared ++ before.text.items ≡ events_of w text old g → before.wanted ≡ wanted_after w (legal_past text old g)
    → IsUpTo w (text ++ line) new h (cleared ++ after.text.items) after.wanted
step_more w text line old new g h cleared before after one step saw writes complete wanted =
    let c = new.bus.config in
    let wrote = writes one.past one.entry (subst (λ (x : BusConfig). HasSeen x one.past before.before) one.same saw) one.after step one.good one.is_line in
    let parts : after.text.items ≡ before.text.items ++ events_line w c one.past one.entry =
    wrote.0
    ∙ ap (λ (x : Wanted). before.text.items ++ with_parts x c one.past one.entry line) (wanted ∙ ap (wanted_after w) one.was)
    ∙ ap (λ (l : List ℕ). before.text.items ++ with_parts (wanted_after w one.past) c one.past one.entry l) one.is_line in (
      written_more cleared before.text.items after.text.items (events_line w c one.past one.entry) (events_of w text old g) (events_of w (text ++ line) new h) complete parts (events_more w text line old new g h one),
      wanted_more w text line old new g h one before.wanted after.wanted wanted wrote.1,
    )

-- ---- the first lines and the last line

none_begun : (v : Version) (line : List ℕ) (b : EntryAudit) (begun : IsBegun v line b) → legal_past (first_line v ++ line) b begun.going ≡ []
none_begun v line b begun = ap (λ (x : List Entry). reverse x) (ap (legal_part begun.going.read.entries) begun.legal ∙ begun.none)

pub begun_events : (w : Wanted) (v : Version) (line : List ℕ) (b : EntryAudit) (begun : IsBegun v line b) → events_first_line ++ line ++ rules_at_start w.faults ≡ events_of w (first_line v ++ line) b begun.going
begun_events w v line b begun =
    let front : events_first_line ++ spell (bus_words b.version b.config) [] ++ rules_at_start w.faults ≡ events_front w b.version b.config [] =
    sym (append-nil (events_first_line ++ spell (bus_words b.version b.config) [] ++ rules_at_start w.faults)) in
    ap (λ (x : List ℕ). events_first_line ++ x ++ rules_at_start w.faults) begun.is_line ∙ front ∙ ap (events_front w b.version b.config) (sym (none_begun v line b begun))

pub begins : (w : Wanted) (v : Version) (line cleared : List ℕ) (b : EntryAudit) (held : Option EventsText) (begun : IsBegun v line b) → Completes held cleared (events_first_line ++ line ++ rules_first held) → IsWantedAfter w held []
    → AreWritten w (first_line v ++ line) cleared (phase.Entries b) held
begins w v line cleared b None begun complete wanted = record { taken = begun.going; complete = complete; wanted = tt }
begins w v line cleared b (Some e) begun complete wanted = record {
  taken = begun.going;
  complete = complete ∙ ap (λ (x : Wanted). events_first_line ++ line ++ rules_at_start x.faults) wanted ∙ begun_events w v line b begun;
  wanted = wanted ∙ ap (wanted_after w) (sym (none_begun v line b begun));
}

legal_all : (text : List ℕ) (b : EntryAudit) (g : IsGoing text b) → b.wrong ≡ None → IsLegal b.config (reverse g.read.entries)
legal_all text b g none = subst (IsSettled b.config g.read.entries) none g.read.settled

events_all : (w : Wanted) (text : List ℕ) (b : EntryAudit) (g : IsGoing text b) → b.wrong ≡ None → events_of w text b g ≡ events_front w b.version b.config (reverse g.read.entries)
events_all w text b g none = ap (λ (o : Option WrongLine). events_front w b.version b.config (reverse (legal_part g.read.entries o))) none

-- If no entry is wrong, the faults in the wanted value are the faults after all entries.
wanted_all : (w : Wanted) (text : List ℕ) (b : EntryAudit) (g : IsGoing text b) (now : Wanted) → b.wrong ≡ None → now ≡ wanted_after w (legal_past text b g) → now ≡ wanted_after w (reverse g.read.entries)
wanted_all w text b g now none is = is ∙ ap (λ (o : Option WrongLine). wanted_after w (reverse (legal_part g.read.entries o))) none

pub ends_events : (w : Wanted) (text cleared : List ℕ) (b : EntryAudit) (held : Option EventsText) (r : Result ℕ TextFault) (written : AreWritten w text cleared (phase.Entries b) held) → IfOk r (IsWhole text b written.taken) → IfOk r (EndsEvents w held text cleared)
ends_events w text cleared b held (Err why) written h = tt
ends_events w text cleared b None (Ok count) written h = tt
ends_events w text cleared b (Some e) (Ok count) written h =
    let es = written.taken.read.entries in
    record {
      config = b.config;
      entries = es;
      whole = h.whole;
      legal = legal_all text b written.taken h.legal;
      are =
          ap (λ (x : List ℕ). x ++ (rules_at_end e.wanted.faults ++ end_line count)) (written.complete ∙ events_all w text b written.taken h.legal)
          ∙ ap (λ (x : Wanted). events_front w b.version b.config (reverse es) ++ (rules_at_end x.faults ++ end_line count)) (wanted_all w text b written.taken e.wanted h.legal written.wanted)
          ∙ ap (λ (v : Version). events_front w v b.config (reverse es) ++ (rules_at_end (wanted_after w (reverse es)).faults ++ end_line count)) h.version
          ∙ ap (λ (n : ℕ). events_front w (version_of b.config es) b.config (reverse es) ++ (rules_at_end (wanted_after w (reverse es)).faults ++ end_line n)) (h.counted ∙ sym (length-reverse es));
    }

pub ends_cut_events : (w : Wanted) (text torn cleared : List ℕ) (b : EntryAudit) (held : Option EventsText) (r : Result Cut TextFault) (written : AreWritten w text cleared (phase.Entries b) held) → IfOk r (IsReached text torn b written.taken)
    → IfOk r (EndsCutEvents w held (text ++ torn) cleared)
ends_cut_events w text torn cleared b held (Err why) written h = tt
ends_cut_events w text torn cleared b held (Ok (cut.Whole count)) written h =
    subst (λ (x : List ℕ). EndsEvents w held x cleared count) (sym (ap (λ (x : List ℕ). text ++ x) h.0 ∙ append-nil text)) (ends_events w text cleared b held (Ok count) written h.1)
ends_cut_events w text torn cleared b None (Ok (cut.Off count)) written h = tt
ends_cut_events w text torn cleared b (Some e) (Ok (cut.Off count)) written h =
    let es = written.taken.read.entries in
    record {
      config = b.config;
      entries = es;
      front = h.front;
      legal = legal_all text b written.taken h.legal;
      are =
          ap (λ (x : List ℕ). x ++ (rules_at_end e.wanted.faults ++ cut_line count)) (written.complete ∙ events_all w text b written.taken h.legal)
          ∙ ap (λ (x : Wanted). events_front w b.version b.config (reverse es) ++ (rules_at_end x.faults ++ cut_line count)) (wanted_all w text b written.taken e.wanted h.legal written.wanted)
          ∙ ap (λ (v : Version). events_front w v b.config (reverse es) ++ (rules_at_end (wanted_after w (reverse es)).faults ++ cut_line count)) (sym h.version)
          ∙ ap (λ (n : ℕ). events_front w h.front.version b.config (reverse es) ++ (rules_at_end (wanted_after w (reverse es)).faults ++ cut_line n)) (h.counted ∙ sym (length-reverse es));
    }

-- ---- an audit after one more line

pub goes_plain : (w : Wanted) (text line cleared : List ℕ) (old new : EntryAudit) (held : Option EventsText) → held ≡ None → AreWritten w text cleared (phase.Entries old) held → IsGoing (text ++ line) new → AreWritten w (text ++ line) cleared (phase.Entries new) held
goes_plain w text line cleared old new None none written g = record { taken = g; complete = written.complete; wanted = tt }
goes_plain w text line cleared old new (Some e) none written g = absurd cc

pub goes_written : (w : Wanted) (text line cleared : List ℕ) (old new : EntryAudit) (held : Option EventsText) (before after : EventsText) → held ≡ Some before → AreWritten w text cleared (phase.Entries old) held → IsGoing (text ++ line) new → IsLine line → WritesOn before old after new line
    → AreWritten w (text ++ line) cleared (phase.Entries new) (Some after)
goes_written w text line cleared old new held before after some written g is writes =
    let so : AreWritten w text cleared (phase.Entries old) (Some before) = subst (AreWritten w text cleared (phase.Entries old)) some written in
    let more = writes w text cleared so.taken g is so.complete so.wanted in
    record { taken = g; complete = more.0; wanted = more.1 }
