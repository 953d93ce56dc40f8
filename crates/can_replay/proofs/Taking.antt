-- The audit takes one more line.
use Rattle.std.proofs.Common.{◌≡◌, ◌≢◌, ◌≤◌, ◌+◌, ◌⊎◌, nat_le, cond, ℕ, Bool, true, false, List, [], ◌∷◌, ◌++◌, length, take, Option, Some, None, Result, Ok, Err, length-append, refl, sym, ap, subst, ◌∙◌, arith}
use Rattle.std.specs.Prelude.{get_or, reverse, slice_get}
use Rattle.std.proofs.Math.Seq.{get_or-append_seam, take-append_seam}
use Rattle.std.proofs.lemmas.List.{get_or_append_left, length_push, length-reverse, reverse-append, take-append-le}
use Rattle.std.proofs.lemmas.List.Elements.{All-push}
use Rattle.std.proofs.lemmas.Option.{get_or_from_slice_get, slice_get-get_or, slice_get_within}
use Rattle.can_event.specs.declared.bus_config.BusConfig.{BusConfig}
use Rattle.can_event.specs.declared.entry.Entry.{Entry}
use Rattle.can_event.specs.declared.reply.Reply.{Reply}
use Rattle.can_bus.specs.Lean.{Lean, IsAfter}
use Rattle.can_bus.specs.Legal.{IsLegal, legal_reply}
use Rattle.can_record_text.specs.declared.needs.Needs.{Needs}
use Rattle.can_record_text.specs.declared.version.Version.{Version}
use Rattle.can_record_text.specs.declared.version.Version.TheVariants as version
use Rattle.can_record_text.specs.Spelling.{entry_line, entry_lines, front_lines, all_needs, both_needs, needs_of, takes}
use Rattle.can_record_text.specs.Values.{HasLine}
use Rattle.can_record_text.specs.inner.Reading.{entry_at}
use Rattle.can_record_text.specs.RecordFaults.{LacksEntry}
use Rattle.can_record_text.proofs.Again.{entry_again}
use Rattle.can_record_text.proofs.LineLists.{lines-more}
use Rattle.can_record_text.proofs.Versioning.{line_in, needs_push}
use Rattle.can_record_text.proofs.Whole.{front-then}
use Rattle.can_replay.specs.Audits.{IsToldWrong}
use Rattle.can_replay.specs.Histories.{before}
use Rattle.std.proofs.lemmas.Option.{none-some, same_Some}
use Rattle.can_replay.specs.declared.entry_audit.EntryAudit.{EntryAudit}
use Rattle.can_replay.specs.declared.text_fault.WrongLine.{WrongLine}
use Rattle.can_replay.specs.TextAudits.{IsLine}
use Rattle.can_replay.specs.inner.EntryAudits.{IsGoing, IsRead, IsSettled, IsWrongIn, so_far}
use Rattle.can_replay.specs.inner.Carried.{IsNext, IsOther, IsWrongNext}
use Rattle.can_replay.specs.inner.Steps.{ReportsWrong, Takes}
use Rattle.can_record_text.specs.declared.fault.Unread.{Unread}
use Rattle.can_record_text.specs.declared.fault.Unread.TheVariants as unread
use Rattle.can_replay.proofs.LineEnds.{cut_entry}

-- ---- the first wrong entry and the entries after it

there_more : (es more : List Entry) (d : Entry) (k : ℕ) → slice_get es k ≡ Some d → slice_get (es ++ more) k ≡ Some d
there_more es more d k there =
    let below = slice_get_within es k d there in
    slice_get-get_or (es ++ more) k d (omega (arith, below, length-append es more)) ∙ ap Some (get_or_append_left es more d k below ∙ get_or_from_slice_get es k d d there)

pub told_more : (c : BusConfig) (es more : List Entry) (k : ℕ) (legal : Option Reply) → IsToldWrong c es k legal → IsToldWrong c (es ++ more) k legal
told_more c es more k legal t =
    let f = t.first in
    let below = slice_get_within es k f.entry f.there in
    let same : before es k ≡ before (es ++ more) k = ap reverse (sym (take-append-le k es more (omega (arith, below)))) in
    record {
      first = record {
        entry = f.entry;
        there = there_more es more f.entry k f.there;
        legal_before = subst (IsLegal c) same f.legal_before;
        wrong = subst (λ (h : List Entry). (c.limit ≤ k) ⊎ (f.entry.reply ≢ legal_reply c h f.entry.event)) same f.wrong;
      };
      is_allowed = t.is_allowed ∙ ap (λ (h : List Entry). cond (nat_le c.limit k) None (Some (legal_reply c h f.entry.event))) same;
    }

wrong_more : (c : BusConfig) (es : List Entry) (e : Entry) (w : WrongLine) → IsWrongIn c es w → IsWrongIn c (es ++ e ∷ []) w
unfolding told_more
wrong_more c es e w h = record { told = told_more c es (e ∷ []) w.place w.legal h.told; entry = h.entry; limit = h.limit }

pub settled_more : (c : BusConfig) (es : List Entry) (e : Entry) (o : Option WrongLine) → (o ≡ None → ⊥) → IsSettled c es o → IsSettled c (es ++ e ∷ []) o
settled_more c es e None some h = absurd (some refl)
settled_more c es e (Some w) some h = wrong_more c es e w h

-- A wrong entry after legal entries is the first wrong entry.
pub told_here : (c : BusConfig) (es : List Entry) (e : Entry) (k : ℕ) (legal : Option Reply) → k ≡ length es → IsLegal c (reverse es) → IsWrongNext c (reverse es) e legal → IsToldWrong c (es ++ e ∷ []) k legal
told_here c es e k legal at lawful h =
    let same : reverse es ≡ before (es ++ e ∷ []) k = ap reverse (sym (take-append_seam es (e ∷ [])) ∙ ap (λ (n : ℕ). take n (es ++ e ∷ [])) (sym at)) in
    let long : length (reverse es) ≡ k = length-reverse es ∙ sym at in
    record {
      first = record {
        entry = e;
        there = slice_get-get_or (es ++ e ∷ []) k e (omega (arith, at, length-append es (e ∷ []))) ∙ ap Some (ap (λ (n : ℕ). get_or (es ++ e ∷ []) n e) at ∙ get_or-append_seam es e [] e);
        legal_before = subst (IsLegal c) same lawful;
        wrong = subst (λ (g : List Entry). (c.limit ≤ k) ⊎ (e.reply ≢ legal_reply c g e.event)) same (subst (λ (n : ℕ). (c.limit ≤ n) ⊎ (e.reply ≢ legal_reply c (reverse es) e.event)) long h.wrong);
      };
      is_allowed =
          h.is_allowed
          ∙ ap (λ (n : ℕ). cond (nat_le c.limit n) None (Some (legal_reply c (reverse es) e.event))) long
          ∙ ap (λ (g : List Entry). cond (nat_le c.limit k) None (Some (legal_reply c g e.event))) same;
    }

-- ---- the text with one more line

text_more : (b : Bool) (v : Version) (c : BusConfig) (es : List Entry) (e : Entry) → b ≡ false → so_far b v c es ++ entry_line e [] ≡ so_far b v c (es ++ e ∷ [])
text_more true v c es e is = absurd cc
text_more false v c es e is = front-then v c (entry_lines es []) (entry_line e []) ∙ ap (front_lines v c) (lines-more es e)

-- The line of one more entry was read. `w` is the first wrong entry, if one is known.
pub read_more : (text line : List ℕ) (b : EntryAudit) (bus : Lean) (needs : Needs) (w : Option WrongLine) (e : Entry) (read : IsRead text b) → b.is_ended ≡ false → HasLine b.version b.config e → line ≡ entry_line e [] → needs ≡ needs_of e
    → IsSettled b.config (read.entries ++ e ∷ []) w → IsRead (text ++ line) (record b { bus = bus; count = b.count + 1; needs = both_needs b.needs needs; wrong = w })
read_more text line b bus needs w e read going good is here settled =
    let es = read.entries in
    record {
      entries = es ++ e ∷ [];
      good = record { bus = read.good.bus; lines = All-push (HasLine b.version b.config) es e read.good.lines good };
      begins = ap (λ (x : List ℕ). x ++ line) read.begins ∙ ap (λ (x : List ℕ). so_far b.is_ended b.version b.config es ++ x) is ∙ text_more b.is_ended b.version b.config es e going;
      counted = ap (λ (n : ℕ). n + 1) read.counted ∙ sym (length_push es e);
      needs = ap (λ (n : Needs). both_needs n needs) read.needs ∙ ap (both_needs (all_needs es)) here ∙ sym (needs_push es e);
      settled = settled;
    }

legal_so_far : (c : BusConfig) (es : List Entry) (o : Option WrongLine) → o ≡ None → IsSettled c es o → IsLegal c (reverse es)
legal_so_far c es None is h = h
legal_so_far c es (Some w) is h = absurd cc

settled_none : (c : BusConfig) (es : List Entry) (o : Option WrongLine) → o ≡ None → IsLegal c (reverse es) → IsSettled c es o
settled_none c es None is h = h
settled_none c es (Some w) is h = absurd cc

-- The line of one more legal entry was taken.
pub legal_more : (text line : List ℕ) (b : EntryAudit) (bus : Lean) (needs : Needs) → IsGoing text b → b.wrong ≡ None → b.is_ended ≡ false → IsLine line → bus.config ≡ b.bus.config
    → ((past : List Entry) → IsAfter b.bus past → IsNext b.bus.config past line needs bus) → takes b.version needs ≡ true → IsGoing (text ++ line) (record b { bus = bus; count = b.count + 1; needs = both_needs b.needs needs })
unfolding read_more
legal_more text line b bus needs g none going is config step may =
    let es = g.read.entries in
    let one = step (reverse es) (g.is_after going none) in
    let e = one.entry in
    let six : HasLine version.Six b.config e = subst (λ (d : BusConfig). HasLine version.Six d e) (g.config going) one.good in
    let good : HasLine b.version b.config e = line_in b.version b.config e six (ap (takes b.version) (sym one.needed) ∙ may) in
    let after : IsAfter bus (reverse (es ++ e ∷ [])) = subst (IsAfter bus) (sym (reverse-append es (e ∷ []))) one.after in
    let legal : IsLegal b.config (reverse (es ++ e ∷ [])) = subst (λ (d : BusConfig). IsLegal d (reverse (es ++ e ∷ []))) (config ∙ g.config going) after.kept.legal in
    record {
      read = read_more text line b bus needs b.wrong e g.read going good (cut_entry b.version b.config line one.rest e is good one.is_line) one.needed (settled_none b.config (es ++ e ∷ []) b.wrong none legal);
      config = λ still. config ∙ g.config going;
      is_after = λ still legal_too. after;
    }

-- The line of an entry after a wrong entry was taken.
pub behind_more : (text line rest : List ℕ) (b : EntryAudit) (needs : Needs) (e : Entry) → IsGoing text b → (b.wrong ≡ None → ⊥) → b.is_ended ≡ false → IsLine line → HasLine b.version b.config e → line ≡ entry_line e rest → needs ≡ needs_of e
    → IsGoing (text ++ line) (record b { count = b.count + 1; needs = both_needs b.needs needs })
behind_more text line rest b needs e g some going is good is_after here = record {
  read = read_more text line b b.bus needs b.wrong e g.read going good (cut_entry b.version b.config line rest e is good is_after) here (settled_more b.config g.read.entries e b.wrong some g.read.settled);
  config = g.config;
  is_after = λ still none. absurd (some none);
}

-- The line of the first wrong entry was taken.
pub wrong_here : (text line rest : List ℕ) (b : EntryAudit) (needs : Needs) (e d : Entry) (legal : Option Reply) (limit : ℕ) (read : IsRead text b) → b.wrong ≡ None → b.is_ended ≡ false → b.bus.config ≡ b.config → IsLine line
    → IsOther b.config (reverse read.entries) line legal → HasLine b.version b.config e → line ≡ entry_line e rest → needs ≡ needs_of e → d ≡ e → limit ≡ b.config.limit
    → IsGoing (text ++ line) (record b { count = b.count + 1; needs = both_needs b.needs needs; wrong = Some (record { place = b.count; entry = d; legal = legal; limit = limit }) })
unfolding told_here
wrong_here text line rest b needs e d legal limit read none going config is other good is_after here same allowed =
    let es = read.entries in
    let told = told_here b.config es e b.count legal read.counted (legal_so_far b.config es b.wrong none read.settled) (other b.version e rest good is_after) in
    let w : WrongLine = record { place = b.count; entry = d; legal = legal; limit = limit } in
    record {
      read = read_more text line b b.bus needs (Some w) e read going good (cut_entry b.version b.config line rest e is good is_after) here (record { told = told; entry = same; limit = allowed });
      config = λ still. config;
      is_after = λ still none_too. absurd (none-some w (sym none_too));
    }

-- ---- lines that are not allowed at this point of the text

pub spells_none : (v : Version) (c : BusConfig) (line : List ℕ) → entry_at line ≡ None → LacksEntry v c line
spells_none v c line none e more good is = none-some e (sym none ∙ ap entry_at is ∙ entry_again v c e more good)

-- A line is allowed only in a version that has the features used in the line.
pub not_taken : (v : Version) (c : BusConfig) (past : List Entry) (line : List ℕ) (needs : Needs) (bus : Lean) → IsNext c past line needs bus → takes v needs ≡ false → LacksEntry v c line
not_taken v c past line needs bus one other e more good is =
    let same : e ≡ one.entry = same_Some e one.entry (sym (entry_again v c e more good) ∙ ap entry_at (sym is ∙ one.is_line) ∙ entry_again version.Six c one.entry one.rest one.good) in
    never (takes v needs) other (ap (takes v) (one.needed ∙ ap needs_of (sym same)) ∙ good.version)
  where
    never : (b : Bool) → b ≡ false → b ≡ true → ⊥
    never true e h = absurd cc
    never false e h = absurd cc

-- ---- the audit after one more line

-- The properties of the lines that were read do not depend on the bus.
pub reread : (text : List ℕ) (b : EntryAudit) (bus : Lean) (read : IsRead text b) → IsRead text (record b { bus = bus })
reread text b bus read = record { entries = read.entries; good = read.good; begins = read.begins; counted = read.counted; needs = read.needs; settled = read.settled }

pub takes_unread : (old : EntryAudit) (bus : Lean) (line : List ℕ) (why : Unread) → (why ≡ unread.Bad → entry_at line ≡ None) → Takes {A = Unit {0}} old (record old { bus = bus }) line (Err why)
takes_unread old bus line unread.Bad h = (refl, λ text g going. spells_none old.version old.config line (h refl))
takes_unread old bus line unread.NoMemory h = tt

pub takes_blamed : (old new : EntryAudit) (bus : Lean) (line : List ℕ) (legal : Option Reply) (r : Result (Unit {0}) Unread) → old.wrong ≡ None → bus.config ≡ old.bus.config
    → ((past : List Entry) → IsAfter old.bus past → IsOther old.bus.config past line legal) → ReportsWrong (record old { bus = bus }) new line legal r → Takes old new line r
takes_blamed old new bus line legal (Ok u) none config other h = λ text g going is.
    let read : IsRead text (record old { bus = bus }) = record { entries = g.read.entries; good = g.read.good; begins = g.read.begins; counted = g.read.counted; needs = g.read.needs; settled = g.read.settled } in
    let past = reverse g.read.entries in
    h text read going (config ∙ g.config going) is (subst (λ (d : BusConfig). IsOther d past line legal) (g.config going) (other past (g.is_after going none)))
takes_blamed old new bus line legal (Err unread.Bad) none config other h = (subst (λ (n : EntryAudit). n ≡ record old { bus = n.bus }) (sym h.0) refl, λ text g going. h.1)
takes_blamed old new bus line legal (Err unread.NoMemory) none config other h = tt
