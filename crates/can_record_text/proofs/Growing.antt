-- The text that a writer has received, line after line.
use Rattle.std.proofs.Common.{◌≡◌, ℕ, ◌+◌, ◌<◌, List, [], ◌∷◌, ◌++◌, length, take, get_or, Option, Some, Result, Ok, Err, sym, ap, subst, ◌∙◌}
use Rattle.std.specs.Prelude.{slice_get, IsErrAnd}
use Rattle.std.specs.Io.KnownBytes.{Appends}
use Rattle.std.proofs.KnownBytes.{Appends-nil, Appends-trans}
use Rattle.std.proofs.lemmas.List.{take_more}
use Rattle.can_event.specs.declared.entry.Entry.{Entry}
use Rattle.can_record_text.specs.Lines.{LineGoesOut}
use Rattle.can_record_text.specs.Spelling.{entry_line, entry_lines}
use Rattle.can_record_text.specs.LongRuns.{IsTornAfter}
use Rattle.can_record_text.proofs.LineLists.{lines-more, lines-rest}

pub no_lines_yet : (a : Option (List ℕ)) → Appends a a (entry_lines [] [])
unfolding entry_lines
no_lines_yet a = Appends-nil a

pub line_more : (a b c : Option (List ℕ)) (es : List Entry) (i : ℕ) (e : Entry) → Appends a b (entry_lines (take i es) []) → Appends b c (entry_line e []) → i < length es → e ≡ get_or es i e → Appends a c (entry_lines (take (i + 1) es) [])
line_more a b c es i e so_far next lt at =
    let more : take i es ++ e ∷ [] ≡ take (i + 1) es = ap (λ (x : Entry). take i es ++ x ∷ []) at ∙ sym (take_more es i e lt) in
    subst (Appends a c) (lines-more (take i es) e ∙ ap (λ (xs : List Entry). entry_lines xs []) more) (Appends-trans a b c (entry_lines (take i es) []) (entry_line e []) so_far next)

-- a fault before any byte of a line was written
pub nothing_out : {A E : Type 0} (P : E → Type 0) (a : Option (List ℕ)) (line : List ℕ) (r : Result A E) → 0 < length line → IsErrAnd r P → LineGoesOut a a line r
nothing_out P a line (Ok x) some is = absurd is
nothing_out P a line (Err why) some is = (0, some, Appends-nil a)

-- whole lines were written, and a front part of the next line
pub torn : (a b c : Option (List ℕ)) (es : List Entry) (i : ℕ) (e : Entry) → Appends a b (entry_lines (take i es) []) → (front : ℕ) × (front < length (entry_line e [])) × Appends b c (take front (entry_line e [])) → slice_get es i ≡ Some e → IsTornAfter a c es i
torn a b c es i e so_far part there =
    let front = take part.0 (entry_line e []) in
    record {
      next = e;
      there = there;
      front = part.0;
      proper = part.1;
      out = subst (Appends a c) (lines-rest (take i es) front) (Appends-trans a b c (entry_lines (take i es) []) front so_far part.2);
    }
