use Rattle.std.proofs.Common.{◌≡◌, ◌⊎◌, inl, inr, ℕ, ◌+◌, ◌<◌, ◌≤◌, Bool, true, false, arith, List, [], ◌∷◌, ◌++◌, length, Vec, Option, Some, None, Result, Ok, Err, refl, sym, ap, subst, ◌∙◌, append_assoc}
use Rattle.std.specs.Io.KnownBytes.{Appends, Keeps}
use Rattle.std.proofs.KnownBytes.{Appends-nil, Appends-trans, Appends-kept, prepend_known-nil}
use Rattle.std.specs.List.{All}
use Rattle.std.proofs.lemmas.List.{append-nil, length-append}
use Rattle.std.proofs.lemmas.List.Elements.{All-nil, All-cons, All-append}
use Rattle.std.specs.Prelude.{MatchBool}
use Rattle.std.specs.Result.{IsErr, IsErrAnd}
use Rattle.can_fault.specs.Sources.{VerdictMap}
use Rattle.can_session.specs.declared.lines.InputFault.{InputFault}
use Rattle.can_session.specs.declared.lines.InputFault.TheVariants as line
use Rattle.can_session.specs.declared.bench_run.BenchFault.{BenchFault}
use Rattle.can_session.specs.declared.bench_run.BenchFault.TheVariants.{BadConfig, BadLine, TooLong, Read, Write, NoMemory}
use Rattle.can_session.specs.Lines.{Input, unread, IsInputLine, IsWithinLimits, FindsEnd, TakesInputLine, Given, Stops, Repeats, left_of, lines_of_text, spelled}
use Rattle.can_session.specs.Orders.{order_of}
use Rattle.can_session.specs.Benches.{BenchState, IsCarriedOut, AreCarriedOut, IsRefused}
use Rattle.can_session.specs.Runs.{AreAll, AreFirst, IsNextOfInput, ComeBeforeBad, ComeBeforeStop, Ran, EndsRun, EndsLeaving, LeavesAt, EndsAt}
use Rattle.can_session.proofs.LineLaws.{first_lines, next, end, stop, all_given}

-- the input returned these lines, if the bytes of its reader are known
abbrev pub AreOf : Option (List ℕ) → List (List ℕ) → Input → Type 0
AreOf None lines now = Unit {0}
AreOf (Some text) lines now = Given text lines now

given_start : (text : List ℕ) (now : Input) → left_of now ≡ Some text → now.given ≡ 0 → Given text [] now
given_start text now left none = inl (record { unbroken = tt; rest = text; left = left; split = refl; counted = none })

pub of_start : (input : Option (List ℕ)) (now : Input) → left_of now ≡ input → now.given ≡ 0 → AreOf input [] now
of_start None now left none = tt
of_start (Some text) now left none = given_start text now left none

pub of_more : (input : Option (List ℕ)) (lines : List (List ℕ)) (old new : Input) → AreOf input lines old → TakesInputLine old new → AreOf input (lines ++ new.line ∷ []) new
of_more None lines old new h k = tt
of_more (Some text) lines old new h k = next text lines old new h k

-- all of the text was returned, and its size is within the limit
all_within : (text : List ℕ) (lines : List (List ℕ)) (old new : Input) → Given text lines old → FindsEnd old new → IsWithinLimits new → (lines ≡ lines_of_text text) × (length text ≤ 16777216)
all_within text lines old new h k within = let all = end text lines old new h k in (all.0, omega (arith, all.1, within.bytes))

pub of_all : (input : Option (List ℕ)) (lines : List (List ℕ)) (old new : Input) → AreOf input lines old → FindsEnd old new → IsWithinLimits new → AreAll input lines
of_all None lines old new h k within = tt
of_all (Some text) lines old new h k within = all_within text lines old new h k within

-- an input without a fault still has no fault after it returns a line
pub fine_behind : (old new : Input) → old.fault ≡ None → TakesInputLine old new → new.fault ≡ None
fine_behind old new fine (going, line, inl gives) = gives.fault ∙ fine
fine_behind old new fine (going, line, inr last) = last.0.fault ∙ fine

-- if an input had no fault before, its fault is new
pub first_fault : (old new : Input) (fault : InputFault) → old.fault ≡ None → Stops fault old new ⊎ Repeats fault old new → Stops fault old new
first_fault old new fault fine (inl stops) = stops
first_fault old new fault fine (inr again) = let no = again.0 in cc

given_first : (text : List ℕ) (lines : List (List ℕ)) (now : Input) → Given text lines now → (more : List (List ℕ)) × (lines_of_text text ≡ lines ++ more)
given_first text lines now (inl g) = (lines_of_text g.rest, ap lines_of_text g.split ∙ first_lines lines g.rest g.unbroken)
given_first text lines now (inr h) = ([], sym h.all ∙ sym (append-nil lines))

of_first : (input : Option (List ℕ)) (lines : List (List ℕ)) (now : Input) → AreOf input lines now → AreFirst input lines
of_first None lines now h = tt
of_first (Some text) lines now h = given_first text lines now h

-- one more line is carried out
pub carried_more : (v : VerdictMap) (lines : List (List ℕ)) (line : List ℕ) (b mid after : BenchState) (text more : List ℕ)
    → AreCarriedOut v lines b text mid → IsCarriedOut v line mid more after → AreCarriedOut v (lines ++ line ∷ []) b (text ++ more) after
carried_more v [] line b mid after text more h k =
    let one : IsCarriedOut v line b more after = subst (λ (x : BenchState). IsCarriedOut v line x more after) h.1 k in
    (more, after, [], one, (refl, refl), ap (λ (t : List ℕ). t ++ more) h.0 ∙ sym (append-nil more))
carried_more v (l ∷ lines) line b mid after text more h k =
    let again = carried_more v lines line h.1 mid after h.2 more h.4 k in
    (h.0, h.1, h.2 ++ more, h.3, again, ap (λ (t : List ℕ). t ++ more) h.5 ∙ append_assoc h.0 h.2 more)

one_short : (line : List ℕ) → IsInputLine line → All IsInputLine (line ∷ [])
one_short line h = All-cons IsInputLine line [] h (All-nil IsInputLine)

pub ran_more : {W : Type 0} (contents : W → Option (List ℕ)) (v : VerdictMap) (lines : List (List ℕ)) (line : List ℕ) (b mid after : BenchState) (out between new : W) (more : List ℕ)
    → Ran contents v lines b out mid between → IsInputLine line → IsCarriedOut v line mid more after → Appends (contents between) (contents new) more → Ran contents v (lines ++ line ∷ []) b out after new
ran_more {W} contents v lines line b mid after out between new more h short k wrote =
    record {
      short = All-append IsInputLine lines (line ∷ []) h.short (one_short line short);
      text = h.text ++ more;
      carried = carried_more v lines line b mid after h.text more h.carried k;
      wrote = Appends-trans (contents out) (contents between) (contents new) h.text more h.wrote wrote;
    }

pub ran_kept : {W : Type 0} (contents : W → Option (List ℕ)) (v : VerdictMap) (lines : List (List ℕ)) (b after : BenchState) (out between new : W)
    → Ran contents v lines b out after between → Keeps (contents between) (contents new) → Ran contents v lines b out after new
ran_kept {W} contents v lines b after out between new h k =
    record { text = h.text; short = h.short; carried = h.carried; wrote = Appends-kept (contents out) (contents between) (contents new) h.text h.wrote k }

pub ran_start : {W : Type 0} (contents : W → Option (List ℕ)) (v : VerdictMap) (b : BenchState) (out : W) → Ran contents v [] b out b out
ran_start {W} contents v b out = record { text = []; short = All-nil IsInputLine; carried = (refl, refl); wrote = Appends-nil (contents out) }

-- the current line is at most 4,096 bytes long
pub short_line : (old new : Input) → TakesInputLine old new → IsInputLine new.line
short_line old new (going, line, gives) = line

-- a line and its LF, or the end of the text, are read within the size limit
within_behind : (text : List ℕ) (lines : List (List ℕ)) (old new : Input) → Given text lines old → TakesInputLine old new → IsWithinLimits new → (length (spelled lines) + length new.line < 16777216) ⊎ (length text ≤ 16777216)
within_behind text lines old new (inl so) (going, line, inl gives) within = inl (omega (arith, so.counted, gives.counted, within.bytes, length-append new.line (10 ∷ [])))
within_behind text lines old new (inl so) (going, line, inr last) within = inr (omega (arith, all_given text lines old new so last.0 last.2, within.bytes))
within_behind text lines old new (inr done) (going, line, gives) within = let no = done.ended in cc

-- the next line follows the lines that were returned before
is_next : (input : Option (List ℕ)) (lines : List (List ℕ)) (old new : Input) → AreOf input lines old → IsWithinLimits new → TakesInputLine old new → IsNextOfInput input lines new.line
is_next None lines old new h within k = tt
is_next (Some text) lines old new h within k =
    let first = given_first text (lines ++ new.line ∷ []) new (next text lines old new h k) in
    (first.0, first.1 ∙ append_assoc lines (new.line ∷ []) first.0, within_behind text lines old new h k within)

before_stop : (fault : InputFault) (input : Option (List ℕ)) (lines : List (List ℕ)) (old new : Input) → AreOf input lines old → IsWithinLimits new → Stops fault old new → ComeBeforeStop fault input lines new
before_stop fault None lines old new h within why = why.1
before_stop fault (Some text) lines old new h within why = (why.1, stop text lines old new fault h why within)

before_bad : (input : Option (List ℕ)) (lines : List (List ℕ)) (old new : Input) (b : BenchState) → AreOf input lines old → IsWithinLimits new
    → (TakesInputLine old new × IsRefused (order_of new.line) b) ⊎ (Stops line.LineTooLong old new) → ComeBeforeBad input lines new b
before_bad input lines old new b h within (inl why) = inl (record { next = is_next input lines old new h within why.0; line = short_line old new why.0; refused = why.1 })
before_bad input lines old new b h within (inr why) = inr (before_stop line.LineTooLong input lines old new h within why)

-- a run stops at the next line with the fault of that line
pub ends_at : {W : Type 0} (contents : W → Option (List ℕ)) (v : VerdictMap) (input : Option (List ℕ)) (lines : List (List ℕ)) (number : ℕ) (old now : Input) (b mid left : BenchState) (out new : W) (fault : BenchFault)
    → AreOf input lines old → IsWithinLimits now → number ≡ length lines + 1 → Ran contents v lines b out mid new → EndsAt number fault old now mid → LeavesAt fault mid left → EndsLeaving contents v input b out (Err fault) now new left
ends_at {W} contents v input lines number old now b mid left out new BadConfig h within is ran why leaves = absurd why
ends_at {W} contents v input lines number old now b mid left out new (BadLine n) h within is ran why leaves = (lines, mid, before_bad input lines old now mid h within why.1, ran, why.0 ∙ is, leaves)
ends_at {W} contents v input lines number old now b mid left out new TooLong h within is ran why leaves = (lines, mid, before_stop line.TooLong input lines old now h within why, ran, leaves)
ends_at {W} contents v input lines number old now b mid left out new Read h within is ran why leaves = (lines, mid, before_stop line.Read input lines old now h within why, ran, leaves)
ends_at {W} contents v input lines number old now b mid left out new Write h within is ran why leaves = tt
ends_at {W} contents v input lines number old now b mid left out new NoMemory h within is ran why leaves = (lines, mid, of_first input lines old h, ran)

-- each line increases the number of bytes returned
comes_more : (old new : Input) → TakesInputLine old new → old.given + 1 ≤ new.given
comes_more old new (going, line, inl gives) = let n = gives.counted in let len = length-append new.line (10 ∷ []) in omega (arith, n, len)
comes_more old new (going, line, inr last) = let n = last.0.counted in let some = last.1 in omega (arith, n, some)

pub push_length : (lines : List (List ℕ)) (line : List ℕ) → length (lines ++ line ∷ []) ≡ length lines + 1
push_length lines line = length-append lines (line ∷ [])

pub counted_more : (lines : List (List ℕ)) (old new : Input) → length lines ≤ old.given → TakesInputLine old new → length (lines ++ new.line ∷ []) ≤ new.given
counted_more lines old new h k = let more = comes_more old new k in let len = push_length lines new.line in omega (arith, h, more, len)

pub match_true : {A : Type 0} (B : Type 0) (b : Bool) → b ≡ true → MatchBool b A B → A
match_true B true is h = h
match_true B false is h = cc

pub match_false : (A : Type 0) {B : Type 0} (b : Bool) → b ≡ false → MatchBool b A B → B
match_false A false is h = h
match_false A true is h = cc

-- a line was carried out with the verdicts that were valid at the start
pub ran_on : {W : Type 0} (contents : W → Option (List ℕ)) (v w : VerdictMap) (lines : List (List ℕ)) (line : List ℕ) (b mid after : BenchState) (out between new : W)
    → w ≡ v → Ran contents v lines b out mid between → IsInputLine line → (more : List ℕ) × IsCarriedOut w line mid more after × Appends (contents between) (contents new) more
    → Ran contents v (lines ++ line ∷ []) b out after new
ran_on {W} contents v w lines line b mid after out between new same h short (more, carried, wrote) =
    ran_more contents v lines line b mid after out between new more h short (subst (λ (u : VerdictMap). IsCarriedOut u line mid more after) same carried) wrote

-- a run stops at the next line; nothing more was written unless the writer failed
pub ends_stop : {W : Type 0} (contents : W → Option (List ℕ)) (v : VerdictMap) (input : Option (List ℕ)) (lines : List (List ℕ)) (number : ℕ) (old now : Input) (b mid left : BenchState) (out between new : W) (fault : BenchFault)
    → AreOf input lines old → IsWithinLimits now → number ≡ length lines + 1 → Ran contents v lines b out mid between
    → EndsAt number fault old now mid × ((fault ≡ Write) ⊎ Keeps (contents between) (contents new)) → LeavesAt fault mid left → EndsLeaving contents v input b out (Err fault) now new left
ends_stop {W} contents v input lines number old now b mid left out between new fault h within is ran (why, inl write) leaves =
    subst (λ (f : BenchFault). EndsLeaving {W = W} contents v input b out (Err f) now new left) (sym write) tt
ends_stop {W} contents v input lines number old now b mid left out between new fault h within is ran (why, inr same) leaves =
    ends_at contents v input lines number old now b mid left out new fault h within is (ran_kept contents v lines b mid out between new ran same) why leaves

pub err_is : {A E : Type 0} (r : Result A E) (e : E) → IsErr r × IsErrAnd r (λ x. x ≡ e) → r ≡ Err e
err_is (Ok a) e h = let wrong = h.0 in cc
err_is (Err x) e h = ap (λ y. Err y) h.1

first_none : (input : Option (List ℕ)) → AreFirst input []
first_none None = tt
first_none (Some text) = (lines_of_text text, refl)

-- the allocation failed before the first line
pub ends_before : {A W : Type 0} (leaves : A → BenchState → Type 0) (contents : W → Option (List ℕ)) (v : VerdictMap) (input : Option (List ℕ)) (b : BenchState) (out : W) (now : Input)
    → EndsRun leaves contents v input b out (Err NoMemory) now out
ends_before {A} {W} leaves contents v input b out now = ([], b, first_none input, ran_start contents v b out)

-- no bench was created
pub ends_unmade : {A W : Type 0} (leaves : A → BenchState → Type 0) (contents : W → Option (List ℕ)) (v : VerdictMap) (input : Option (List ℕ)) (b : BenchState) (out : W) (now : Input) (fault : BenchFault)
    → (fault ≡ BadConfig) ⊎ (fault ≡ NoMemory) → (fault ≡ BadConfig → ⊥) → EndsRun leaves contents v input b out (Err fault) now out
ends_unmade {A} {W} leaves contents v input b out now fault (inl bad) not_bad = absurd (not_bad bad)
ends_unmade {A} {W} leaves contents v input b out now fault (inr none) not_bad =
    subst (λ (f : BenchFault). EndsRun {A = A} {W = W} leaves contents v input b out (Err f) now out) (sym none) (ends_before leaves contents v input b out now)

-- the fault that stops a run does not depend on the run's result or on the final state of the bench
pub ends_err : {A W : Type 0} (leaves : A → BenchState → Type 0) (contents : W → Option (List ℕ)) (v : VerdictMap) (input : Option (List ℕ)) (b : BenchState) (out : W) (now : Input) (new : W) (left : BenchState) (fault : BenchFault)
    → EndsLeaving contents v input b out (Err fault) now new left → EndsRun leaves contents v input b out (Err fault) now new
ends_err {A} {W} leaves contents v input b out now new left BadConfig h = absurd h
ends_err {A} {W} leaves contents v input b out now new left (BadLine n) (lines, after, come, ran, number, kept) = (lines, after, come, ran, number)
ends_err {A} {W} leaves contents v input b out now new left TooLong (lines, after, come, ran, kept) = (lines, after, come, ran)
ends_err {A} {W} leaves contents v input b out now new left Read (lines, after, come, ran, kept) = (lines, after, come, ran)
ends_err {A} {W} leaves contents v input b out now new left Write h = h
ends_err {A} {W} leaves contents v input b out now new left NoMemory h = h

pub left_unread : (coming : Option (List ℕ)) → left_of (unread coming) ≡ coming
left_unread coming = prepend_known-nil coming

-- the bytes that the writer received are the output of a run
ran_in_bytes : {A : Type 0} (v : VerdictMap) (lines : List (List ℕ)) (b after : BenchState) (out new : Vec ℕ A) → Ran (λ (w : Vec ℕ A). Some w.items) v lines b out after new → Ran (λ (bytes : List ℕ). Some bytes) v lines b out.items after new.items
ran_in_bytes {A} v lines b after out new h = record { text = h.text; short = h.short; carried = h.carried; wrote = h.wrote }

pub ends_in_bytes : {A : Type 0} (v : VerdictMap) (input : Option (List ℕ)) (b left : BenchState) (out new : Vec ℕ A) (now : Input) (r : Result (Unit {0}) BenchFault)
    → EndsLeaving (λ (w : Vec ℕ A). Some w.items) v input b out r now new left → EndsLeaving (λ (bytes : List ℕ). Some bytes) v input b out.items r now new.items left
ends_in_bytes {A} v input b left out new now (Ok done) (lines, after, all, over, none, ran, leaves) = (lines, after, all, over, none, ran_in_bytes v lines b after out new ran, leaves)
ends_in_bytes {A} v input b left out new now (Err BadConfig) h = absurd h
ends_in_bytes {A} v input b left out new now (Err (BadLine n)) (lines, after, come, ran, number, leaves) = (lines, after, come, ran_in_bytes v lines b after out new ran, number, leaves)
ends_in_bytes {A} v input b left out new now (Err TooLong) (lines, after, come, ran, leaves) = (lines, after, come, ran_in_bytes v lines b after out new ran, leaves)
ends_in_bytes {A} v input b left out new now (Err Read) (lines, after, come, ran, leaves) = (lines, after, come, ran_in_bytes v lines b after out new ran, leaves)
ends_in_bytes {A} v input b left out new now (Err Write) h = h
ends_in_bytes {A} v input b left out new now (Err NoMemory) (lines, after, come, ran) = (lines, after, come, ran_in_bytes v lines b after out new ran)

-- the allocation failed before the first line of a text
pub none_taken : (v : VerdictMap) (text : List ℕ) (b : BenchState) (bytes : List ℕ) → EndsLeaving (λ (w : List ℕ). Some w) v (Some text) b bytes (Err NoMemory) (unread (Some text)) bytes b
none_taken v text b bytes = ([], b, first_none (Some text), ran_start (λ (w : List ℕ). Some w) v b bytes)
