use Rattle.std.proofs.Common.{◌≡◌, ◌≢◌, ◌⊎◌, inl, inr, ◌==◌, ℕ, suc, ◌+◌, ◌-◌, ◌≤◌, nat_le, Bool, true, false, true≢false, ◌&&◌, List, ◌∷◌, ◌++◌, length, drop, codes, get_or, Option, Some, None, if◌then◌else◌, refl, sym, ap, ap₂, subst, ◌∙◌, arith, rules, length-append, drop_of_length-le, eqb-true, eq-eqb, leb-true, le-leb, ne_eqb}
use Rattle.std.specs.Io.KnownBytes.{Appends, Keeps}
use Rattle.std.proofs.lemmas.List.Sums.{fold-append}
use Rattle.std.proofs.lemmas.List.Folds.{fold_stays}
use lib.Seq.{drop-append-le}
use Rattle.canbusd_bench.specs.Refusals.{GrowsByRefusal, GrowsQuietly, HasRefusal}
use Rattle.canbusd_bench.specs.inner.Watched.{saw, seen_after, seen_in, told}
use Rattle.canbusd_bench.proofs.Refused.{is_refusal}

-- The bytes in a watcher's writer, as far as the watcher knows them.

-- both values are true
both : (a b : Bool) → (a && b) ≡ true → (a ≡ true) × (b ≡ true)
both true b e = (refl, e)
both false b e = absurd (true≢false (sym e))

-- the watcher saw one more piece of the output
saw_more : (written seen : ℕ) (text piece : List ℕ) → saw written seen text ≡ true
    → (length (text ++ piece) - (written + length piece) ≡ length text - written) × (saw (written + length piece) (seen_in seen piece) (text ++ piece) ≡ true)
saw_more written seen text piece was =
    let halves = both _ _ was in
    let few : written ≤ length text = leb-true _ _ halves.0 in
    let start : length (text ++ piece) - (written + length piece) ≡ length text - written = omega (arith, length-append text piece) in
    let here : seen_in 0 (drop (length text - written) text) ≡ seen = eqb-true _ _ halves.1 in
    let rest : drop (length (text ++ piece) - (written + length piece)) (text ++ piece) ≡ drop (length text - written) text ++ piece =
    ap (λ n. drop n (text ++ piece)) start ∙ drop-append-le (length text - written) text piece (omega arith) in
    let now : seen_in 0 (drop (length (text ++ piece) - (written + length piece)) (text ++ piece)) ≡ seen_in seen piece =
    ap (seen_in 0) rest ∙ fold-append seen_after 0 (drop (length text - written) text) piece ∙ ap (λ n. seen_in n piece) here in
    (start, ap₂ (λ a b. a && b) (le-leb _ _ (omega (arith, length-append text piece))) (eq-eqb _ _ now))

told_on : (name written seen : ℕ) (text : List ℕ) → saw written seen text ≡ true → told name true written seen (Some text) ≡ Some (name ∷ suc (length text - written) ∷ text)
told_on name written seen text e = ap (λ (b : Bool). if b then Some (name ∷ suc (length text - written) ∷ text) else None) e

told_off : (name written seen : ℕ) (text : List ℕ) → saw written seen text ≡ false → told name true written seen (Some text) ≡ None
told_off name written seen text e = ap (λ (b : Bool). if b then Some (name ∷ suc (length text - written) ∷ text) else None) e

-- a test is true or false
decide : (b : Bool) → (b ≡ true) ⊎ (b ≡ false)
decide true = inl refl
decide false = inr refl

-- the known bytes after one more piece
grown : (name written seen : ℕ) (old new : Option (List ℕ)) (piece : List ℕ) → Appends old new piece
    → Appends (told name true written seen old) (told name true (written + length piece) (seen_in seen piece) new) piece
grown name written seen None new piece a = tt
grown name written seen (Some text) None piece a = absurd a
grown name written seen (Some text) (Some after) piece a = elim (decide (saw written seen text)) [
  | inl is ↦
      let more = saw_more written seen text piece is in
      let now : told name true (written + length piece) (seen_in seen piece) (Some after) ≡ Some (name ∷ suc (length text - written) ∷ (text ++ piece)) =
      ap (λ l. told name true (written + length piece) (seen_in seen piece) (Some l)) a ∙ told_on name _ _ _ more.1 ∙ ap (λ n. Some (name ∷ suc n ∷ (text ++ piece))) more.0 in
      subst (λ o. Appends (told name true written seen (Some text)) o piece) (sym now)
      (subst (λ o. Appends o (Some (name ∷ suc (length text - written) ∷ (text ++ piece))) piece) (sym (told_on name written seen text is)) refl)
  | inr not ↦ subst (λ o. Appends o (told name true (written + length piece) (seen_in seen piece) (Some after)) piece) (sym (told_off name written seen text not)) tt
]

unlooked : (name written seen w s : ℕ) (old new : Option (List ℕ)) (piece : List ℕ) → Appends old new piece → Appends (told name false written seen old) (told name false w s new) piece
unlooked name written seen w s None new piece a = tt
unlooked name written seen w s (Some text) None piece a = absurd a
unlooked name written seen w s (Some text) (Some after) piece a = ap (λ l. name ∷ 0 ∷ l) a

-- the known bytes after one more piece, which the watcher examines only while it is on
pub looked : (name is : ℕ) (is_on on : Bool) (written seen w s : ℕ) (old new : Option (List ℕ)) (piece : List ℕ) → is ≡ name → on ≡ is_on
    → (is_on ≡ true → w ≡ written + length piece) → (is_on ≡ true → s ≡ seen_in seen piece) → Appends old new piece
    → Appends (told name is_on written seen old) (told is on w s new) piece
looked name is true on written seen w s old new piece named same ws ss a =
    subst (λ n. Appends (told name true written seen old) (told n on w s new) piece) (sym named)
    (subst (λ b. Appends (told name true written seen old) (told name b w s new) piece) (sym same)
    (subst (λ n. Appends (told name true written seen old) (told name true n s new) piece) (sym (ws refl))
    (subst (λ n. Appends (told name true written seen old) (told name true (written + length piece) n new) piece) (sym (ss refl)) (grown name written seen old new piece a))))
looked name is false on written seen w s old new piece named same ws ss a =
    subst (λ n. Appends (told name false written seen old) (told n on w s new) piece) (sym named)
    (subst (λ b. Appends (told name false written seen old) (told name b w s new) piece) (sym same) (unlooked name written seen w s old new piece a))

-- a watcher has seen nothing when it starts
started : (text : List ℕ) → saw 0 0 text ≡ true
started text = ap₂ (λ a b. a && b) (le-leb 0 (length text) (omega arith)) (eq-eqb _ _ (ap (seen_in 0) (drop_of_length-le text {i = length text - 0} (omega arith))))

abbrev mark_of : Bool → ℕ → ℕ
mark_of true n = suc n
mark_of false n = 0

at_start : (name : ℕ) (is_on : Bool) (text : List ℕ) → told name is_on 0 0 (Some text) ≡ Some (name ∷ mark_of is_on (length text - 0) ∷ text)
at_start name false text = refl
at_start name true text = told_on name 0 0 text (started text)

parts : (a b c d : ℕ) (x y : List ℕ) → a ∷ b ∷ x ≡ c ∷ d ∷ y → (a ≡ c) × (b ≡ d) × (x ≡ y)
parts a b c d x y e = (search (rules, e), search (rules, e), search (rules, e))

-- the known bytes, compared with the bytes of the writer
told_as : (name is : ℕ) (is_on : Bool) (written seen mark : ℕ) (text after : List ℕ) (piece : List ℕ) → Appends (Some (name ∷ mark ∷ text)) (told is is_on written seen (Some after)) piece
    → (is ≡ name) × (mark_of is_on (length after - written) ≡ mark) × (after ≡ text ++ piece) × ((is_on ≡ true) → saw written seen after ≡ true)
told_as name is false written seen mark text after piece a = let t = parts _ _ _ _ _ _ a in (t.0, t.1, t.2, λ e. absurd (true≢false (sym e)))
told_as name is true written seen mark text after piece a = elim (decide (saw written seen after)) [
  | inl was ↦ let t = parts _ _ _ _ _ _ (subst (λ o. Appends (Some (name ∷ mark ∷ text)) o piece) (told_on is written seen after was) a) in (t.0, t.1, t.2, λ e. was)
  | inr not ↦ absurd (subst (λ o. Appends (Some (name ∷ mark ∷ text)) o piece) (told_off is written seen after not) a)
]

-- if the writer's bytes are known, the writer is the same, and its bytes grew by the text that the watcher knows
pub wrote : (name is : ℕ) (is_on on : Bool) (w s : ℕ) (old new : Option (List ℕ)) (text : List ℕ) → Appends (told name is_on 0 0 old) (told is on w s new) text → (old ≡ None) ⊎ ((is ≡ name) × Appends old new text)
wrote name is is_on on w s None new text a = inl refl
wrote name is is_on on w s (Some bytes) None text a = absurd (subst (λ o. Appends o None text) (at_start name is_on bytes) a)
wrote name is is_on on w s (Some bytes) (Some after) text a =
    let t = told_as name is on w s _ bytes after text (subst (λ o. Appends o (told is on w s (Some after)) text) (at_start name is_on bytes) a) in inr (t.0, t.2)

-- the watcher sees a refusal
letter_seen : (letter : ℕ) → 97 ≤ letter → letter ≤ 122 → seen_after 8 letter ≡ 9
letter_seen letter least most = by_tests (letter == 60) (nat_le 97 letter) (nat_le letter 122) (ne_eqb _ _ (omega arith)) (le-leb _ _ least) (le-leb _ _ most)
  where
    by_tests : (a b c : Bool) → a ≡ false → b ≡ true → c ≡ true → ◌≡◌ {A = ℕ} (if a then 1 else if b && c then 9 else (if get_or (codes "< error ") 8 60 == letter then 9 else 0)) 9
    by_tests false true true e f g = refl
    by_tests true b c e f g = absurd (true≢false e)
    by_tests false false c e f g = absurd (true≢false (sym f))
    by_tests false true false e f g = absurd (true≢false (sym g))

behind_front : (m letter : ℕ) (after : List ℕ) → 97 ≤ letter → letter ≤ 122 → seen_in m (codes "< error " ++ letter ∷ after) ≡ 9
behind_front m letter after least most = elim (decide (m == 9)) [
  | inl is ↦ ap (λ n. seen_in n (codes "< error " ++ letter ∷ after)) (eqb-true _ _ is) ∙ fold_stays seen_after 9 (λ x. refl) (codes "< error " ++ letter ∷ after)
  | inr not ↦
      ap (λ (b : Bool). seen_in (if b then 9 else 1) (codes " error " ++ letter ∷ after)) not
      ∙ ap (λ n. seen_in n after) (letter_seen letter least most) ∙ fold_stays seen_after 9 (λ x. refl) after
]

found : (text : List ℕ) → HasRefusal text → seen_in 0 text ≡ 9
found text r =
    ap (seen_in 0) r.text_is ∙ fold-append seen_after 0 r.before (codes "< error " ++ r.letter ∷ r.after) ∙ behind_front (seen_in 0 r.before) r.letter r.after r.least r.most

-- a watcher that is on saw all bytes written
saw_all : (name is w s : ℕ) (bytes after text : List ℕ) → Appends (told name true 0 0 (Some bytes)) (told is true w s (Some after)) text → (after ≡ bytes ++ text) × (seen_in 0 text ≡ s)
saw_all name is w s bytes after text a =
    let t = told_as name is true w s (suc (length bytes - 0)) bytes after text (subst (λ o. Appends o (told is true w s (Some after)) text) (at_start name true bytes) a) in
    let halves : (nat_le w (length after) ≡ true) × ((seen_in 0 (drop (length after - w) after) == s) ≡ true) = both _ _ (t.3 refl) in
    let start : length after - w ≡ length bytes = search (rules, t.1) in
    let here : seen_in 0 (drop (length bytes) after) ≡ s = ap (λ n. seen_in 0 (drop n after)) (sym start) ∙ eqb-true _ _ halves.1 in
    let rest : drop (length bytes) after ≡ text =
    ap (drop (length bytes)) t.2 ∙ drop-append-le (length bytes) bytes text (omega arith) ∙ ap (λ l. l ++ text) (drop_of_length-le bytes {i = length bytes} (omega arith)) in
    (t.2, sym (ap (seen_in 0) rest) ∙ here)

-- if the watcher is on and saw no refusal, no refusal was written
pub quietly : (name is : ℕ) (on : Bool) (w s : ℕ) (old new : Option (List ℕ)) (text : List ℕ) → Appends (told name true 0 0 old) (told is on w s new) text → (on ≡ false) ⊎ (s ≢ 9) → GrowsQuietly old new
quietly name is on w s None new text a none = tt
quietly name is on w s (Some bytes) None text a none = subst (λ o. Appends o None text) (at_start name true bytes) a
quietly name is false w s (Some bytes) (Some after) text a none =
    let t = told_as name is false w s _ bytes after text (subst (λ o. Appends o (told is false w s (Some after)) text) (at_start name true bytes) a) in absurd (search (rules, t.1))
quietly name is true w s (Some bytes) (Some after) text a (inl off) = absurd (true≢false off)
quietly name is true w s (Some bytes) (Some after) text a (inr none) =
    let t = saw_all name is w s bytes after text a in (text, t.0, λ r. none (sym t.1 ∙ found text r))

-- if the watcher is on and saw a refusal, the options are strict and a refusal was written
pub loudly : (name is : ℕ) (strict : Bool) (w s : ℕ) (old new : Option (List ℕ)) (text : List ℕ) → Appends (told name strict 0 0 old) (told is true w s new) text → s ≡ 9 → GrowsByRefusal strict old new
loudly name is strict w s None new text a e = tt
loudly name is strict w s (Some bytes) None text a e = subst (λ o. Appends o None text) (at_start name strict bytes) a
loudly name is true w s (Some bytes) (Some after) text a e = let t = saw_all name is w s bytes after text a in (refl, text, t.0, is_refusal text (t.1 ∙ e))
loudly name is false w s (Some bytes) (Some after) text a e = let t = told_as name is true w s 0 bytes after text a in absurd (search (rules, t.1))

-- the known bytes of a watcher when it starts
pub first_told : (name w s : ℕ) (on strict : Bool) (now old : Option (List ℕ)) → on ≡ strict → w ≡ 0 → s ≡ 0 → now ≡ old → told name on w s now ≡ told name strict 0 0 old
first_told name w s on strict now old a b c d = rw (a, b, c, d) refl

-- the watcher before and after a run, and its writer before the run, after it, after a flush, and after the borrow ends
pub record Watching {W : Type 0} (contents : W → Option (List ℕ)) (before after : Option (List ℕ)) (strict : Bool) (old behind flushed new : W) : Type 0 where
  pub name : ℕ
  pub is : ℕ
  pub on : Bool
  pub written : ℕ
  pub seen : ℕ
  pub first : before ≡ told name strict 0 0 (contents old)
  pub last : after ≡ told is on written seen (contents behind)
  pub back : is ≡ name → new ≡ flushed
  pub kept : Keeps (contents behind) (contents flushed)

pub seen_whole : {W : Type 0} (contents : W → Option (List ℕ)) (before after : Option (List ℕ)) (strict : Bool) (old behind flushed new : W) (w : Watching contents before after strict old behind flushed new) (text : List ℕ)
    → Appends before after text → Appends (told w.name strict 0 0 (contents old)) (told w.is w.on w.written w.seen (contents behind)) text
seen_whole contents before after strict old behind flushed new w text a =
    subst (λ o. Appends o (told w.is w.on w.written w.seen (contents behind)) text) w.first (subst (λ o. Appends before o text) w.last a)

pub nothing : (old new : Option (List ℕ)) (text : List ℕ) → old ≡ None → Appends old new text × GrowsQuietly old new
nothing None new text e = (tt, tt)
nothing (Some bytes) new text e = absurd (search (rules, e))

pub quiet_if : (name is : ℕ) (strict on : Bool) (w s : ℕ) (old new : Option (List ℕ)) (text : List ℕ) → Appends (told name strict 0 0 old) (told is on w s new) text → (on ≡ false) ⊎ (s ≢ 9) → strict ≡ true → GrowsQuietly old new
quiet_if name is strict on w s old new text a none e = quietly name is on w s old new text (subst (λ b. Appends (told name b 0 0 old) (told is on w s new) text) e a) none

pub unknown_refusal : (strict : Bool) (old new : Option (List ℕ)) → old ≡ None → GrowsByRefusal strict old new
unknown_refusal strict None new e = tt
unknown_refusal strict (Some bytes) new e = absurd (search (rules, e))
