-- A stream that is read in two parts: the text kept after the first part replaces that part.
use Rattle.std.proofs.Common.{◌≡◌, ℕ, ◌<◌, ◌≤◌, true, false, ◌||◌, ltb, List, [], ◌∷◌, ◌++◌, length, flat_map, refl, sym, ap, subst, ◌∙◌, append_assoc, arith, inl, inr}
use Rattle.std.proofs.lemmas.Bool.{cases_Bool, cases_lt, eq-eqb, eqb-true, ne_eqb, lt-ltb, le-ltb, cond-true, cond-false}
use Rattle.std.proofs.lemmas.List.{append-nil, length-append}
use Rattle.can_proto.specs.declared.message.Incoming.{Incoming}
use Rattle.can_proto.specs.declared.message.Incoming.TheVariants.{Message, TooLong}
use Rattle.can_proto.specs.Messages.{is_open_mark, is_close_mark, run_of, is_closed, limit, given_by, messages_of, has_open_mark, left_by, kept_of, given_from, has_mark, MayBeKept}

-- if the first part has a mark, its run does not depend on the second part
run-within : (a b : List ℕ) → has_mark a ≡ true → run_of (a ++ b) ≡ run_of a
run-within [] b h = absurd cc
run-within (x ∷ a) b h = let again = run-within a b in grind arith

closed-within : (a b : List ℕ) → has_mark a ≡ true → is_closed (a ++ b) ≡ is_closed a
closed-within [] b h = absurd cc
closed-within (x ∷ a) b h = let again = closed-within a b in grind arith

-- if the first part has no mark, the run continues in the second part
run-on : (a b : List ℕ) → has_mark a ≡ false → run_of (a ++ b) ≡ a ++ run_of b
run-on [] b h = refl
run-on (x ∷ a) b h = let again = run-on a b in grind arith

closed-on : (a b : List ℕ) → has_mark a ≡ false → is_closed (a ++ b) ≡ is_closed b
closed-on [] b h = refl
closed-on (x ∷ a) b h = let again = closed-on a b in grind arith

-- the first part has no `<`, so it adds no message
messages-past : (a b : List ℕ) → has_open_mark a ≡ false → messages_of (a ++ b) ≡ messages_of b
messages-past [] b h = refl
messages-past (x ∷ a) b h = let again = messages-past a b in grind arith

kept-past : (a b : List ℕ) → has_open_mark a ≡ false → kept_of (a ++ b) ≡ kept_of b
kept-past [] b h = refl
kept-past (x ∷ a) b h = let again = kept-past a b in grind arith

open-past : (a b : List ℕ) → has_open_mark a ≡ false → has_open_mark (a ++ b) ≡ has_open_mark b
open-past [] b h = refl
open-past (x ∷ a) b h = let again = open-past a b in grind arith

open-there : (a b : List ℕ) → has_open_mark a ≡ true → has_open_mark (a ++ b) ≡ true
open-there [] b h = absurd cc
open-there (x ∷ a) b h = let again = open-there a b in grind arith

no_open : (a : List ℕ) → has_mark a ≡ false → has_open_mark a ≡ false
no_open [] h = refl
no_open (x ∷ a) h = let again = no_open a in grind arith

open-mark : (a : List ℕ) → has_open_mark a ≡ true → has_mark a ≡ true
open-mark [] h = absurd cc
open-mark (x ∷ a) h = let again = open-mark a in grind arith

closed-mark : (a : List ℕ) → has_mark a ≡ true → has_open_mark a ≡ false → is_closed a ≡ true
closed-mark [] h k = absurd cc
closed-mark (x ∷ a) h k = let again = closed-mark a in grind arith

run-all : (a : List ℕ) → has_mark a ≡ false → run_of a ≡ a
run-all a h = ap run_of (sym (append-nil a)) ∙ run-on a [] h ∙ append-nil a

closed-none : (a : List ℕ) → has_mark a ≡ false → is_closed a ≡ false
closed-none a h = ap is_closed (sym (append-nil a)) ∙ closed-on a [] h

-- if a mark follows a `<`, later bytes change neither its message nor the text kept
given-within : (a b : List ℕ) → has_mark a ≡ true → given_by (a ++ b) ≡ given_by a
given-within a b h = rw (run-within a b h, closed-within a b h) refl

left-within : (a b : List ℕ) → has_mark a ≡ true → left_by (a ++ b) ≡ left_by a
left-within a b h = rw (run-within a b h, closed-within a b h) refl

-- a `<` without a mark after it gives no message
given-none : (a : List ℕ) → has_mark a ≡ false → length a ≤ limit → given_by a ≡ []
given-none a h short = let m : ltb limit (length a) ≡ false = le-ltb _ _ short in rw (run-all a h, closed-none a h, m) refl

left-none : (a : List ℕ) → has_mark a ≡ false → length a ≤ limit → left_by a ≡ 60 ∷ a
left-none a h short = let m : ltb limit (length a) ≡ false = le-ltb _ _ short in rw (run-all a h, closed-none a h, m) refl

given-long : (a b : List ℕ) → has_mark a ≡ false → limit < length a → given_by (a ++ b) ≡ TooLong ∷ []
given-long a b h long = let m : ltb limit (length (a ++ run_of b)) ≡ true = lt-ltb _ _ (omega (arith, length-append a (run_of b), long)) in rw (run-on a b h, m) refl

left-long : (a b : List ℕ) → has_mark a ≡ false → limit < length a → left_by (a ++ b) ≡ []
left-long a b h long = let m : ltb limit (length (a ++ run_of b)) ≡ true = lt-ltb _ _ (omega (arith, length-append a (run_of b), long)) in rw (run-on a b h, closed-on a b h, m) (grind arith)

messages-open : (x : ℕ) (a : List ℕ) → is_open_mark x ≡ true → messages_of (x ∷ a) ≡ given_by a ++ messages_of a
messages-open x a h = cond-true (is_open_mark x) (given_by a ++ messages_of a) (messages_of a) h

messages-other : (x : ℕ) (a : List ℕ) → is_open_mark x ≡ false → messages_of (x ∷ a) ≡ messages_of a
messages-other x a h = cond-false (is_open_mark x) (given_by a ++ messages_of a) (messages_of a) h

kept-other : (x : ℕ) (a : List ℕ) → is_open_mark x ≡ false → kept_of (x ∷ a) ≡ kept_of a
kept-other x a h = grind arith

kept-earlier : (x : ℕ) (a : List ℕ) → has_open_mark a ≡ true → kept_of (x ∷ a) ≡ kept_of a
kept-earlier x a h = grind arith

kept-last : (x : ℕ) (a : List ℕ) → is_open_mark x ≡ true → has_open_mark a ≡ false → kept_of (x ∷ a) ≡ left_by a
kept-last x a h k = grind arith

left-closed : (a : List ℕ) → is_closed a ≡ true → left_by a ≡ []
left-closed a h = rw h refl

messages-none : (a : List ℕ) → has_open_mark a ≡ false → messages_of a ≡ []
messages-none a h = ap messages_of (sym (append-nil a)) ∙ messages-past a [] h

kept-none : (a : List ℕ) → has_open_mark a ≡ false → kept_of a ≡ []
kept-none a h = ap kept_of (sym (append-nil a)) ∙ kept-past a [] h

-- the first part begins at its last `<`
last_open : (a b : List ℕ) → has_open_mark a ≡ false → given_by (a ++ b) ++ messages_of (a ++ b) ≡ (given_by a ++ messages_of a) ++ messages_of (left_by a ++ b)
last_open a b h =
    let none = messages-none a h in
    let past = messages-past a b h in
    elim (cases_Bool (has_mark a)) [
      | inl m ↦ rw (given-within a b m, left-closed a (closed-mark a m h), none, past, append-nil (given_by a)) refl
      | inr n ↦
          elim (cases_lt limit (length a)) [
            | inl long ↦
                let g : given_by a ≡ TooLong ∷ [] = ap given_by (sym (append-nil a)) ∙ given-long a [] n long in
                let l : left_by a ≡ [] = ap left_by (sym (append-nil a)) ∙ left-long a [] n long in
                rw (given-long a b n long, g, l, none, past) refl
            | inr short ↦ rw (given-none a n short, left-none a n short, none) refl
          ]
    ]

earlier_open : (a b : List ℕ) → has_open_mark a ≡ true → messages_of (a ++ b) ≡ messages_of a ++ messages_of (kept_of a ++ b) → given_by (a ++ b) ++ messages_of (a ++ b) ≡ (given_by a ++ messages_of a) ++ messages_of (kept_of a ++ b)
earlier_open a b h again = rw (given-within a b (open-mark a h), again) (sym (append_assoc (given_by a) (messages_of a) (messages_of (kept_of a ++ b))))

-- the messages of the whole stream: the text kept after the first part replaces that part
pub messages-append : (a b : List ℕ) → messages_of (a ++ b) ≡ messages_of a ++ messages_of (kept_of a ++ b)
messages-append [] b = refl
messages-append (x ∷ a) b =
    let again = messages-append a b in
    elim (cases_Bool (is_open_mark x)) [
      | inr other ↦ messages-other x (a ++ b) other ∙ again ∙ ap (λ (m : List Incoming). m ++ messages_of (kept_of a ++ b)) (sym (messages-other x a other)) ∙ ap (λ (t : List ℕ). messages_of (x ∷ a) ++ messages_of (t ++ b)) (sym (kept-other x a other))
      | inl mark ↦
          elim (cases_Bool (has_open_mark a)) [
            | inl there ↦ messages-open x (a ++ b) mark ∙ earlier_open a b there again ∙ ap (λ (m : List Incoming). m ++ messages_of (kept_of a ++ b)) (sym (messages-open x a mark)) ∙ ap (λ (t : List ℕ). messages_of (x ∷ a) ++ messages_of (t ++ b)) (sym (kept-earlier x a there))
            | inr last ↦ messages-open x (a ++ b) mark ∙ last_open a b last ∙ ap (λ (m : List Incoming). m ++ messages_of (left_by a ++ b)) (sym (messages-open x a mark)) ∙ ap (λ (t : List ℕ). messages_of (x ∷ a) ++ messages_of (t ++ b)) (sym (kept-last x a mark last))
          ]
    ]

last_kept : (a b : List ℕ) → has_open_mark a ≡ false → has_open_mark b ≡ false → left_by (a ++ b) ≡ kept_of (left_by a ++ b)
last_kept a b h k =
    elim (cases_Bool (has_mark a)) [
      | inl m ↦ let c = closed-mark a m h in rw (left-within a b m, left-closed a c) (sym (kept-none b k))
      | inr n ↦
          elim (cases_lt limit (length a)) [
            | inl long ↦
                let l : left_by a ≡ [] = ap left_by (sym (append-nil a)) ∙ left-long a [] n long in
                rw (left-long a b n long, l) (sym (kept-none b k))
            | inr short ↦ rw (left-none a n short) (sym (kept-last 60 (a ++ b) refl (open-past a b h ∙ k)))
          ]
    ]

-- a later `<` replaces the kept text
later_kept : (a b : List ℕ) → has_open_mark a ≡ false → has_open_mark b ≡ true → kept_of (left_by a ++ b) ≡ kept_of b
later_kept a b h k =
    elim (cases_Bool (has_mark a)) [
      | inl m ↦ rw (left-closed a (closed-mark a m h)) refl
      | inr n ↦
          elim (cases_lt limit (length a)) [
            | inl long ↦ let l : left_by a ≡ [] = ap left_by (sym (append-nil a)) ∙ left-long a [] n long in rw l refl
            | inr short ↦ rw (left-none a n short) (kept-earlier 60 (a ++ b) (open-past a b h ∙ k) ∙ kept-past a b h)
          ]
    ]

mark-there : (run : List ℕ) (b : ℕ) → (is_open_mark b || is_close_mark b) ≡ true → has_mark (run ++ b ∷ []) ≡ true
mark-there [] b h = grind arith
mark-there (x ∷ run) b h = let again = mark-there run b h in grind arith

given-open : (run : List ℕ) → has_mark run ≡ false → length run ≤ limit → given_by (run ++ 60 ∷ []) ≡ []
given-open run h short =
    let r : run_of (run ++ 60 ∷ []) ≡ run = run-on run (60 ∷ []) h ∙ append-nil run in
    let c : is_closed (run ++ 60 ∷ []) ≡ false = closed-on run (60 ∷ []) h in
    let s : ltb limit (length run) ≡ false = le-ltb _ _ short in
    rw (r, c, s) refl

pub kept-append : (a b : List ℕ) → kept_of (a ++ b) ≡ kept_of (kept_of a ++ b)
kept-append [] b = refl
kept-append (x ∷ a) b =
    let again = kept-append a b in
    elim (cases_Bool (is_open_mark x)) [
      | inr other ↦ kept-other x (a ++ b) other ∙ again ∙ ap (λ (t : List ℕ). kept_of (t ++ b)) (sym (kept-other x a other))
      | inl mark ↦
          elim (cases_Bool (has_open_mark a)) [
            | inl there ↦ kept-earlier x (a ++ b) (open-there a b there) ∙ again ∙ ap (λ (t : List ℕ). kept_of (t ++ b)) (sym (kept-earlier x a there))
            | inr last ↦
                elim (cases_Bool (has_open_mark b)) [
                  | inl later ↦ kept-earlier x (a ++ b) (open-past a b last ∙ later) ∙ kept-past a b last ∙ sym (later_kept a b last later) ∙ ap (λ (t : List ℕ). kept_of (t ++ b)) (sym (kept-last x a mark last))
                  | inr none ↦ kept-last x (a ++ b) mark (open-past a b last ∙ none) ∙ last_kept a b last none ∙ ap (λ (t : List ℕ). kept_of (t ++ b)) (sym (kept-last x a mark last))
                ]
          ]
    ]

-- the kept text contains no message, and a reader keeps it unchanged
pub kept-is : (t : List ℕ) → MayBeKept t → (messages_of t ≡ []) × (kept_of t ≡ t)
kept-is [] h = (refl, refl)
kept-is (x ∷ run) h =
    let mark : is_open_mark x ≡ true = eq-eqb x 60 h.0 in
    let none = no_open run h.1 in (
      messages-open x run mark ∙ rw (given-none run h.1 h.2, messages-none run none) refl,
      kept-last x run mark none ∙ left-none run h.1 h.2 ∙ ap (λ (y : ℕ). y ∷ run) (sym h.0),
    )

left-kept : (a : List ℕ) → has_open_mark a ≡ false → MayBeKept (left_by a)
left-kept a h =
    elim (cases_Bool (has_mark a)) [
      | inl m ↦ rw (left-closed a (closed-mark a m h)) tt
      | inr n ↦
          elim (cases_lt limit (length a)) [
            | inl long ↦ let l : left_by a ≡ [] = ap left_by (sym (append-nil a)) ∙ left-long a [] n long in rw l tt
            | inr short ↦ rw (left-none a n short) (refl, n, short)
          ]
    ]

pub kept-kept : (a : List ℕ) → MayBeKept (kept_of a)
kept-kept [] = tt
kept-kept (x ∷ a) =
    let again = kept-kept a in
    elim (cases_Bool (is_open_mark x)) [
      | inr other ↦ subst MayBeKept (sym (kept-other x a other)) again
      | inl mark ↦
          elim (cases_Bool (has_open_mark a)) [
            | inl there ↦ subst MayBeKept (sym (kept-earlier x a there)) again
            | inr last ↦ subst MayBeKept (sym (kept-last x a mark last)) (left-kept a last)
          ]
    ]

-- the calls together return the messages of the whole stream
pub given_from-all : (before : List ℕ) (pieces : List (List ℕ)) → MayBeKept before → given_from before pieces ≡ messages_of (before ++ flat_map (λ piece. piece) pieces)
given_from-all before [] h = sym (ap messages_of (append-nil before) ∙ (kept-is before h).0)
given_from-all before (piece ∷ pieces) h =
    let rest = flat_map (λ (p : List ℕ). p) pieces in
    let again = given_from-all (kept_of (before ++ piece)) pieces (kept-kept (before ++ piece)) in
    ap (λ (m : List Incoming). messages_of (before ++ piece) ++ m) again ∙ sym (messages-append (before ++ piece) rest) ∙ ap messages_of (append_assoc before piece rest)

-- one more byte after the kept text
pub opens : (t : List ℕ) → MayBeKept t → (messages_of (t ++ 60 ∷ []) ≡ []) × (kept_of (t ++ 60 ∷ []) ≡ 60 ∷ [])
opens [] h = (refl, refl)
opens (x ∷ run) h =
    let none = no_open run h.1 in
    let mark : is_open_mark x ≡ true = eq-eqb x 60 h.0 in
    let m : has_mark (run ++ 60 ∷ []) ≡ true = mark-there run 60 refl in (
      messages-open x (run ++ 60 ∷ []) mark ∙ rw (messages-past run (60 ∷ []) none) (ap (λ (g : List Incoming). g ++ []) (given-open run h.1 h.2)),
      kept-earlier x (run ++ 60 ∷ []) (open-past run (60 ∷ []) none) ∙ kept-past run (60 ∷ []) none,
    )

pub closes : (run : List ℕ) → has_mark run ≡ false → length run ≤ limit → (messages_of (60 ∷ (run ++ 62 ∷ [])) ≡ Message run ∷ []) × (kept_of (60 ∷ (run ++ 62 ∷ [])) ≡ [])
closes run h short =
    let none = no_open run h in
    let r : run_of (run ++ 62 ∷ []) ≡ run = run-on run (62 ∷ []) h ∙ append-nil run in
    let c : is_closed (run ++ 62 ∷ []) ≡ true = closed-on run (62 ∷ []) h in
    let s : ltb limit (length run) ≡ false = le-ltb _ _ short in
    (rw (messages-past run (62 ∷ []) none, r, c, s) refl, kept-last 60 (run ++ 62 ∷ []) refl (open-past run (62 ∷ []) none) ∙ left-closed (run ++ 62 ∷ []) c)

pub no_marks : (run more : List ℕ) → has_mark run ≡ false → has_mark more ≡ false → has_mark (run ++ more) ≡ false
no_marks [] more h k = k
no_marks (x ∷ run) more h k = let again = no_marks run more in grind arith

pub no_mark : (run : List ℕ) (b : ℕ) → has_mark run ≡ false → (b ≡ 60 → ⊥) → (b ≡ 62 → ⊥) → has_mark (run ++ b ∷ []) ≡ false
no_mark run b h n60 n62 = let m : is_open_mark b ≡ false = ne_eqb b 60 n60 in let k : is_close_mark b ≡ false = ne_eqb b 62 n62 in no_marks run (b ∷ []) h (rw (m, k) refl)

pub mark_more : (run : List ℕ) (b : ℕ) → has_mark (run ++ b ∷ []) ≡ (has_mark run || (is_open_mark b || is_close_mark b))
mark_more [] b = grind arith
mark_more (x ∷ run) b = let again = mark_more run b in grind arith

pub close_mark : (b : ℕ) → (is_open_mark b || is_close_mark b) ≡ true → (b ≡ 60 → ⊥) → b ≡ 62
close_mark b h n60 = let m : is_open_mark b ≡ false = ne_eqb b 60 n60 in eqb-true b 62 (sym (ap (λ x. x || is_close_mark b) m) ∙ h)

-- more bytes without a mark after the kept text
pub goes_on : (run more : List ℕ) → has_mark run ≡ false → has_mark more ≡ false → length (run ++ more) ≤ limit → (messages_of (60 ∷ (run ++ more)) ≡ []) × (kept_of (60 ∷ (run ++ more)) ≡ 60 ∷ (run ++ more))
goes_on run more h k short = kept-is (60 ∷ (run ++ more)) (refl, no_marks run more h k, short)

pub too_long : (run more : List ℕ) → has_mark run ≡ false → has_mark more ≡ false → limit < length (run ++ more) → (messages_of (60 ∷ (run ++ more)) ≡ TooLong ∷ []) × (kept_of (60 ∷ (run ++ more)) ≡ [])
too_long run more h k long =
    let m : has_mark (run ++ more) ≡ false = no_marks run more h k in
    let none = no_open (run ++ more) m in
    let w = append-nil (run ++ more) in (
      ap (λ (g : List Incoming). g ++ messages_of (run ++ more)) (ap given_by (sym w) ∙ given-long (run ++ more) [] m long) ∙ ap (λ (r : List Incoming). TooLong ∷ r) (messages-none (run ++ more) none),
      kept-last 60 (run ++ more) refl none ∙ ap left_by (sym w) ∙ left-long (run ++ more) [] m long,
    )

pub passes_by : (more : List ℕ) → has_mark more ≡ false → (messages_of more ≡ []) × (kept_of more ≡ [])
passes_by more h = let none = no_open more h in (messages-none more none, kept-none more none)

-- a complete message comes before the messages of the bytes after it
pub message-between : (inside rest : List ℕ) → has_mark inside ≡ false → length inside ≤ limit → messages_of ((60 ∷ (inside ++ 62 ∷ [])) ++ rest) ≡ Message inside ∷ messages_of rest
message-between inside rest clear short =
    let c = closes inside clear short in
    messages-append (60 ∷ (inside ++ 62 ∷ [])) rest
    ∙ ap (λ (g : List Incoming). g ++ messages_of (kept_of (60 ∷ (inside ++ 62 ∷ [])) ++ rest)) c.0
    ∙ ap (λ (t : List ℕ). Message inside ∷ messages_of (t ++ rest)) c.1
