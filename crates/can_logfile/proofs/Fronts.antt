use Rattle.std.proofs.Common.{◌≡◌, ℕ, ◌+◌, ◌<◌, ◌≤◌, List, [], ◌∷◌, ◌++◌, length, take, drop, get_or, Option, Some, inl, inr, refl, sym, ap, subst, ◌∙◌, arith, append_assoc, take-append-drop, length-append}
use Rattle.std.specs.Prelude.{reverse, map, slice_get}
use Rattle.std.specs.Io.KnownBytes.{Appends}
use Rattle.std.proofs.lemmas.List.{reverse-append, reverse-reverse, length-reverse, take_more, take_all, take_at, append-nil, map-append, length-map}
use Rattle.std.proofs.lemmas.Grind.{flat_map-append}
use Rattle.std.proofs.lemmas.Option.{slice_get_read, slice_get_cases, none-some, same_Some}
use Rattle.can_event.specs.declared.entry.Entry.{Entry}
use Rattle.can_event.specs.declared.attempt.Tried.{Tried}
use Rattle.can_event.specs.declared.attempt.Attempt.TheVariants as attempt
use Rattle.can_event.specs.declared.reply.Reply.{Reply}
use Rattle.can_event.specs.declared.reply.Reply.TheVariants as reply
use Rattle.can_record.specs.Tapes.{tape, tape_after}
use Rattle.can_record_text.specs.LongRuns.{entries_in}
use Rattle.can_logfile.specs.Log.{lines_of_blocks, log_line, log_lines, tried_of, tried_in, joined, TornAfter}
use Rattle.std.proofs.KnownBytes.{Appends-trans}

-- The oldest entries of a history, and the lines of their tried frames.

-- The oldest k entries of a history, the newest of them first.
abbrev pub front : ℕ → List Entry → List Entry
front k past = reverse (take k (reverse past))

front-more : (k : ℕ) (past : List Entry) (e : Entry) → k < length past → e ≡ get_or (reverse past) k e → front (k + 1) past ≡ e ∷ front k past
front-more k past e lt at =
    let more = take_more (reverse past) k e (omega (arith, length-reverse past, lt)) in
    ap reverse more ∙ reverse-append (take k (reverse past)) (get_or (reverse past) k e ∷ []) ∙ ap (λ (x : Entry). x ∷ front k past) (sym at)

pub front-all : (k : ℕ) (past : List Entry) → length past ≤ k → front k past ≡ past
front-all k past h = ap reverse (take_all k (reverse past) (omega (arith, length-reverse past, h))) ∙ reverse-reverse past

past-front : (k : ℕ) (past : List Entry) → reverse (drop k (reverse past)) ++ front k past ≡ past
past-front k past = sym (reverse-append (take k (reverse past)) (drop k (reverse past))) ∙ ap reverse (take-append-drop k (reverse past)) ∙ reverse-reverse past

-- The tape grows only at its end.
abbrev Grows : List Tried → List Tried → Type 0
Grows base all = (more : List Tried) × (all ≡ base ++ more)

grows : (r : Reply) (base all : List Tried) → Grows base all → Grows base (tape_after r all)
grows (reply.Attempted (attempt.Tried t)) base all h = (h.0 ++ t ∷ [], ap (λ (x : List Tried). x ++ t ∷ []) h.1 ∙ append_assoc base h.0 (t ∷ []))
grows (reply.Opened s) base all h = h
grows (reply.Closed s) base all h = h
grows reply.Done base all h = h
grows (reply.Sent s) base all h = h
grows (reply.Received s) base all h = h
grows (reply.Attempted (attempt.Idle restarted)) base all h = h
grows (reply.Refused s) base all h = h

tape-grows : (later past : List Entry) → Grows (tape past) (tape (later ++ past))
tape-grows [] past = ([], sym (append-nil (tape past)))
tape-grows (e ∷ later) past = grows e.reply (tape past) (tape (later ++ past)) (tape-grows later past)

tape-of : (k : ℕ) (past : List Entry) → Grows (tape (front k past)) (tape past)
tape-of k past = subst (λ (all : List Entry). Grows (tape (front k past)) (tape all)) (past-front k past) (tape-grows (reverse (drop k (reverse past))) (front k past))

-- The front grows by one entry that tried a frame.
tried-more : (k : ℕ) (past : List Entry) (e : Entry) (t : Tried) → k < length past → e ≡ get_or (reverse past) k e → e.reply ≡ reply.Attempted (attempt.Tried t) → tape (front (k + 1) past) ≡ tape (front k past) ++ t ∷ []
tried-more k past e t lt at is = ap tape (front-more k past e lt at) ∙ ap (λ (r : Reply). tape_after r (tape (front k past))) is

pub count-more : (k : ℕ) (past : List Entry) (e : Entry) (t : Tried) → k < length past → e ≡ get_or (reverse past) k e → e.reply ≡ reply.Attempted (attempt.Tried t) → length (tape (front (k + 1) past)) ≡ length (tape (front k past)) + 1
count-more k past e t lt at is = ap length (tried-more k past e t lt at is) ∙ length-append (tape (front k past)) (t ∷ [])

pub lines-more : (names : List (List ℕ)) (k : ℕ) (past : List Entry) (e : Entry) (t : Tried) → k < length past → e ≡ get_or (reverse past) k e → e.reply ≡ reply.Attempted (attempt.Tried t) → joined (log_lines names (front (k + 1) past)) ≡ joined (log_lines names (front k past)) ++ log_line names t
lines-more names k past e t lt at is =
    ap (λ (ts : List Tried). joined (map (log_line names) ts)) (tried-more k past e t lt at is)
    ∙ ap joined (map-append (log_line names) (tape (front k past)) (t ∷ []))
    ∙ flat_map-append (λ line. line) (map (log_line names) (tape (front k past))) (log_line names t ∷ [])
    ∙ ap (λ (x : List ℕ). joined (log_lines names (front k past)) ++ x) (append-nil (log_line names t))

-- The element right after a front is the first one of the rest.
at_length : (xs : List (List ℕ)) (x : List ℕ) (ys : List (List ℕ)) → get_or (xs ++ x ∷ ys) (length xs) x ≡ x
at_length [] x ys = refl
at_length (y ∷ xs) x ys = at_length xs x ys

there : (xs : List (List ℕ)) (x : List ℕ) (ys : List (List ℕ)) → slice_get (xs ++ x ∷ ys) (length xs) ≡ Some x
there xs x ys = slice_get_read (xs ++ x ∷ ys) (length (xs ++ x ∷ ys)) (length xs) x refl (omega (arith, length-append xs (x ∷ ys))) (sym (at_length xs x ys))

-- The lines of a history, split at an entry that tried a frame.
lines-cut : (names : List (List ℕ)) (k : ℕ) (past : List Entry) (e : Entry) (t : Tried) → k < length past → e ≡ get_or (reverse past) k e → e.reply ≡ reply.Attempted (attempt.Tried t) → (more : List (List ℕ)) × (log_lines names past ≡ log_lines names (front k past) ++ log_line names t ∷ more)
lines-cut names k past e t lt at is =
    let grown = tape-of (k + 1) past in
    let base = tape (front k past) in
    let whole : tape past ≡ base ++ t ∷ grown.0 = grown.1 ∙ ap (λ (x : List Tried). x ++ grown.0) (tried-more k past e t lt at is) ∙ append_assoc base (t ∷ []) grown.0 in
    (map (log_line names) grown.0, ap (map (log_line names)) whole ∙ map-append (log_line names) base (t ∷ grown.0))

pub torn : (a b c : Option (List ℕ)) (names : List (List ℕ)) (k whole : ℕ) (past : List Entry) (e : Entry) (t : Tried) →
    k < length past → e ≡ get_or (reverse past) k e → e.reply ≡ reply.Attempted (attempt.Tried t) → whole ≡ length (tape (front k past)) →
    Appends a b (joined (log_lines names (front k past))) → (part : ℕ) × (part < length (log_line names t)) × Appends b c (take part (log_line names t)) → TornAfter a c (log_lines names past) whole
torn a b c names k whole past e t lt at is count out part =
    let cut = lines-cut names k past e t lt at is in
    let base = log_lines names (front k past) in
    let long : length base ≡ whole = length-map (tape (front k past)) (log_line names) ∙ sym count in
    record {
      next = log_line names t;
      there = ap (λ (ls : List (List ℕ)). slice_get ls whole) cut.1 ∙ ap (λ (n : ℕ). slice_get (base ++ log_line names t ∷ cut.0) n) (sym long) ∙ there base (log_line names t) cut.0;
      front = part.0;
      proper = part.1;
      out =
          let taken : take whole (log_lines names past) ≡ base = ap (take whole) cut.1 ∙ take_at base (log_line names t ∷ cut.0) whole long in
          subst (λ (ls : List (List ℕ)). Appends a c (joined ls ++ take part.0 (log_line names t))) (sym taken) (Appends-trans a b c (joined base) (take part.0 (log_line names t)) out part.2);
    }

stays : (r : Reply) (before : List Tried) → ((t : Tried) → r ≡ reply.Attempted (attempt.Tried t) → ⊥) → tape_after r before ≡ before
stays (reply.Attempted (attempt.Tried t)) before never = absurd (never t refl)
stays (reply.Opened s) before never = refl
stays (reply.Closed s) before never = refl
stays reply.Done before never = refl
stays (reply.Sent s) before never = refl
stays (reply.Received s) before never = refl
stays (reply.Attempted (attempt.Idle restarted)) before never = refl
stays (reply.Refused s) before never = refl

-- The front grows by one entry that tried no frame, so the tape stays the same.
pub same-tape : (k : ℕ) (past : List Entry) (e : Entry) → k < length past → e ≡ get_or (reverse past) k e → ((t : Tried) → e.reply ≡ reply.Attempted (attempt.Tried t) → ⊥) → tape (front (k + 1) past) ≡ tape (front k past)
same-tape k past e lt at never = ap tape (front-more k past e lt at) ∙ stays e.reply (tape (front k past)) never

pub line-more : (a b c : Option (List ℕ)) (names : List (List ℕ)) (k : ℕ) (past : List Entry) (e : Entry) (t : Tried) →
    k < length past → e ≡ get_or (reverse past) k e → e.reply ≡ reply.Attempted (attempt.Tried t) →
    Appends a b (joined (log_lines names (front k past))) → Appends b c (log_line names t) → Appends a c (joined (log_lines names (front (k + 1) past)))
line-more a b c names k past e t lt at is out part =
    subst (Appends a c) (sym (lines-more names k past e t lt at is)) (Appends-trans a b c (joined (log_lines names (front k past))) (log_line names t) out part)

-- ---- the entry at a place

tried-is : (r : Reply) (t : Tried) → tried_of r ≡ Some t → r ≡ reply.Attempted (attempt.Tried t)
tried-is (reply.Attempted (attempt.Tried s)) t e = ap (λ (u : Tried). reply.Attempted (attempt.Tried u)) (same_Some s t e)
tried-is (reply.Opened s) t e = absurd (none-some t e)
tried-is (reply.Closed s) t e = absurd (none-some t e)
tried-is reply.Done t e = absurd (none-some t e)
tried-is (reply.Sent s) t e = absurd (none-some t e)
tried-is (reply.Received s) t e = absurd (none-some t e)
tried-is (reply.Attempted (attempt.Idle restarted)) t e = absurd (none-some t e)
tried-is (reply.Refused s) t e = absurd (none-some t e)

-- An entry of a history, and the frame that was tried in it, if any.
pub record Seen (k : ℕ) (past : List Entry) (o : Option Tried) : Type 0 where
  pub entry : Entry
  pub read : entry ≡ get_or (reverse past) k entry
  pub tried : (t : Tried) → o ≡ Some t → entry.reply ≡ reply.Attempted (attempt.Tried t)
  pub never : ((t : Tried) → o ≡ Some t → ⊥) → (t : Tried) → entry.reply ≡ reply.Attempted (attempt.Tried t) → ⊥

pub seen : (k : ℕ) (past : List Entry) (o : Option Tried) → k < length past → o ≡ tried_in (slice_get (reverse past) k) → Seen k past o
seen k past o lt is =
    elim (slice_get_cases (reverse past) k).1 [
      | inl (e, inside, there, read) ↦
          let here : o ≡ tried_of e.reply = is ∙ ap tried_in there in
          record {
            entry = e;
            read = sym read;
            tried = λ t some. tried-is e.reply t (sym here ∙ some);
            never = λ none t tried. none t (here ∙ ap tried_of tried);
          }
      | inr (past_end, there) ↦ absurd (omega (arith, lt, past_end, length-reverse past))
    ]

-- The same for a list of entries, the oldest first.
pub seen_in : (k : ℕ) (entries : List Entry) (o : Option Tried) → k < length entries → o ≡ tried_in (slice_get entries k) → Seen k (reverse entries) o
seen_in k entries o lt is = seen k (reverse entries) o (omega (arith, length-reverse entries, lt)) (is ∙ ap (λ (es : List Entry). tried_in (slice_get es k)) (sym (reverse-reverse entries)))

-- ---- the log of blocks

-- The tape of a longer history continues the tape of its older part.
tape-join : (later past : List Entry) → tape (later ++ past) ≡ tape past ++ tape later
tape-join [] past = sym (append-nil (tape past))
tape-join (e ∷ later) past = ap (tape_after e.reply) (tape-join later past) ∙ after e.reply (tape past) (tape later)
  where
    after : (r : Reply) (base more : List Tried) → tape_after r (base ++ more) ≡ base ++ tape_after r more
    after (reply.Attempted (attempt.Tried t)) base more = append_assoc base more (t ∷ [])
    after (reply.Opened s) base more = refl
    after (reply.Closed s) base more = refl
    after reply.Done base more = refl
    after (reply.Sent s) base more = refl
    after (reply.Received s) base more = refl
    after (reply.Attempted (attempt.Idle restarted)) base more = refl
    after (reply.Refused s) base more = refl

lines-join : (names : List (List ℕ)) (block more : List Entry) → log_lines names (reverse (block ++ more)) ≡ log_lines names (reverse block) ++ log_lines names (reverse more)
lines-join names block more =
    ap (log_lines names) (reverse-append block more)
    ∙ ap (map (log_line names)) (tape-join (reverse more) (reverse block))
    ∙ map-append (log_line names) (tape (reverse block)) (tape (reverse more))

-- The lines of the blocks are the lines of all their entries.
pub blocks-log : (names : List (List ℕ)) (blocks : List (List Entry)) → log_lines names (reverse (entries_in blocks)) ≡ lines_of_blocks names blocks
blocks-log names [] = refl
blocks-log names (b ∷ blocks) = lines-join names b (entries_in blocks) ∙ ap (λ (ls : List (List ℕ)). log_lines names (reverse b) ++ ls) (blocks-log names blocks)
