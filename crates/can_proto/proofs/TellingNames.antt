use Rattle.std.proofs.Common.{◌≡◌, ℕ, suc, Bool, true, false, List, [], ◌∷◌, ◌++◌, drop, sym, ap, ◌∙◌, arith, append_assoc, refl}
use Rattle.std.specs.List.{All}
use Rattle.std.proofs.lemmas.List.{append_cancel_right}
use Rattle.can_frame.specs.Frames.{Identifier, Payload}
use Rattle.can_frame.specs.Frames.Payload.{Data, Remote, Fd}
use Rattle.can_frame.specs.declared.item.Item.{Item}
use Rattle.can_frame.specs.declared.item.Item.TheVariants as item
use Rattle.can_proto.specs.declared.answer.Answer.{Answer}
use Rattle.can_proto.specs.declared.answer.Answer.TheVariants.{Greeting, Done, Echo, Sent, Stats, Status, Load, Faults, Closing, Refused}
use Rattle.can_proto.specs.declared.answer.Origin.{Origin}
use Rattle.can_proto.specs.Words.{words_of}
use Rattle.can_proto.specs.CommandSpelling.{IsWord}
use Rattle.can_proto.specs.Spelling.{item_text, item_text_from, origin_text, frame_front, answer_text, spaced, interfaces_text}
use Rattle.can_proto.proofs.ReadingBack.{AreWords, next-word, clear-front}
use Rattle.can_proto.proofs.TellingItems.{third}

-- The reply to `interfaces` determines the names.

are-words : (names : List (List ℕ)) → All IsWord names → AreWords names
are-words [] h = tt
are-words (n ∷ ns) h =
    let word : IsWord n = h 0 n (omega arith) in
    (clear-front n word.1, word.0, are-words ns (λ k d lt. h (suc k) d (omega arith)))

-- the bytes after the first space
tail : List (List ℕ) → List ℕ
tail [] = 62 ∷ []
tail (n ∷ ns) = (n ++ spaced ns) ++ 32 ∷ 62 ∷ []

first-space : (names : List (List ℕ)) → spaced names ++ 32 ∷ 62 ∷ [] ≡ 32 ∷ tail names
unfolding tail
first-space [] = refl
first-space (n ∷ ns) = refl

words-spaced : (names : List (List ℕ)) → AreWords names → words_of (spaced names ++ 32 ∷ 62 ∷ []) ≡ names ++ (62 ∷ []) ∷ []
words-spaced [] h = refl
words-spaced (n ∷ ns) h =
    ap words_of (append_assoc n (spaced ns) (32 ∷ 62 ∷ []))
    ∙ ap (λ (rest : List ℕ). words_of (n ++ rest)) (first-space ns)
    ∙ next-word n (tail ns) h.0 h.1
    ∙ ap (λ (ws : List (List ℕ)). n ∷ ws) (ap words_of (sym (first-space ns)) ∙ words-spaced ns h.2)

pub one-list : (one other : List (List ℕ)) → All IsWord one → All IsWord other → interfaces_text one ≡ interfaces_text other → one ≡ other
one-list one other ho hp e =
    append_cancel_right one other ((62 ∷ []) ∷ [])
    (sym (words-spaced one (are-words one ho)) ∙ ap (λ (text : List ℕ). words_of (drop 12 text)) e ∙ words-spaced other (are-words other hp))

-- the third byte distinguishes the text from other replies and from items

pub no-answer : (a : Answer) (names : List (List ℕ)) → answer_text a ≡ interfaces_text names → ⊥
unfolding third
no-answer Greeting names e = let k : 104 ≡ 105 = ap third e in omega (arith, k)
no-answer Done names e = let k : 111 ≡ 105 = ap third e in omega (arith, k)
no-answer Echo names e = let k : 101 ≡ 105 = ap third e in omega (arith, k)
no-answer (Sent number) names e = let k : 97 ≡ 105 = ap third e in omega (arith, k)
no-answer (Stats s i) names e = let k : 115 ≡ 105 = ap third e in omega (arith, k)
no-answer (Status c) names e = let k : 115 ≡ 105 = ap third e in omega (arith, k)
no-answer (Load l) names e = let k : 108 ≡ 105 = ap third e in omega (arith, k)
no-answer (Faults left) names e = let k : 102 ≡ 105 = ap third e in omega (arith, k)
no-answer (Closing c) names e = let k : 99 ≡ 105 = ap third e in omega (arith, k)
no-answer (Refused why) names e = let k : 101 ≡ 105 = ap third e in omega (arith, k)

no-frame : (id : Identifier) (p : Payload) (m : ℕ) (rest : List ℕ) (names : List (List ℕ)) → frame_front (record { id = id; payload = p }) m ++ rest ≡ interfaces_text names → ⊥
unfolding third
no-frame id (Data bytes) m rest names e = let k : 102 ≡ 105 = ap third e in omega (arith, k)
no-frame id (Fd flags bytes) m rest names e = by flags.brs flags.esi e
  where
    by : (brs esi : Bool) → frame_front (record { id = id; payload = Fd (record { brs = brs; esi = esi }) bytes }) m ++ rest ≡ interfaces_text names → ⊥
    by true true h = let k : 102 ≡ 105 = ap third h in omega (arith, k)
    by true false h = let k : 102 ≡ 105 = ap third h in omega (arith, k)
    by false true h = let k : 102 ≡ 105 = ap third h in omega (arith, k)
    by false false h = let k : 102 ≡ 105 = ap third h in omega (arith, k)
no-frame id (Remote len) m rest names e = let k : 114 ≡ 105 = ap third e in omega (arith, k)

pub no-item : (errdata : Bool) (i : Item) (m : ℕ) (names : List (List ℕ)) → item_text errdata i m ≡ interfaces_text names → ⊥
unfolding third
no-item errdata (item.Data f) m names e = no-frame f.id f.payload m (32 ∷ 62 ∷ []) names e
no-item true (item.Error error) m names e = let k : 101 ≡ 105 = ap third e in omega (arith, k)
no-item false (item.Error error) m names e = let k : 101 ≡ 105 = ap third e in omega (arith, k)

pub no-item-from : (errdata : Bool) (o : Origin) (i : Item) (m : ℕ) (names : List (List ℕ)) → item_text_from errdata o i m ≡ interfaces_text names → ⊥
no-item-from errdata o (item.Data f) m names e = no-frame f.id f.payload m (origin_text o ++ 32 ∷ 62 ∷ []) names (sym (append_assoc (frame_front f m) (origin_text o) (32 ∷ 62 ∷ [])) ∙ e)
no-item-from errdata o (item.Error error) m names e = no-item errdata (item.Error error) m names e
