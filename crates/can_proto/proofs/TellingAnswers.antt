use Rattle.std.proofs.Common.{◌≡◌, ℕ, suc, ◌+◌, ◌/◌, ◌%◌, ◌^◌, ◌<◌, ◌==◌, ◌||◌, nat_le, if◌then◌else◌, Bool, true, false, List, [], ◌∷◌, ◌++◌, length, get_or, drop, refl, sym, ap, ◌∙◌, arith, append_assoc, codes}
use Rattle.std.specs.Fmt.{decimal}
use Rattle.std.specs.List.{All}
use Rattle.std.proofs.lemmas.Fmt.{decimal_injective}
use Rattle.std.proofs.lemmas.List.{append_cancel_right}
use Rattle.can_frame.specs.Frames.{Identifier, Payload, ErrorMessage}
use Rattle.can_frame.specs.Frames.Payload.{Data, Remote, Fd}
use Rattle.can_frame.specs.FrameText.{digits, pairs, id_text}
use Rattle.can_frame.specs.declared.item.Item.{Item}
use Rattle.can_frame.specs.declared.item.Item.TheVariants as item
use Rattle.can_confine.specs.Confinement.{ErrorCounts, state_of}
use Rattle.can_confine.specs.declared.state.State.{State}
use Rattle.can_confine.specs.declared.state.State.TheVariants.{Active, Warning, Passive, Off, Down}
use Rattle.can_event.specs.declared.stats.SocketStats.{SocketStats}
use Rattle.can_event.specs.declared.stats.IfaceStats.{IfaceStats}
use Rattle.can_proto.specs.declared.answer.Answer.{Answer}
use Rattle.can_proto.specs.declared.answer.BusLoad.{BusLoad}
use Rattle.can_proto.specs.declared.answer.Answer.TheVariants.{Greeting, Done, Echo, Sent, Stats, Status, Load, Faults, Closing, Refused}
use Rattle.can_proto.specs.declared.answer.Origin.{Origin}
use Rattle.can_proto.specs.declared.answer.Cause.{Cause}
use Rattle.can_proto.specs.declared.answer.Cause.TheVariants as cause
use Rattle.can_proto.specs.Causes.{cause_text}
use Rattle.can_proto.specs.Verbs.{is_word}
use Rattle.can_frame.specs.Moments.{moment_text}
use Rattle.can_proto.specs.Spelling.{class_text, body_text, frame_front, error_text, item_text, origin_text, item_text_from, stats_text, state_word, status_text, load_text, answer_text, told_counts, FitsIn64, AreAlike}
use Rattle.can_proto.proofs.Cuts.{clear, clear-append, marked-left, marked-right, cut}
use Rattle.can_proto.proofs.Numerals.{clear-decimal}
use Rattle.can_proto.proofs.Telling.{one-cause}
use Rattle.can_proto.proofs.TellingItems.{is_space, is_point, no-space, no-point}

-- The text of a reply determines it.

-- a text followed by counts, each with a space before it
abbrev behind : List ℕ → List ℕ → List ℕ
behind text [] = text
behind text (n ∷ ns) = behind ((text ++ 32 ∷ []) ++ decimal n) ns

-- counts, each with a space after it, and the closing mark
abbrev row : List ℕ → List ℕ
row [] = 62 ∷ []
row (n ∷ ns) = decimal n ++ 32 ∷ row ns

row-behind : (text ns : List ℕ) → behind text ns ++ codes " >" ≡ text ++ 32 ∷ row ns
row-behind text [] = refl
row-behind text (n ∷ ns) =
    row-behind ((text ++ 32 ∷ []) ++ decimal n) ns
    ∙ append_assoc (text ++ 32 ∷ []) (decimal n) (32 ∷ row ns)
    ∙ append_assoc text (32 ∷ []) (decimal n ++ 32 ∷ row ns)

abbrev AreSmall : List ℕ → Type 0
AreSmall ns = All (λ n. n < 2 ^ 64) ns

same-row : (xs ys : List ℕ) → AreSmall xs → AreSmall ys → length xs ≡ length ys → row xs ≡ row ys → xs ≡ ys
same-row [] [] hx hy l e = refl
same-row [] (y ∷ ys) hx hy l e = absurd (omega (arith, l))
same-row (x ∷ xs) [] hx hy l e = absurd (omega (arith, l))
same-row (x ∷ xs) (y ∷ ys) hx hy l e =
    let fx : x < 2 ^ 64 = hx 0 x (omega arith) in
    let fy : y < 2 ^ 64 = hy 0 y (omega arith) in
    let parts = cut is_space 32 (decimal x) (decimal y) (row xs) (row ys) refl (clear-decimal is_space no-space x fx) (clear-decimal is_space no-space y fy) e in
    let one = decimal_injective x y fx fy parts.0 in
    let again = same-row xs ys (λ k d lt. hx (suc k) d (omega arith)) (λ k d lt. hy (suc k) d (omega arith)) (omega (arith, l)) parts.1 in
    ap (λ (n : ℕ). n ∷ xs) one ∙ ap (λ (ns : List ℕ). y ∷ ns) again

same-behind : (x y : ℕ) (xs ys : List ℕ) → AreSmall (x ∷ xs) → AreSmall (y ∷ ys) → length xs ≡ length ys → behind (decimal x) xs ++ codes " >" ≡ behind (decimal y) ys ++ codes " >" → x ∷ xs ≡ y ∷ ys
same-behind x y xs ys hx hy l e = same-row (x ∷ xs) (y ∷ ys) hx hy (omega (arith, l)) (sym (row-behind (decimal x) xs) ∙ e ∙ row-behind (decimal y) ys)

-- the word for a state has no space and no decimal point
clear-state : (s : State) → (clear is_space (state_word s) ≡ true) × (clear is_point (state_word s) ≡ true)
clear-state Active = (refl, refl)
clear-state Warning = (refl, refl)
clear-state Passive = (refl, refl)
clear-state Off = (refl, refl)
clear-state Down = (refl, refl)

-- the fourth and the seventh byte identify the kind of reply, except `ack`, which the third byte identifies
abbrev kind : List ℕ → ℕ
kind text = if get_or text 2 0 == 97 then 0 else get_or text 3 0 + get_or text 6 0

abbrev mark_of : Answer → ℕ
mark_of Greeting = 105
mark_of Done = 107
mark_of Echo = 131
mark_of (Sent number) = 0
mark_of (Stats s i) = 231
mark_of (Status c) = 233
mark_of (Load l) = 143
mark_of (Faults left) = 213
mark_of (Closing c) = 209
mark_of (Refused why) = 228

marked : (a : Answer) → kind (answer_text a) ≡ mark_of a
marked Greeting = refl
marked Done = refl
marked Echo = refl
marked (Sent number) = refl
marked (Stats s i) = refl
marked (Status c) = refl
marked (Load l) = refl
marked (Faults left) = refl
marked (Closing c) = refl
marked (Refused why) = refl

same-mark : (a b : Answer) → answer_text a ≡ answer_text b → mark_of a ≡ mark_of b
same-mark a b e = sym (marked a) ∙ ap kind e ∙ marked b

same-stats : (s t : SocketStats) (i j : IfaceStats) → AreSmall (told_counts s i) → AreSmall (told_counts t j) → stats_text s i ≡ stats_text t j → told_counts s i ≡ told_counts t j
same-stats s t i j hs ht e = same-behind s.queued t.queued (s.dropped ∷ s.taken ∷ i.sent ∷ i.done ∷ i.waiting ∷ i.lost ∷ i.refused ∷ []) (t.dropped ∷ t.taken ∷ j.sent ∷ j.done ∷ j.waiting ∷ j.lost ∷ j.refused ∷ []) hs ht refl (ap (drop 8) e)

-- the word for a state is not `down` unless the interface is down
not-down : (off passive warning : Bool) → is_word (state_word (if off then Off else if passive then Passive else if warning then Warning else Active)) (codes "down") ≡ false
not-down true passive warning = refl
not-down false true warning = refl
not-down false false true = refl
not-down false false false = refl

down-said : (tec rec : ℕ) (down : Bool) → is_word (state_word (state_of (record { tec = tec; rec = rec; down = down }))) (codes "down") ≡ down
down-said tec rec true = refl
down-said tec rec false = not-down (nat_le 256 tec) (nat_le 128 tec || nat_le 128 rec) (nat_le 96 tec || nat_le 96 rec)

same-status : (c d : ErrorCounts) → AreSmall (c.tec ∷ c.rec ∷ []) → AreSmall (d.tec ∷ d.rec ∷ []) → status_text c ≡ status_text d → c ≡ d
same-status c d hc hd e =
    let one = state_word (state_of c) in
    let other = state_word (state_of d) in
    let rows : one ++ 32 ∷ row (c.tec ∷ c.rec ∷ []) ≡ other ++ 32 ∷ row (d.tec ∷ d.rec ∷ []) =
    sym (row-behind one (c.tec ∷ c.rec ∷ [])) ∙ ap (drop 9) e ∙ row-behind other (d.tec ∷ d.rec ∷ []) in
    let parts = cut is_space 32 one other (row (c.tec ∷ c.rec ∷ [])) (row (d.tec ∷ d.rec ∷ [])) refl (clear-state (state_of c)).0 (clear-state (state_of d)).0 rows in
    let down : c.down ≡ d.down = sym (down-said c.tec c.rec c.down) ∙ ap (λ (word : List ℕ). is_word word (codes "down")) parts.0 ∙ down-said d.tec d.rec d.down in
    ap (λ (l : List ℕ). record { tec = get_or l 0 0; rec = get_or l 1 0; down = c.down }) (same-row (c.tec ∷ c.rec ∷ []) (d.tec ∷ d.rec ∷ []) hc hd refl parts.1)
    ∙ ap (λ (b : Bool). record { tec = d.tec; rec = d.rec; down = b }) down

same-load : (l m : BusLoad) → AreSmall (l.permille ∷ l.micros ∷ l.bitrate ∷ l.dbitrate ∷ []) → AreSmall (m.permille ∷ m.micros ∷ m.bitrate ∷ m.dbitrate ∷ []) → load_text l ≡ load_text m → l ≡ m
same-load l m hl hm e =
    let h = same-behind l.permille m.permille (l.micros ∷ l.bitrate ∷ l.dbitrate ∷ []) (m.micros ∷ m.bitrate ∷ m.dbitrate ∷ []) hl hm refl (ap (drop 7) e) in
    ap (λ (ns : List ℕ). record { permille = get_or ns 0 0; micros = get_or ns 1 0; bitrate = get_or ns 2 0; dbitrate = get_or ns 3 0 }) h

pub one-answer : (one other : Answer) → FitsIn64 one → FitsIn64 other → answer_text one ≡ answer_text other → AreAlike one other
one-answer Greeting Greeting ha hb e = refl
one-answer Done Done ha hb e = refl
one-answer Echo Echo ha hb e = refl
one-answer (Sent m) (Sent n) ha hb e = ap (λ (l : List ℕ). Sent (get_or l 0 0)) (same-behind m n [] [] ha hb refl (ap (drop 6) e))
one-answer (Stats s i) (Stats t j) ha hb e = same-stats s t i j ha hb e
one-answer (Status c) (Status d) ha hb e = ap Status (same-status c d ha hb e)
one-answer (Load l) (Load m) ha hb e = ap Load (same-load l m ha hb e)
one-answer (Faults m) (Faults n) ha hb e = ap (λ (l : List ℕ). Faults (get_or l 0 0)) (same-behind m n [] [] ha hb refl (ap (drop 9) e))
one-answer (Closing c) (Closing d) ha hb e =
    let h = same-behind c.unread d.unread (c.dropped ∷ []) (d.dropped ∷ []) ha hb refl (ap (drop 9) e) in
    ap (λ (l : List ℕ). Closing (record { unread = get_or l 0 0; dropped = get_or l 1 0 })) h
one-answer (Refused a) (Refused b) ha hb e = ap Refused (one-cause a b (append_cancel_right (cause_text a) (cause_text b) (codes " >") (ap (drop 8) e)))
one-answer a b ha hb e = let k = same-mark a b e in absurd (omega (arith, k))

-- a timestamp contains a decimal point, and no reply does

clear-row : (ns : List ℕ) → AreSmall ns → clear is_point (row ns) ≡ true
clear-row [] h = refl
clear-row (n ∷ ns) h = clear-append is_point (decimal n) (32 ∷ row ns) (clear-decimal is_point no-point n (h 0 n (omega arith))) (clear-row ns (λ k d lt. h (suc k) d (omega arith)))

clear-behind : (n : ℕ) (ns : List ℕ) → AreSmall (n ∷ ns) → clear is_point (behind (decimal n) ns ++ codes " >") ≡ true
clear-behind n ns h = ap (clear is_point) (row-behind (decimal n) ns) ∙ clear-row (n ∷ ns) h

clear-cause : (c : Cause) → clear is_point (cause_text c ++ codes " >") ≡ true
clear-cause cause.NoMemory = refl
clear-cause c = refl

clear-answer : (a : Answer) → FitsIn64 a → clear is_point (answer_text a) ≡ true
clear-answer Greeting h = refl
clear-answer Done h = refl
clear-answer Echo h = refl
clear-answer (Sent number) h = clear-behind number [] h
clear-answer (Stats s i) h = clear-behind s.queued (s.dropped ∷ s.taken ∷ i.sent ∷ i.done ∷ i.waiting ∷ i.lost ∷ i.refused ∷ []) h
clear-answer (Status c) h =
    let word = state_word (state_of c) in
    ap (clear is_point) (row-behind word (c.tec ∷ c.rec ∷ [])) ∙ clear-append is_point word (32 ∷ row (c.tec ∷ c.rec ∷ [])) (clear-state (state_of c)).1 (clear-row (c.tec ∷ c.rec ∷ []) h)
clear-answer (Load l) h = clear-behind l.permille (l.micros ∷ l.bitrate ∷ l.dbitrate ∷ []) h
clear-answer (Faults left) h = clear-behind left [] h
clear-answer (Closing c) h = clear-behind c.unread (c.dropped ∷ []) h
clear-answer (Refused why) h = clear-cause why

-- a text with a timestamp after a word contains a decimal point
pointed : (front : List ℕ) (m : ℕ) (rest : List ℕ) → clear is_point ((front ++ moment_text m) ++ rest) ≡ false
pointed front m rest =
    marked-left is_point (front ++ moment_text m) rest
    (marked-right is_point front (moment_text m)
    (marked-right is_point (decimal (m / 1000000)) (46 ∷ digits 10 6 (m % 1000000)) refl))

-- a text with another word after the timestamp also contains a decimal point
pointed-more : (front : List ℕ) (m : ℕ) (word : List ℕ) → clear is_point (((front ++ moment_text m) ++ 32 ∷ []) ++ word) ≡ false
pointed-more front m word = marked-left is_point ((front ++ moment_text m) ++ 32 ∷ []) word (pointed front m (32 ∷ []))

pointed-front : (id : Identifier) (p : Payload) (m : ℕ) (rest : List ℕ) → clear is_point (frame_front (record { id = id; payload = p }) m ++ rest) ≡ false
pointed-front id (Data bytes) m rest = marked-left is_point (body_text (record { id = id; payload = Data bytes }) m) rest (pointed-more (id_text id ++ 32 ∷ []) m (pairs bytes))
pointed-front id (Fd flags bytes) m rest = by flags.brs flags.esi
  where
    body : clear is_point (body_text (record { id = id; payload = Fd flags bytes }) m ++ rest) ≡ false
    body = marked-left is_point (body_text (record { id = id; payload = Fd flags bytes }) m) rest (pointed-more (id_text id ++ 32 ∷ []) m (pairs bytes))

    by : (brs esi : Bool) → clear is_point (frame_front (record { id = id; payload = Fd (record { brs = brs; esi = esi }) bytes }) m ++ rest) ≡ false
    by true true = body
    by true false = body
    by false true = body
    by false false = body
pointed-front id (Remote len) m rest = marked-left is_point ((((id_text id ++ 32 ∷ []) ++ moment_text m) ++ 32 ∷ []) ++ decimal len) rest (pointed-more (id_text id ++ 32 ∷ []) m (decimal len))

pointed-error : (errdata : Bool) (e : ErrorMessage) (m : ℕ) → clear is_point (error_text errdata e m) ≡ false
pointed-error true e m = marked-left is_point ((((class_text e.class ++ 32 ∷ []) ++ moment_text m) ++ 32 ∷ []) ++ pairs e.bytes) (codes " >") (pointed-more (class_text e.class ++ 32 ∷ []) m (pairs e.bytes))
pointed-error false e m = pointed (class_text e.class ++ 32 ∷ []) m (codes " >")

pointed-item : (errdata : Bool) (i : Item) (m : ℕ) → clear is_point (item_text errdata i m) ≡ false
pointed-item errdata (item.Data f) m = pointed-front f.id f.payload m (codes " >")
pointed-item errdata (item.Error e) m = pointed-error errdata e m

pointed-from : (errdata : Bool) (o : Origin) (i : Item) (m : ℕ) → clear is_point (item_text_from errdata o i m) ≡ false
pointed-from errdata o (item.Data f) m = marked-left is_point (frame_front f m ++ origin_text o) (codes " >") (pointed-front f.id f.payload m (origin_text o))
pointed-from errdata o (item.Error e) m = pointed-error errdata e m

pub no-item : (answer : Answer) (errdata : Bool) (i : Item) (m : ℕ) → FitsIn64 answer → answer_text answer ≡ item_text errdata i m → ⊥
no-item answer errdata i m h e =
    let one = clear-answer answer h in
    let other = pointed-item errdata i m in
    let both = ap (clear is_point) e in
    cc

pub no-item-from : (answer : Answer) (errdata : Bool) (o : Origin) (i : Item) (m : ℕ) → FitsIn64 answer → answer_text answer ≡ item_text_from errdata o i m → ⊥
no-item-from answer errdata o i m h e =
    let one = clear-answer answer h in
    let other = pointed-from errdata o i m in
    let both = ap (clear is_point) e in
    cc
