use Rattle.std.proofs.Common.{◌≡◌, ◌↔◌, ℕ, ◌+◌, ◌<◌, ◌≤◌, Bool, IsTrue, List, [], ◌∷◌, ◌++◌, length, drop, take, reverse, refl, sym, ap, ◌∙◌, subst, arith}
use Rattle.std.proofs.Math.Seq.{drop-length, take-length}
use Rattle.std.proofs.lemmas.List.{length_push, length-reverse, reverse-append, drop-append-le, take-append-drop, take-append-le}
use Rattle.can_event.specs.declared.bus_config.BusConfig.{BusConfig}
use Rattle.can_event.specs.declared.entry.Entry.{Entry}
use Rattle.can_record.specs.Records.{Adds}
use Rattle.can_bus.specs.Lean.{record_of}
use Rattle.can_bus.specs.Long.{LongJournal, HasPlace, HasTail, IsLong}
use Rattle.can_bus.specs.State.{Parts}
use Rattle.can_record.specs.Journal.{IsLonger}
use Rattle.can_bus.proofs.Bounds.{short}

-- The tail of a long run's bus.

-- ---- the tail

-- one more entry in the tail
pub tail_more : {past longer tail tail' : List Entry} {handed : ℕ} (e : Entry) → HasTail past tail handed → longer ≡ e ∷ past → Adds tail e tail' → HasTail longer tail' handed
tail_more {past} {longer} {tail} {tail'} {handed} e has is adds =
    let more : length tail' ≡ length tail + 1 = ap length adds ∙ length_push tail e in
    let within : handed ≤ length (reverse past) = omega (arith, has.counted, length-reverse past) in
    subst (λ (h : List Entry). HasTail h tail' handed) (sym is) (record {
      counted = omega (arith, has.counted, more);
      rest = adds ∙ ap (λ (es : List Entry). es ++ e ∷ []) has.rest ∙ sym (drop-append-le handed (reverse past) (e ∷ []) within) ∙ ap (drop handed) (sym (reverse-append (e ∷ []) past));
    })

-- after all entries are handed out, an empty block is the tail
pub tail_taken : (past block : List Entry) (handed : ℕ) → block ≡ [] → handed ≡ length past → HasTail past block handed
tail_taken past block handed empty all =
    let none : length block ≡ 0 = ap length empty in
    record {
      counted = omega (arith, none, all);
      rest = empty ∙ sym (drop-length (reverse past)) ∙ ap (λ (n : ℕ). drop n (reverse past)) (length-reverse past ∙ sym all);
    }

-- ---- the entries that were handed out

-- a new entry is not among the entries that were handed out
pub out_still : {past longer tail : List Entry} {handed : ℕ} (e : Entry) → HasTail past tail handed → longer ≡ e ∷ past → take handed (reverse longer) ≡ take handed (reverse past)
out_still {past} {longer} {tail} {handed} e has is =
    let within : handed ≤ length (reverse past) = omega (arith, has.counted, length-reverse past) in
    ap (λ (h : List Entry). take handed (reverse h)) is ∙ ap (take handed) (reverse-append (e ∷ []) past) ∙ take-append-le handed (reverse past) (e ∷ []) within

-- after the tail is handed out too, it follows the entries that were handed out before
pub out_more : {past tail : List Entry} {handed all : ℕ} → HasTail past tail handed → all ≡ length past → take all (reverse past) ≡ take handed (reverse past) ++ tail
out_more {past} {tail} {handed} {all} has is =
    ap (λ (n : ℕ). take n (reverse past)) (is ∙ sym (length-reverse past))
    ∙ take-length (reverse past)
    ∙ sym (take-append-drop handed (reverse past))
    ∙ ap (λ (es : List Entry). take handed (reverse past) ++ es) (sym has.rest)

-- ---- the results of the methods that read the remainder

-- the number of entries fits in 64 bits
pub counted_short : {c : BusConfig} {past : List Entry} {parts : Parts} {tail : List Entry} {handed : ℕ} → IsLong c past parts tail handed → length past ≤ 4294967294
counted_short {c} {past} {parts} long = short (record_of c past) parts long.kept

-- ---- facts about the bus from its fields

-- the tail has memory for one more entry
pub place_in : {j k : LongJournal} {tail : List Entry} → j ≡ k → HasPlace k → HasTail j.history tail j.handed → length tail < j.room
place_in {j} {k} {tail} view place has =
    let here : HasPlace j = subst HasPlace (sym view) place in
    omega (arith, here, has.counted)

pub full_in : {j k : LongJournal} {full : Bool} → j ≡ k → IsTrue full ↔ (k.config.limit ≤ length k.history) → IsTrue full ↔ (j.config.limit ≤ length j.history)
full_in {j} {k} {full} view test = subst (λ (x : LongJournal). IsTrue full ↔ (x.config.limit ≤ length x.history)) (sym view) test

pub room_in : {j k : LongJournal} → j ≡ k → length k.history < k.config.limit → length j.history < j.config.limit
room_in view room = subst (λ (x : LongJournal). length x.history < x.config.limit) (sym view) room

-- the history of the bus with one more entry
pub longer_by : (c : BusConfig) (past new : List Entry) (e : Entry) → new ≡ e ∷ past → IsLonger (record_of c past) e (record_of c new)
longer_by c past new e is = record { config = refl; history = is; room = omega arith }
