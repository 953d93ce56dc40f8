-- The number of replies that a piece may need.
use Rattle.std.proofs.Common.{◌≡◌, ℕ, ◌+◌, ◌*◌, ◌≤◌, List, [], ◌∷◌, ◌++◌, length, cond, refl, ap, arith, length-append}
use Rattle.std.proofs.lemmas.List.Sums.{sum_by-append, sum_by-cons}
use Rattle.can_proto.specs.declared.message.Incoming.{Incoming}
use Rattle.can_proto.specs.Messages.{is_open_mark, run_of, given_by, messages_of, left_by, kept_of}
use Rattle.can_dialog.specs.Sessions.{messages_begun}

begun-append : (a b : List ℕ) → messages_begun (a ++ b) ≡ messages_begun a + messages_begun b
begun-append a b = sum_by-append (λ x. cond (is_open_mark x) 1 0) a b

begun-cons : (b : ℕ) (bs : List ℕ) → messages_begun (b ∷ bs) ≡ cond (is_open_mark b) 1 0 + messages_begun bs
begun-cons b bs = sum_by-cons (λ x. cond (is_open_mark x) 1 0) b bs

one : (bytes : List ℕ) → length (given_by bytes) ≤ 1
one bytes = grind arith

few : (bytes : List ℕ) → length (messages_of bytes) ≤ messages_begun bytes
few [] = omega arith
few (x ∷ bytes) = let again = few bytes in grind (arith, again, one bytes, begun-cons x bytes, length-append (given_by bytes) (messages_of bytes))

none : (bytes : List ℕ) → messages_begun (run_of bytes) ≡ 0
none [] = refl
none (x ∷ bytes) = let again = none bytes in grind (arith, again, begun-cons x (run_of bytes))

left : (bytes : List ℕ) → messages_begun (left_by bytes) ≤ 1
left bytes = grind (arith, none bytes, begun-cons 60 (run_of bytes))

-- at most one message begins in the kept text
pub kept_few : (bytes : List ℕ) → messages_begun (kept_of bytes) ≤ 1
kept_few [] = omega arith
kept_few (x ∷ bytes) = let again = kept_few bytes in grind (arith, again, left bytes)

-- at most one more message ends in a piece than begins in it: the message that began before the piece
pub enough : (kept piece : List ℕ) (items : List Incoming) (room : ℕ) → messages_begun kept ≤ 1 → items ≡ messages_of (kept ++ piece) → (messages_begun piece + 1) * 256 ≤ room → length items * 256 ≤ room
enough kept piece items room one is h = omega (arith, ap length is, few (kept ++ piece), begun-append kept piece)
