use Rattle.std.proofs.Common.{◌≡◌, ℕ, ◌-◌, ◌/◌, ◌^◌, ◌<◌, ◌≤◌, ◌&&◌, Bool, true, false, cond, eqb, leb, ltb, List, length, take, drop, slice_index, Option, Some, None, Result, Ok, Err, refl, sym, ap, subst, ◌∙◌, arith}
use Rattle.std.specs.Option.{option_map, option_and_then}
use Rattle.std.specs.Result.{result_ok}
use Rattle.hex.specs.Hex.{IsBytes, decode_sized}
use Rattle.hex.proofs.HexLemmas.{decode_sized-twice, decode_sized-ok, decode_of-ok}
use Rattle.can_frame.specs.Frames.{Identifier, IsIdentifier, Payload, is_fd_length}
use Rattle.can_frame.specs.Frames.Payload.{Data, Remote, Fd}
use Rattle.can_frame.specs.declared.item.Item.{Item}
use Rattle.can_frame.specs.declared.item.Item.TheVariants as item
use Rattle.can_frame.specs.FrameText.{IsPayload, IsItem}
use Rattle.can_frame.specs.Numbers.{number_in}
use Rattle.can_frame.specs.FrameGuess.{bytes_in, has_byte_at, request_in, data_in, fd_data_in, flags_in, fd_in, payload_in, frame_in, error_in, standard_in, long_in, short_item_in, long_item_in, item_in}

-- Every guess is a valid item.

map_some : {A B : Type 0} (f : A → B) (o : Option A) (y : B) → option_map f o ≡ Some y → (x : A) × (o ≡ Some x) × (Some (f x) ≡ Some y)
map_some f (Some x) y h = (x, refl, h)
map_some f None y h = absurd cc

then_some : {A B : Type 0} (f : A → Option B) (o : Option A) (y : B) → option_and_then f o ≡ Some y → (x : A) × (o ≡ Some x) × (f x ≡ Some y)
then_some f (Some x) y h = (x, refl, h)
then_some f None y h = absurd cc

if_some : {A : Type 0} (t : Bool) (o : Option A) (y : A) → cond t o None ≡ Some y → (t ≡ true) × (o ≡ Some y)
if_some true o y h = (refl, h)
if_some false o y h = absurd cc

is_ok : {A E : Type 0} (r : Result A E) (y : A) → result_ok r ≡ Some y → r ≡ Ok y
is_ok (Ok x) y h = cc
is_ok (Err e) y h = absurd cc

below : (a b : ℕ) → ltb a b ≡ true → a < b
below a b h = grind arith

at_most : (a b : ℕ) → leb a b ≡ true → a ≤ b
at_most a b h = grind arith

bytes-good : (n : ℕ) (text bytes : List ℕ) → bytes_in n text ≡ Some bytes → (length bytes ≡ n) × IsBytes bytes
unfolding bytes_in
bytes-good n text bytes h =
    let ok = is_ok (decode_sized text n) bytes h in
    let long = decode_sized-ok text n bytes ok in
    let all = decode_of-ok text bytes (sym (decode_sized-twice text n long) ∙ ok) in
    (omega (arith, long, all.2), all.3)

request-good : (text : List ℕ) (len : ℕ) → request_in text ≡ Some len → len ≤ 8
unfolding request_in
request-good text len h = small (length text) (slice_index text 0) h
  where
    small : (n d : ℕ) → cond (eqb n 0) (Some 0) (cond (leb 48 d && leb d 56) (Some (d - 48)) None) ≡ Some len → len ≤ 8
    small n d e = grind arith

data-good : (text bytes : List ℕ) → data_in text ≡ Some bytes → (length bytes ≤ 8) × IsBytes bytes
unfolding data_in
data-good text bytes h =
    let fits = if_some (leb (length text / 2) 8) _ bytes h in
    let all = bytes-good (length text / 2) text bytes fits.1 in
    (omega (arith, at_most _ _ fits.0, all.0), all.1)

fd-data-good : (text bytes : List ℕ) → fd_data_in text ≡ Some bytes → (is_fd_length (length bytes) ≡ true) × IsBytes bytes
unfolding fd_data_in
fd-data-good text bytes h =
    let fits = if_some (is_fd_length (length text / 2)) _ bytes h in
    let all = bytes-good (length text / 2) text bytes fits.1 in
    (ap is_fd_length all.0 ∙ fits.0, all.1)

one-payload : (x y : Payload) → Some x ≡ Some y → x ≡ y
one-payload x y e = cc

fd-good : (text : List ℕ) (p : Payload) → fd_in text ≡ Some p → IsPayload p
unfolding fd_in
fd-good text p h =
    let flagged = then_some _ (flags_in text) p h in
    let found = map_some (Fd flagged.0) (fd_data_in (drop 1 text)) p flagged.2 in
    subst IsPayload (one-payload (Fd flagged.0 found.0) p found.2) (fd-data-good (drop 1 text) found.0 found.1)

payload-good : (text : List ℕ) (p : Payload) → payload_in text ≡ Some p → IsPayload p
unfolding payload_in
payload-good text p h = by_mark (has_byte_at 82 0 text) (has_byte_at 35 0 text) h
  where
    by_mark : (remote fd : Bool) → cond remote (option_map Remote (request_in (drop 1 text))) (cond fd (fd_in (drop 1 text)) (option_map Data (data_in text))) ≡ Some p → IsPayload p
    by_mark true fd e =
        let found = map_some Remote (request_in (drop 1 text)) p e in
        subst IsPayload (one-payload (Remote found.0) p found.2) (request-good (drop 1 text) found.0 found.1)
    by_mark false true e = fd-good (drop 1 text) p e
    by_mark false false e =
        let found = map_some Data (data_in text) p e in
        subst IsPayload (one-payload (Data found.0) p found.2) (data-good text found.0 found.1)

is_one : (x y : Item) → Some x ≡ Some y → x ≡ y
is_one x y e = cc

frame-good : (id : Identifier) (text : List ℕ) (i : Item) → IsIdentifier id → frame_in id text ≡ Some i → IsItem i
unfolding frame_in
frame-good id text i fits h =
    let found = map_some (λ payload. item.Data (record { id = id; payload = payload })) (payload_in text) i h in
    subst IsItem (is_one (item.Data (record { id = id; payload = found.0 })) i found.2) (fits, payload-good text found.0 found.1)

error-good : (class : ℕ) (text : List ℕ) (i : Item) → error_in class text ≡ Some i → IsItem i
unfolding error_in
error-good class text i h =
    let fits = if_some (ltb class (2 ^ 29)) _ i h in
    let found = map_some (λ bytes. item.Error (record { class = class; bytes = bytes })) (bytes_in 8 text) i fits.1 in
    let all = bytes-good 8 text found.0 found.1 in
    subst IsItem (is_one (item.Error (record { class = class; bytes = found.0 })) i found.2) (below _ _ fits.0, all.0, all.1)

standard-good : (n : ℕ) (text : List ℕ) (i : Item) → standard_in n text ≡ Some i → IsItem i
unfolding standard_in
standard-good n text i h = let fits = if_some (ltb n (2 ^ 11)) _ i h in frame-good (record { extended = false; number = n }) text i (below _ _ fits.0) fits.1

long-good : (n : ℕ) (text : List ℕ) (i : Item) → long_in n text ≡ Some i → IsItem i
unfolding long_in
long-good n text i h = by_mark (ltb n (2 ^ 29)) refl h
  where
    by_mark : (t : Bool) → ltb n (2 ^ 29) ≡ t → cond t (frame_in (record { extended = true; number = n }) text) (error_in (n - 2 ^ 29) text) ≡ Some i → IsItem i
    by_mark true is e = frame-good (record { extended = true; number = n }) text i (below _ _ is) e
    by_mark false is e = error-good (n - 2 ^ 29) text i e

pub item-good : (text : List ℕ) (i : Item) → item_in text ≡ Some i → IsItem i
unfolding item_in short_item_in long_item_in
item-good text i h = by_mark (has_byte_at 35 3 text) (has_byte_at 35 8 text) h
  where
    by_mark : (three eight : Bool) → cond three (short_item_in text) (cond eight (long_item_in text) None) ≡ Some i → IsItem i
    by_mark true eight e = let found = then_some _ (number_in 16 3 (take 3 text)) i e in standard-good found.0 (drop 4 text) i found.2
    by_mark false true e = let found = then_some _ (number_in 16 8 (take 8 text)) i e in long-good found.0 (drop 9 text) i found.2
    by_mark false false e = absurd cc
