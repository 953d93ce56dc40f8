use Rattle.std.proofs.Common.{◌≡◌, ◌≢◌, ◌⊎◌, ℕ, ◌<◌, ◌≤◌, List, length, get_or, Option, Some, None, slice_get, refl, sym, ap, ◌∙◌, inl, inr, arith}
use Rattle.std.specs.Option.{option_map}
use Rattle.std.proofs.lemmas.Bool.{cases_order, cases_eq}
use Rattle.std.proofs.lemmas.List.{get_or-map, length-map}
use Rattle.std.proofs.lemmas.List.Elements.{All-get_or, All-from_get_or}
use Rattle.std.proofs.lemmas.Option.{slice_get-map}
use Rattle.can_frame.specs.Frames.{CanFrame}
use Rattle.can_frame.specs.Arbitration.{arbitration_bits, Outranks, key_of}
use Rattle.can_frame.proofs.Keys.{key_of-same, bits-from_key}
use Rattle.can_frame.proofs.Winning.{GoesBefore-key_of, key_of-GoesBefore}
use Rattle.can_arbiter.specs.Keys.{IsWinner, IsIdle}
use Rattle.can_arbiter.specs.Heads.{keys_of_heads, GoesFirst, HasNoHead}

-- the key of a head, found in the keys
key-found : (heads : List (Option CanFrame)) (i : ℕ) (frame : CanFrame) → slice_get heads i ≡ Some (Some frame) → slice_get (keys_of_heads heads) i ≡ Some (Some (key_of frame))
key-found heads i frame h = slice_get-map (option_map key_of) heads i ∙ ap (option_map (option_map key_of)) h

head_of_key : (held : Option (Option CanFrame)) (key : ℕ) → option_map (option_map key_of) held ≡ Some (Some key) → (frame : CanFrame) × (held ≡ Some (Some frame)) × (key_of frame ≡ key)
head_of_key None key h = absurd (cc)
head_of_key (Some None) key h = absurd (cc)
head_of_key (Some (Some frame)) key h = (frame, refl, cc)

-- the head of a key
head-found : (heads : List (Option CanFrame)) (i key : ℕ) → slice_get (keys_of_heads heads) i ≡ Some (Some key) → (frame : CanFrame) × (slice_get heads i ≡ Some (Some frame)) × (key_of frame ≡ key)
head-found heads i key h = head_of_key (slice_get heads i) key (sym (slice_get-map (option_map key_of) heads i) ∙ h)

pub first-from_winner : (heads : List (Option CanFrame)) (w : ℕ) → IsWinner (keys_of_heads heads) w → (frame : CanFrame) × GoesFirst heads w frame
first-from_winner heads w (key, wins) =
    let found = head-found heads w key wins.holds in
    (found.0, record { head = found.1; first = others found.0 found.2 })
  where
    others : (frame : CanFrame) → key_of frame ≡ key → (i : ℕ) (other : CanFrame) → i ≢ w → slice_get heads i ≡ Some (Some other) → Outranks frame other ⊎ ((arbitration_bits frame ≡ arbitration_bits other) × (w < i))
    others frame is i other apart h =
        let there = key-found heads i other h in
        let most = wins.least i (key_of other) there in
        elim (cases_eq (key_of frame) (key_of other)) [
          | inl same ↦
              let equal : key_of other ≡ key = sym same ∙ is in
              let above : i < w → ⊥ = λ below. wins.lowest i below (there ∙ ap (λ (n : ℕ). Some (Some n)) equal) in
              inr (
                bits-from_key frame other same,
                elim (cases_order i w) [
                  | inl at ↦ absurd (apart at)
                  | inr (inl below) ↦ absurd (above below)
                  | inr (inr over) ↦ over
                ],
              )
          | inr differ ↦ inl (GoesBefore-key_of frame other (omega arith))
        ]

same_frame : (a b : CanFrame) → Some (Some a) ≡ Some (Some b) → a ≡ b
same_frame a b e = cc

pub winner-from_first : (heads : List (Option CanFrame)) (w : ℕ) → ((frame : CanFrame) × GoesFirst heads w frame) → IsWinner (keys_of_heads heads) w
winner-from_first heads w (frame, goes) =
    (key_of frame, record { holds = key-found heads w frame goes.head; least = least; lowest = lowest })
  where
    least : (i key : ℕ) → slice_get (keys_of_heads heads) i ≡ Some (Some key) → key_of frame ≤ key
    least i key h =
        let found = head-found heads i key h in
        elim (cases_eq i w) [
          | inl at ↦
              let same = same_frame found.0 frame (sym found.1 ∙ ap (λ (k : ℕ). slice_get heads k) at ∙ goes.head) in
              omega (arith, ap key_of same, found.2)
          | inr apart ↦ elim (goes.first i found.0 apart found.1) [
            | inl outranks ↦ omega (arith, key_of-GoesBefore frame found.0 outranks, found.2)
            | inr equal ↦ omega (arith, key_of-same frame found.0 equal.0, found.2)
          ]
        ]

    lowest : (i : ℕ) → i < w → slice_get (keys_of_heads heads) i ≢ Some (Some (key_of frame))
    lowest i below h =
        let found = head-found heads i (key_of frame) h in
        elim (goes.first i found.0 (omega arith) found.1) [
          | inl outranks ↦ absurd (omega (arith, key_of-GoesBefore frame found.0 outranks, found.2))
          | inr equal ↦ absurd (omega (arith, equal.1))
        ]

unheld : (head : Option CanFrame) → option_map key_of head ≡ None → head ≡ None
unheld None h = refl
unheld (Some frame) h = absurd (cc)

pub no_head-from_idle : (heads : List (Option CanFrame)) → IsIdle (keys_of_heads heads) → HasNoHead heads
no_head-from_idle heads idle = All-from_get_or (λ head. head ≡ None) heads None each
  where
    each : (i : ℕ) → i < length heads → get_or heads i None ≡ None
    each i inside =
        let within : i < length (keys_of_heads heads) = rw length-map inside in
        let key = All-get_or (λ held. held ≡ None) (keys_of_heads heads) i None within idle in
        unheld (get_or heads i None) (sym (get_or-map (option_map key_of) heads i None None inside) ∙ key)

pub idle-from_no_head : (heads : List (Option CanFrame)) → HasNoHead heads → IsIdle (keys_of_heads heads)
idle-from_no_head heads none = All-from_get_or (λ held. held ≡ None) (keys_of_heads heads) None each
  where
    each : (i : ℕ) → i < length (keys_of_heads heads) → get_or (keys_of_heads heads) i None ≡ None
    each i within =
        let inside : i < length heads = rw length-map at within in
        let head = All-get_or (λ h. h ≡ None) heads i None inside none in
        get_or-map (option_map key_of) heads i None None inside ∙ ap (option_map key_of) head
