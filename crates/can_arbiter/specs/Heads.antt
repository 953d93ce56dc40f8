use Rattle.std.specs.Prelude.{◌≡◌, ◌≢◌, ◌⊎◌, ℕ, ◌<◌, List, Option, Some, None, map, slice_get}
use Rattle.std.specs.List.{All}
use Rattle.std.specs.Option.{option_map}
use Rattle.can_frame.specs.Frames.{CanFrame}
use Rattle.can_frame.specs.Arbitration.{arbitration_bits, Outranks, key_of}

-- The frames at the heads of the interfaces' queues: place i of the list belongs to interface i.

-- the keys of the frames at the heads
abbrev pub keys_of_heads : List (Option CanFrame) → List (Option ℕ)
keys_of_heads heads = map (option_map key_of) heads

-- no interface has a frame at its head
abbrev pub HasNoHead : List (Option CanFrame) → Type 0
HasNoHead heads = All (λ head. head ≡ None) heads

-- interface w has this frame at its head, and the frame outranks all others except frames with equal bits at higher
-- interfaces (own choice)
pub record GoesFirst (heads : List (Option CanFrame)) (w : ℕ) (frame : CanFrame) : Type 0 where
  pub head : slice_get heads w ≡ Some (Some frame)
  pub first : (i : ℕ) (other : CanFrame) → i ≢ w → slice_get heads i ≡ Some (Some other)
      → Outranks frame other ⊎ ((arbitration_bits frame ≡ arbitration_bits other) × (w < i))
