use Rattle.std.specs.Prelude.{ℕ, ◌==◌, ◌^◌, Bool, not, ◌&&◌, List, [], ◌∷◌, length, bit_and, bit_xor, if◌then◌else◌}
use Rattle.std.specs.List.{list_any, list_all}

-- Filters as linux/can.h and the kernel's networking/can document define them.

-- a filter: an identifier word and a mask (struct can_filter of linux/can.h)
pub record CanFilter : Type 0 where
  pub id : ℕ
  pub mask : ℕ

-- bit 29 of its identifier marks a filter as inverted (CAN_INV_FILTER of linux/can.h)
abbrev pub is_inverted : CanFilter → Bool
is_inverted f = not (bit_and f.id (2 ^ 29) == 0)

-- the same filter with the inversion bit flipped (CAN_INV_FILTER of linux/can.h)
abbrev pub inverse_of : CanFilter → CanFilter
inverse_of f = record f { id = bit_xor f.id (2 ^ 29) }

-- received & mask == id & mask (struct can_filter of linux/can.h)
abbrev pub agrees : CanFilter → ℕ → Bool
agrees f received = bit_and received f.mask == bit_and f.id f.mask

-- a filter matches the words that agree with it; an inverted filter matches the words that do not (struct can_filter of
-- linux/can.h)
abbrev pub matches : CanFilter → ℕ → Bool
matches f received = if is_inverted f then not (agrees f received) else agrees f received

-- the filters are joined by OR (CAN_RAW_FILTER of the kernel's networking/can), or by AND (CAN_RAW_JOIN_FILTERS in the
-- same document); without filters nothing passes, joined or not (own choice for joined)
abbrev pub passes : List CanFilter → Bool → ℕ → Bool
passes filters join received =
    if join then not (length filters == 0) && list_all (λ f. matches f received) filters
    else list_any (λ f. matches f received) filters

-- the filter that compares no bits
abbrev pub everything : CanFilter
everything = record { id = 0; mask = 0 }

-- the filters of a newly opened socket (CAN_RAW_FILTER of the kernel's networking/can)
abbrev pub receives_all : List CanFilter
receives_all = everything ∷ []
