use Rattle.std.specs.Prelude.{◌≡◌, ◌==◌, ◌<◌, ⊤, ℕ, Bool, false, ◌||◌, List, slice_index_or, bit_and, IsTrue}
use Rattle.std.specs.List.{list_any}
use Rattle.can_filter.specs.Filters.{CanFilter, matches}
use Rattle.can_filter.specs.declared.lookup.Lookup.{Lookup}
use Rattle.can_filter.specs.declared.lookup.Lookup.TheVariants.{Standard, Extended, Masked, Inverted}

-- Filters parted by how a word is looked up among them. Nothing that a caller has to know: the sets of filters say
-- what passes only in terms of Filters.

-- the mask of a filter that singles out one 11-bit data identifier (own choice)
abbrev pub standard_mask : ℕ
standard_mask = 3221227519

-- the mask of a filter that singles out one 29-bit data identifier (own choice)
abbrev pub extended_mask : ℕ
extended_mask = 3758096383

-- the word belongs to a data frame with a 29-bit identifier
abbrev pub is_extended : ℕ → Bool
is_extended word = bit_and word 3221225472 == 2147483648

-- the word's 11-bit data identifier is marked
abbrev pub is_marked : List Bool → ℕ → Bool
is_marked marks word = slice_index_or marks (bit_and word standard_mask) false

-- the word's 29-bit data identifier is listed
abbrev pub is_listed : List ℕ → ℕ → Bool
is_listed ids word = list_any (λ id. bit_and word extended_mask == id) ids

-- some filter of the list matches the word
abbrev pub is_matched : List CanFilter → ℕ → Bool
is_matched filters word = list_any (λ f. matches f word) filters

-- the word is found in at least one of the four parts
abbrev pub is_found : List Bool → List ℕ → List CanFilter → List CanFilter → ℕ → Bool
is_found marks ids masked inverted word =
    is_marked marks word || (is_listed ids word || (is_matched masked word || is_matched inverted word))

-- the look-up says which words the filter matches
abbrev pub IsLookedUpAs : CanFilter → Lookup → Type 0
IsLookedUpAs f (Standard id) = (id < 2048) × ((word : ℕ) → matches f word ≡ (bit_and word standard_mask == id))
IsLookedUpAs f (Extended id) =
    IsTrue (is_extended id) × ((word : ℕ) → matches f word ≡ (bit_and word extended_mask == id))
IsLookedUpAs f Masked = ⊤
IsLookedUpAs f Inverted = ⊤
