use Rattle.std.proofs.Common.{◌≡◌, ◌+◌, ◌<◌, ◌≤◌, ℕ, zero, suc, List, [], ◌∷◌, length, Option, Some, None, refl, ap, sym, subst, inl, inr, ◌∙◌, arith}
use Rattle.std.specs.Prelude.{slice_get, slice_index_or}
use Rattle.can_frame.specs.Names.{place_of}
use Rattle.std.proofs.lemmas.Bool.{cases_lt}
use Rattle.can_wire.specs.Times.{rates_of}
use Rattle.can_hub.specs.Buses.{BusSeen, bit_rates, config_on, items_on, names_on, rates_on, NumberedFrom, NoneNamed}

-- The element at an index of a list.
pub index_of_get : {X : Type 0} (xs : List X) (k : ℕ) (x d : X) → slice_get xs k ≡ Some x → slice_index_or xs k d ≡ x
index_of_get [] k x d e = absurd (cc (e))
index_of_get (y ∷ ys) zero x d e = cc (e)
index_of_get (y ∷ ys) (suc k) x d e = index_of_get ys k x d e

-- The number of a bus is its index.
numbered_from : (n : ℕ) (buses : List BusSeen) (k : ℕ) (d : BusSeen) → NumberedFrom n buses → k < length buses → (slice_index_or buses k d).number ≡ n + k
numbered_from n [] k d h lt = omega (arith, lt)
numbered_from n (b ∷ more) zero d h lt = omega (arith, h.0)
numbered_from n (b ∷ more) (suc k) d h lt =
    let rest : (slice_index_or more k d).number ≡ suc n + k = numbered_from (suc n) more k d h.1 (omega (arith, lt)) in omega (arith, rest)

pub number_at : (buses : List BusSeen) (k : ℕ) (d : BusSeen) → NumberedFrom 0 buses → k < length buses → (slice_index_or buses k d).number ≡ k
number_at buses k d h lt = let at = numbered_from 0 buses k d h lt in omega (arith, at)

-- The element at an index within the list does not depend on the default element.
index_default : {X : Type 0} (xs : List X) (k : ℕ) (d e : X) → k < length xs → slice_index_or xs k d ≡ slice_index_or xs k e
index_default [] k d e lt = absurd (omega (arith, lt))
index_default (x ∷ xs) zero d e lt = refl
index_default (x ∷ xs) (suc k) d e lt = index_default xs k d e (omega (arith, lt))

-- Whether an existing bus has a name does not depend on the default bus.
pub named_at : (buses : List BusSeen) (k : ℕ) (d e : BusSeen) (name : List ℕ) → k < length buses → place_of (slice_index_or buses k d).names name ≡ place_of (slice_index_or buses k e).names name
named_at buses k d e name lt = ap (λ (b : BusSeen). place_of b.names name) (index_default buses k d e lt)

-- The bit rates of an existing bus do not depend on the default bus.
pub timing_at : (buses : List BusSeen) (k : ℕ) (d e : BusSeen) → k < length buses → (slice_index_or buses k d).timing ≡ (slice_index_or buses k e).timing
timing_at buses k d e lt = ap (λ (b : BusSeen). b.timing) (index_default buses k d e lt)

-- The pause of an existing bus's driver does not depend on the default bus.
pub pace_at : (buses : List BusSeen) (k : ℕ) (d e : BusSeen) → k < length buses → (slice_index_or buses k d).pace_ms ≡ (slice_index_or buses k e).pace_ms
pace_at buses k d e lt = ap (λ (b : BusSeen). b.pace_ms) (index_default buses k d e lt)

-- The number of items that a socket holds on the bus at an index.
pub items_at : (buses : List BusSeen) (k : ℕ) (b d : BusSeen) → k < length buses → b ≡ slice_index_or buses k d → b.rx_capacity ≡ items_on (slice_get buses k)
items_at [] k b d lt same = absurd (omega (arith, lt))
items_at (x ∷ xs) zero b d lt same = ap (λ (s : BusSeen). s.rx_capacity) same
items_at (x ∷ xs) (suc k) b d lt same = items_at xs k b d (omega (arith, lt)) same

-- The number of items is 0 at an index after the last bus.
pub items_past : (buses : List BusSeen) (k : ℕ) → length buses ≤ k → 0 ≡ items_on (slice_get buses k)
items_past [] zero le = refl
items_past [] (suc k) le = refl
items_past (x ∷ xs) zero le = absurd (omega (arith, le))
items_past (x ∷ xs) (suc k) le = items_past xs k (omega (arith, le))

-- The bit rates of the bus at an index.
pub rates_at : (buses : List BusSeen) (k : ℕ) (b d : BusSeen) → k < length buses → b ≡ slice_index_or buses k d → bit_rates b.timing ≡ rates_on (slice_get buses k)
rates_at [] k b d lt same = absurd (omega (arith, lt))
rates_at (x ∷ xs) zero b d lt same = ap (λ (s : BusSeen). bit_rates s.timing) same
rates_at (x ∷ xs) (suc k) b d lt same = rates_at xs k b d (omega (arith, lt)) same

-- The bit rates are 0 at an index after the last bus.
pub rates_past : (buses : List BusSeen) (k : ℕ) → length buses ≤ k → rates_of 0 0 ≡ rates_on (slice_get buses k)
rates_past [] zero le = refl
rates_past [] (suc k) le = refl
rates_past (x ∷ xs) zero le = absurd (omega (arith, le))
rates_past (x ∷ xs) (suc k) le = rates_past xs k (omega (arith, le))

-- The names of the interfaces of the bus at an index.
pub names_at : (buses : List BusSeen) (k : ℕ) (b d : BusSeen) → k < length buses → b ≡ slice_index_or buses k d → Some b.names ≡ names_on (slice_get buses k)
names_at [] k b d lt same = absurd (omega (arith, lt))
names_at (x ∷ xs) zero b d lt same = ap (λ (s : BusSeen). Some s.names) same
names_at (x ∷ xs) (suc k) b d lt same = names_at xs k b d (omega (arith, lt)) same

-- The configuration of the bus at an index.
pub config_at : (buses : List BusSeen) (k : ℕ) (b d : BusSeen) → k < length buses → b ≡ slice_index_or buses k d → config_on (slice_get buses k) ≡ Some b.config
config_at [] k b d lt same = absurd (omega (arith, lt))
config_at (x ∷ xs) zero b d lt same = ap (λ (s : BusSeen). Some s.config) (sym same)
config_at (x ∷ xs) (suc k) b d lt same = config_at xs k b d (omega (arith, lt)) same

-- There are no names at an index after the last bus.
pub names_past : (buses : List BusSeen) (k : ℕ) → length buses ≤ k → None ≡ names_on (slice_get buses k)
names_past [] zero le = refl
names_past [] (suc k) le = refl
names_past (x ∷ xs) zero le = absurd (omega (arith, le))
names_past (x ∷ xs) (suc k) le = names_past xs k (omega (arith, le))

-- If no bus before bus n has the name, and bus n does not have it, then no bus before bus n + 1 has it.
pub none_next : (n : ℕ) (buses : List BusSeen) (name : List ℕ) (found : Option ℕ) → NoneNamed n buses name → ((d : BusSeen) → found ≡ place_of (slice_index_or buses n d).names name) → found ≡ None → NoneNamed (n + 1) buses name
none_next n buses name found before at is k d lt = elim (cases_lt k n) [
  | inl less ↦ before k d less
  | inr more ↦ (let same : n ≡ k = omega (arith, lt, more) in subst (λ (i : ℕ). place_of (slice_index_or buses i d).names name ≡ None) same (sym (at d) ∙ is))
]
