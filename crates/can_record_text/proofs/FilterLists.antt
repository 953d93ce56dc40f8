-- Filters are read one at a time.
use Rattle.std.proofs.Common.{◌≡◌, ℕ, zero, suc, ◌-◌, ◌<◌, ◌≤◌, List, Some, None, Err, refl, ap, ◌∙◌, arith}
use Rattle.can_filter.specs.Filters.{CanFilter}
use Rattle.can_record_text.specs.declared.fault.Unread.{Unread}
use Rattle.can_record_text.specs.declared.fault.Unread.TheVariants as unread
use Rattle.can_record_text.specs.inner.Reading.{GivesFilters, filter_at, filters_at}

pub filters_more : (fs : List CanFilter) (n : ℕ) (t : List ℕ) (more : List CanFilter) (rest : List ℕ) → 0 < n → filter_at fs t ≡ Some (more, rest) → filters_at fs n t ≡ filters_at more (n - 1) rest
unfolding filters_at
filters_more fs zero t more rest lt h = absurd (omega (arith, lt))
filters_more fs (suc n) t more rest lt h = let e : n ≡ suc n - 1 = omega arith in rw h (ap (λ (k : ℕ). filters_at more k rest) e)

pub filters_stop : (fs : List CanFilter) (n : ℕ) (t : List ℕ) → 0 < n → filter_at fs t ≡ None → filters_at fs n t ≡ None
unfolding filters_at
filters_stop fs zero t lt h = absurd (omega (arith, lt))
filters_stop fs (suc n) t lt h = rw h refl

pub filters_done : (fs : List CanFilter) (n : ℕ) (t : List ℕ) → n ≤ 0 → filters_at fs n t ≡ Some (fs, t)
unfolding filters_at
filters_done fs zero t le = refl
filters_done fs (suc n) t le = absurd (omega (arith, le))

pub filters_fail : (u : Unread) (init fs more : List CanFilter) (count n : ℕ) (text t : List ℕ) → filters_at init count text ≡ filters_at fs n t → 0 < n → GivesFilters (Err u) more (filter_at fs t) → GivesFilters (Err u) more (filters_at init count text)
filters_fail unread.Bad init fs more count n text t so_far lt h = so_far ∙ filters_stop fs n t lt h
filters_fail unread.NoMemory init fs more count n text t so_far lt h = h
