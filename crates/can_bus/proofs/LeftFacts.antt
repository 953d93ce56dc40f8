use Rattle.std.proofs.Common.{◌≡◌, ◌≢◌, ℕ, zero, suc, ◌+◌, ◌-◌, ◌<◌, ◌≤◌, ◌==◌, nat_le, nat_lt, Bool, true, false, not, ◌&&◌, ◌||◌, List, [], ◌∷◌, map, replicate, filter, slice_set, slice_index_or, Option, Some, None, if◌then◌else◌, inl, inr, refl, sym, ap, ◌∙◌, arith}
use Rattle.std.specs.List.{list_any, range_with_len}
use Rattle.std.specs.Option.{option_map}
use Rattle.std.proofs.lemmas.Bool.{eqb-true, cases_lt}
use Rattle.can_frame.specs.Sets.{is_in}
use Rattle.can_frame.specs.declared.iface.IfaceSet.{IfaceSet}
use Rattle.can_attempt.specs.Attempts.{is_among}
use Rattle.can_attempt.proofs.Places.{is_among-filter, is_among-range, bits_where_same}
use Rattle.can_event.specs.declared.bus_config.BusConfig.{BusConfig}
use Rattle.can_event.specs.declared.entry.Entry.{Entry}
use Rattle.can_bus.specs.AutoRestart.{attempts_off, is_nth_after, is_due, restarted_next, is_counting, attempts_left, left_after}
use Rattle.can_bus.specs.Legal.{IsLegal}
use Rattle.can_bus.specs.State.{kept_left}
use Rattle.can_bus.specs.Changes.{due_in, ticked}
use Rattle.can_bus.proofs.CountingFacts.{beyond-counts-not, restarted-due}
use Rattle.can_bus.proofs.KeyFacts.{sixteen-one}
use Rattle.can_bus.proofs.NodeFacts.{index-map}

-- The numbers of attempts until each restart in the state are those that the history gives.

-- ---- one attempt fewer

-- if an interface is not restarted, the attempt is counted; if it is restarted, no attempts remain
next-left : (n : ℕ) (k : Option ℕ) (restarted : Bool) → (restarted ≡ true → is_nth_after n k ≡ true) → left_after n (if restarted then None else option_map suc k) ≡ left_after n k - 1
next-left n None true due = refl
next-left n None false due = refl
next-left n (Some k) true due = let last : suc k ≡ n = eqb-true (suc k) n (due refl) in omega (arith, last)
next-left n (Some k) false due = omega arith

ticked-map : (f g : ℕ → ℕ) (xs : List ℕ) → ((i : ℕ) → g i ≡ f i - 1) → ticked (map f xs) ≡ map g xs
ticked-map f g [] next = refl
ticked-map f g (x ∷ xs) next = let here = next x in let rest = ticked-map f g xs next in cc

-- the attempt restarts interface i if its restart is due, and otherwise counts one more attempt if the interface counts
abbrev pub CountsOn : BusConfig → List Entry → Entry → ℕ → Type 0
CountsOn c past e i = attempts_off (e ∷ past) i ≡ (if is_in i (restarted_next c past) then None else option_map suc (attempts_off past i))

one-less : (c : BusConfig) (past : List Entry) (e : Entry) (i : ℕ) → CountsOn c past e i → attempts_left c (e ∷ past) i ≡ attempts_left c past i - 1
one-less c past e i on = ap (left_after c.auto_restart) on ∙ next-left c.auto_restart (attempts_off past i) (is_in i (restarted_next c past)) (restarted-due c past i)

-- an attempt in which no interface goes bus off
pub left-counted : (c : BusConfig) (past : List Entry) (e : Entry) → ((i : ℕ) → CountsOn c past e i) → ticked (kept_left c past) ≡ kept_left c (e ∷ past)
unfolding kept_left
left-counted c past e on = ticked-map (attempts_left c past) (attempts_left c (e ∷ past)) (range_with_len 0 16) (λ i. one-less c past e i (on i))

-- an attempt in which interface w goes bus off
pub left-off : (c : BusConfig) (past : List Entry) (e : Entry) (w : ℕ) → w < 16 → attempts_off (e ∷ past) w ≡ Some 0 → ((i : ℕ) → i ≢ w → CountsOn c past e i) → slice_set (ticked (kept_left c past)) w c.auto_restart ≡ kept_left c (e ∷ past)
unfolding kept_left
left-off c past e w below off on =
    let less : ℕ → ℕ = λ i. attempts_left c past i - 1 in
    let all : c.auto_restart ≡ attempts_left c (e ∷ past) w = omega (arith, ap (left_after c.auto_restart) off) in
    ap (λ ns. slice_set ns w c.auto_restart) (ticked-map (attempts_left c past) less (range_with_len 0 16) (λ i. refl))
    ∙ ap (slice_set (map less (range_with_len 0 16)) w) all
    ∙ sym (sixteen-one less (attempts_left c (e ∷ past)) w 16 below (λ i ne. one-less c past e i (on i ne)))

-- ---- the interfaces whose restart is due

one-left : (n : ℕ) (k : Option ℕ) → (left_after n k == 1) ≡ is_nth_after n k
one-left n None = refl
one-left n (Some k) = grind arith

within-range : (i n : ℕ) → i < n → (nat_le 0 i && nat_lt i (0 + n)) ≡ true
within-range i n lt = grind (arith, lt)

left-at : (c : BusConfig) (past : List Entry) (i : ℕ) → i < 16 → slice_index_or (kept_left c past) i 0 ≡ attempts_left c past i
unfolding kept_left
left-at c past i below = index-map (attempts_left c past) 0 16 i 0 below ∙ ap (attempts_left c past) (omega arith)

due-at : (c : BusConfig) (past : List Entry) → IsLegal c past → (i : ℕ) → i < 16 → (slice_index_or (kept_left c past) i 0 == 1) ≡ is_among i (filter (is_due c past) (range_with_len 0 c.ifaces))
due-at c past legal i below =
    ap (λ n. n == 1) (left-at c past i below)
    ∙ elim (cases_lt i c.ifaces) [
      | inl lt ↦ one-left c.auto_restart (attempts_off past i) ∙ within lt (is_due c past i)
      | inr above ↦ let none = beyond-counts-not c past legal i above in rw none refl
    ]
    ∙ sym (is_among-filter (is_due c past) i (range_with_len 0 c.ifaces) ∙ ap (λ b. is_due c past i && b) (is_among-range i 0 c.ifaces))
  where
    within : i < c.ifaces → (b : Bool) → b ≡ (b && (nat_le 0 i && nat_lt i (0 + c.ifaces)))
    within lt true = sym (within-range i c.ifaces lt)
    within lt false = refl

-- the interfaces that the next attempt restarts
pub due-kept : (c : BusConfig) (past : List Entry) → IsLegal c past → due_in (kept_left c past) ≡ restarted_next c past
due-kept c past legal = ap set_of_bits (bits_where_same _ _ 16 (due-at c past legal))
  where
    set_of_bits : ℕ → IfaceSet
    set_of_bits n = record { 0 = n }

-- ---- a bus without automatic restart

never-left : (n : ℕ) (k : Option ℕ) → n ≡ 0 → left_after n k ≡ 0
never-left n None never = refl
never-left n (Some k) never = omega (arith, never)

all-zero : (f : ℕ → ℕ) (a n : ℕ) → ((i : ℕ) → f i ≡ 0) → map f (range_with_len a n) ≡ replicate n 0
all-zero f a zero none = refl
all-zero f a (suc n) none = let here = none a in let rest = all-zero f (a + 1) n none in cc

pub left-never : (c : BusConfig) (past : List Entry) → c.auto_restart ≡ 0 → kept_left c past ≡ replicate 16 0
unfolding kept_left
left-never c past never = all-zero (attempts_left c past) 0 16 (λ i. never-left c.auto_restart (attempts_off past i) never)

-- ---- whether an interface counts attempts

any-map : (p : ℕ → Bool) (f : ℕ → ℕ) (xs : List ℕ) → list_any p (map f xs) ≡ list_any (λ i. p (f i)) xs
any-map p f [] = refl
any-map p f (x ∷ xs) = ap (λ b. p (f x) || b) (any-map p f xs)

none-from : (p : ℕ → Bool) (a n : ℕ) → ((i : ℕ) → a ≤ i → p i ≡ false) → list_any p (range_with_len a n) ≡ false
none-from p a zero none = refl
none-from p a (suc n) none = let here = none a (omega arith) in rw here (none-from p (a + 1) n (λ i le. none i (omega (arith, le))))

any-short : (p : ℕ → Bool) (a n k : ℕ) → ((i : ℕ) → a + n ≤ i → p i ≡ false) → list_any p (range_with_len a (n + k)) ≡ list_any p (range_with_len a n)
any-short p a zero k none = let sum : 0 + k ≡ k = omega arith in ap (λ m. list_any p (range_with_len a m)) sum ∙ none-from p a k (λ i le. none i (omega (arith, le)))
any-short p a (suc n) k none = let sum : suc n + k ≡ suc (n + k) = omega arith in ap (λ m. list_any p (range_with_len a m)) sum ∙ ap (λ b. p a || b) (any-short p (a + 1) n k (λ i le. none i (omega (arith, le))))

-- some number in the state is not 0 exactly if some interface counts attempts
pub counting-kept : (c : BusConfig) (past : List Entry) → IsLegal c past → c.ifaces ≤ 16 → list_any (λ n. not (n == 0)) (kept_left c past) ≡ is_counting c past
unfolding kept_left
counting-kept c past legal few =
    let counts : ℕ → Bool = λ i. not (attempts_left c past i == 0) in
    let all : c.ifaces + (16 - c.ifaces) ≡ 16 = omega (arith, few) in
    any-map (λ n. not (n == 0)) (attempts_left c past) (range_with_len 0 16)
    ∙ ap (λ n. list_any counts (range_with_len 0 n)) (sym all)
    ∙ any-short counts 0 c.ifaces (16 - c.ifaces) (λ i above. ap (λ (k : Option ℕ). not (left_after c.auto_restart k == 0)) (beyond-counts-not c past legal i (omega (arith, above))))
