use Rattle.std.proofs.Common.{◌≡◌, ℕ, ◌+◌, ◌-◌, ◌==◌, Bool, List, [], ◌∷◌, ◌++◌, length, map, replicate, refl, sym, ap, ◌∙◌, inl, inr, length-append}
use Rattle.std.proofs.lemmas.List.{map-append, replicate-append-replicate}
use Rattle.std.proofs.lemmas.Bool.{cases_Bool}
use Rattle.can_bits.specs.declared.bit.Bit.{Bit}
use Rattle.can_bits.specs.inner.Sending.{Last, sent, stuff_bit, due, flushed, added, sent_all, sent_fixed}

-- The bit rates of the bits that are sent.

abbrev pub rates : List Bit → List Bool
rates bits = map (λ b. b.is_fast) bits

pub rates-append : (xs ys : List Bit) → rates (xs ++ ys) ≡ rates xs ++ rates ys
rates-append xs ys = map-append (λ (b : Bit). b.is_fast) xs ys

pub rates_two : (a b : List Bit) (fast : Bool) → rates a ≡ replicate (length a) fast → rates b ≡ replicate (length b) fast → rates (a ++ b) ≡ replicate (length (a ++ b)) fast
rates_two a b fast one two =
    rates-append a b ∙ (ap (λ (l : List Bool). l ++ rates b) one ∙ (ap (λ (l : List Bool). replicate (length a) fast ++ l) two ∙ (replicate-append-replicate (length a) (length b) fast ∙ ap (λ (n : ℕ). replicate n fast) (sym (length-append a b)))))

pub due_rates : (fast : Bool) (l : Last) → rates (due fast l) ≡ replicate (length (due fast l)) fast
due_rates fast l = elim (cases_Bool (l.count == 5)) [
  | inl five ↦ rw five refl
  | inr less ↦ rw less refl
]

pub sent_rates : (fast : Bool) (bits : List Bit) (l : Last) → rates (sent_all fast bits l) ≡ replicate (length (sent_all fast bits l)) fast
sent_rates fast [] l = refl
sent_rates fast (b ∷ bits) l =
    let s : List Bit = sent_all fast bits (added b (flushed l)) in
    rates_two (due fast l) (sent fast b ∷ s) fast (due_rates fast l) (ap (λ (more : List Bool). fast ∷ more) (sent_rates fast bits (added b (flushed l))))

pub fixed_rates : (fast last : Bool) (d : ℕ) (bits : List Bit) → rates (sent_fixed fast last d bits) ≡ replicate (length (sent_fixed fast last d bits)) fast
fixed_rates fast last d [] = refl
fixed_rates fast last d (b ∷ bits) = elim (cases_Bool (d == 0)) [
  | inl now ↦ rw now (ap (λ (more : List Bool). fast ∷ fast ∷ more) (fixed_rates fast b.is_recessive 3 bits))
  | inr later ↦ rw later (ap (λ (more : List Bool). fast ∷ more) (fixed_rates fast b.is_recessive (d - 1) bits))
]
