use Rattle.std.proofs.Common.{◌≡◌, ◌≢◌, ◌⊎◌, ℕ, zero, suc, ◌/◌, ◌^◌, ◌<◌, ◌≤◌, Bool, true, false, List, [], ◌∷◌, ◌++◌, length, get_or, refl, sym, ap, ◌∙◌, inl, inr, arith, length-append}
use Rattle.std.proofs.lemmas.Bool.{cases_Bool, cases_lt, cases_order, cases_eq}
use Rattle.std.proofs.lemmas.List.{get_or_default}
use Rattle.can_frame.specs.Frames.{Identifier, Payload, CanFrame, is_remote, IsIdentifier}
use Rattle.can_frame.specs.Frames.Payload.{Data, Remote, Fd}
use Rattle.can_frame.specs.declared.fd_flags.FdFlags.{FdFlags}
use Rattle.can_frame.specs.Arbitration.{rtr_of, arbitration_bits, GoesBefore, key_of, Wins, DifferInBits}
use Rattle.can_frame.proofs.Bits.{GoesBefore-goes_before, goes_before-GoesBefore, goes_before-front, front-goes_before}
use Rattle.can_frame.proofs.Keys.{AreCompared-frames, key_of-before, key_of-same, goes_before-key_of, bits-from_key, key_of-standard, key_of-extended, rtr-below}

-- ---- the rule and the key

pub GoesBefore-key_of : (a b : CanFrame) → key_of a < key_of b → GoesBefore (arbitration_bits a) (arbitration_bits b)
GoesBefore-key_of a b h = GoesBefore-goes_before (arbitration_bits a) (arbitration_bits b) (goes_before-key_of a b h)

pub key_of-GoesBefore : (a b : CanFrame) → GoesBefore (arbitration_bits a) (arbitration_bits b) → key_of a < key_of b
key_of-GoesBefore a b h = key_of-before a b (goes_before-GoesBefore (arbitration_bits a) (arbitration_bits b) h)

pub one_of_two : (a b : CanFrame) → arbitration_bits a ≢ arbitration_bits b → GoesBefore (arbitration_bits a) (arbitration_bits b) ⊎ GoesBefore (arbitration_bits b) (arbitration_bits a)
one_of_two a b differ = elim (cases_order (key_of a) (key_of b)) [
  | inl same ↦ absurd (differ (bits-from_key a b same))
  | inr (inl below) ↦ inl (GoesBefore-key_of a b below)
  | inr (inr above) ↦ inr (GoesBefore-key_of b a above)
]

none_left : (rest : List ℕ) → length rest ≡ 0 → rest ≡ []
none_left [] e = refl
none_left (b ∷ rest) e = absurd (omega arith)

pub no_rest : (a b : CanFrame) (rest : List ℕ) → arbitration_bits b ≡ arbitration_bits a ++ rest → rest ≡ []
no_rest a b rest e = elim (AreCompared-frames a b) [
  | inl same ↦ none_left rest (omega (arith, ap length (same ∙ e), length-append (arbitration_bits a) rest))
  | inr (inl before) ↦ absurd (goes_before-front (arbitration_bits a) rest (rw e at before))
  | inr (inr after) ↦ absurd (front-goes_before (arbitration_bits a) rest (rw e at after))
]

-- ---- the winner

no_frame : CanFrame
no_frame = record { id = record { extended = false; number = 0 }; payload = Remote 0 }

-- some frame has the least key
least : (f : CanFrame) (fs : List CanFrame) → (w : ℕ) × (w < length (f ∷ fs)) × ((k : ℕ) (d : CanFrame) → k < length (f ∷ fs) → key_of (get_or (f ∷ fs) w d) ≤ key_of (get_or (f ∷ fs) k d))
least f [] = (0, omega arith, only)
  where
    only : (k : ℕ) (d : CanFrame) → k < 1 → key_of f ≤ key_of (get_or (f ∷ []) k d)
    only zero d h = omega arith
    only (suc k) d h = absurd (omega arith)
least f (g ∷ gs) =
    let r = least g gs in
    elim (cases_lt (key_of (get_or (g ∷ gs) r.0 f)) (key_of f)) [
      | inl below ↦ (suc r.0, omega arith, later r.0 r.1 r.2 below)
      | inr above ↦ (0, omega arith, here r.0 r.1 r.2 above)
    ]
  where
    later : (w : ℕ) → w < length (g ∷ gs) → ((k : ℕ) (d : CanFrame) → k < length (g ∷ gs) → key_of (get_or (g ∷ gs) w d) ≤ key_of (get_or (g ∷ gs) k d)) → key_of (get_or (g ∷ gs) w f) < key_of f →
        (k : ℕ) (d : CanFrame) → k < length (f ∷ g ∷ gs) → key_of (get_or (g ∷ gs) w d) ≤ key_of (get_or (f ∷ g ∷ gs) k d)
    later w inside all below zero d h = rw (get_or_default (g ∷ gs) w d f inside) (omega arith)
    later w inside all below (suc k) d h = all k d (omega arith)

    here : (w : ℕ) → w < length (g ∷ gs) → ((k : ℕ) (d : CanFrame) → k < length (g ∷ gs) → key_of (get_or (g ∷ gs) w d) ≤ key_of (get_or (g ∷ gs) k d)) → key_of f ≤ key_of (get_or (g ∷ gs) w f) → (k : ℕ) (d : CanFrame) → k < length (f ∷ g ∷ gs) → key_of f ≤ key_of (get_or (f ∷ g ∷ gs) k d)
    here w inside all above zero d h = omega arith
    here w inside all above (suc k) d h =
        let most = all k d (omega arith) in
        let same = ap key_of (get_or_default (g ∷ gs) w d f inside) in
        omega arith

pub some_wins : (frames : List CanFrame) → 1 ≤ length frames → DifferInBits frames → (w : ℕ) × Wins frames w
some_wins [] h differ = absurd (omega arith)
some_wins (f ∷ fs) h differ =
    let r = least f fs in
    (r.0, (r.1, λ k d inside other. before r.0 r.1 k d inside other (r.2 k d inside)))
  where
    strictly : (a b : CanFrame) → key_of a ≤ key_of b → arbitration_bits a ≢ arbitration_bits b → key_of a < key_of b
    strictly a b most apart = elim (cases_eq (key_of a) (key_of b)) [
      | inl same ↦ absurd (apart (bits-from_key a b same))
      | inr other ↦ omega arith
    ]

    before : (w : ℕ) → w < length (f ∷ fs) → (k : ℕ) (d : CanFrame) → k < length (f ∷ fs) → k ≢ w → key_of (get_or (f ∷ fs) w d) ≤ key_of (get_or (f ∷ fs) k d) → GoesBefore (arbitration_bits (get_or (f ∷ fs) w d)) (arbitration_bits (get_or (f ∷ fs) k d))
    before w within k d inside other most = elim (cases_order w k) [
      | inl same ↦ absurd (other (sym same))
      | inr (inl below) ↦ GoesBefore-key_of _ _ (strictly (get_or (f ∷ fs) w d) (get_or (f ∷ fs) k d) most (differ w k d below inside))
      | inr (inr above) ↦ GoesBefore-key_of _ _ (strictly (get_or (f ∷ fs) w d) (get_or (f ∷ fs) k d) most (λ e. differ k w d above within (sym e)))
    ]

pub alone : (frames : List CanFrame) (v w : ℕ) → Wins frames v → Wins frames w → v ≡ w
alone frames v w p q = elim (cases_eq v w) [
  | inl same ↦ same
  | inr other ↦
      let first = key_of-GoesBefore _ _ (p.1 w no_frame q.0 (λ e. other (sym e))) in
      let second = key_of-GoesBefore _ _ (q.1 v no_frame p.0 other) in
      absurd (omega arith)
]

-- ---- identifiers

marked_first : (id : Identifier) (p : Payload) (len : ℕ) → rtr_of p ≡ 0 → GoesBefore (arbitration_bits (record { id = id; payload = p })) (arbitration_bits (record { id = id; payload = Remote len }))
marked_first id p len unmarked =
    let a : CanFrame = record { id = id; payload = p } in
    let b : CanFrame = record { id = id; payload = Remote len } in
    GoesBefore-key_of a b (elim (cases_Bool id.extended) [
      | inl extended ↦ rw (key_of-extended a extended, key_of-extended b extended) (omega arith)
      | inr standard ↦ rw (key_of-standard a standard, key_of-standard b standard) (omega arith)
    ])

pub data_first : (id : Identifier) (bytes : List ℕ) (len : ℕ) → GoesBefore (arbitration_bits (record { id = id; payload = Data bytes })) (arbitration_bits (record { id = id; payload = Remote len }))
data_first id bytes len = marked_first id (Data bytes) len refl

pub fd_first : (id : Identifier) (flags : FdFlags) (bytes : List ℕ) (len : ℕ) → GoesBefore (arbitration_bits (record { id = id; payload = Fd flags bytes })) (arbitration_bits (record { id = id; payload = Remote len }))
fd_first id flags bytes len = marked_first id (Fd flags bytes) len refl

pub fd_bits : (id : Identifier) (flags : FdFlags) (bytes others : List ℕ) → arbitration_bits (record { id = id; payload = Fd flags bytes }) ≡ arbitration_bits (record { id = id; payload = Data others })
unfolding arbitration_bits
fd_bits id flags bytes others = refl

pub standard_first : (a b : CanFrame) → a.id.extended ≡ false → b.id.extended ≡ true → b.id.number / 2 ^ 18 ≡ a.id.number → GoesBefore (arbitration_bits a) (arbitration_bits b)
standard_first a b standard extended begins =
    GoesBefore-key_of a b (rw (key_of-standard a standard, key_of-extended b extended, begins) (omega (arith, rtr-below a.payload)))

same_mark : (p q : Payload) → rtr_of p ≡ rtr_of q → is_remote p ≡ is_remote q
same_mark (Remote n) (Remote m) e = refl
same_mark (Remote n) (Data c) e = absurd (omega arith)
same_mark (Remote n) (Fd g c) e = absurd (omega arith)
same_mark (Data b) (Remote m) e = absurd (omega arith)
same_mark (Data b) (Data c) e = refl
same_mark (Data b) (Fd g c) e = refl
same_mark (Fd f b) (Remote m) e = absurd (omega arith)
same_mark (Fd f b) (Data c) e = refl
same_mark (Fd f b) (Fd g c) e = refl

same_identifier : (i j : Identifier) → i.extended ≡ j.extended → i.number ≡ j.number → i ≡ j
same_identifier i j e n =
    ap (λ (x : Bool). let k : Identifier = record { extended = x; number = i.number } in k) e ∙ ap (λ (m : ℕ). let k : Identifier = record { extended = j.extended; number = m } in k) n

pub one_identifier : (a b : CanFrame) → IsIdentifier a.id → IsIdentifier b.id → arbitration_bits a ≡ arbitration_bits b → (a.id ≡ b.id) × (is_remote a.payload ≡ is_remote b.payload)
one_identifier a b p q e =
    let same = key_of-same a b e in
    let r = rtr-below a.payload in
    let s = rtr-below b.payload in
    elim (cases_Bool a.id.extended) [
      | inl x ↦ elim (cases_Bool b.id.extended) [
        | inl y ↦
            let m = rw x at p in
            let n = rw y at q in
            let i = key_of-extended a x in
            let j = key_of-extended b y in
            let number : a.id.number ≡ b.id.number = omega arith in
            let rtr : rtr_of a.payload ≡ rtr_of b.payload = omega arith in
            (same_identifier a.id b.id (x ∙ sym y) number, same_mark a.payload b.payload rtr)
        | inr y ↦ absurd (omega (arith, key_of-extended a x, key_of-standard b y))
      ]
      | inr x ↦ elim (cases_Bool b.id.extended) [
        | inl y ↦ absurd (omega (arith, key_of-standard a x, key_of-extended b y))
        | inr y ↦
            let m = rw x at p in
            let n = rw y at q in
            let i = key_of-standard a x in
            let j = key_of-standard b y in
            let number : a.id.number ≡ b.id.number = omega arith in
            let rtr : rtr_of a.payload ≡ rtr_of b.payload = omega arith in
            (same_identifier a.id b.id (x ∙ sym y) number, same_mark a.payload b.payload rtr)
      ]
    ]
