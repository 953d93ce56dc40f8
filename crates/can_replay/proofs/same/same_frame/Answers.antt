use Rattle.std.proofs.Common.{◌≡◌, ◌∙◌, refl, sym, ap, subst, IsTrue, Bool, true, false, List, ℕ, ◌&&◌, ◌++◌, ◌-◌, length, take, rules}
use Rattle.std.specs.Prelude.{nat_eq, replicate}
use Rattle.std.specs.Str.{bytes_eq}
use Rattle.std.proofs.Math.Seq.{take-append_seam}
use Rattle.std.proofs.lemmas.Bool.{and_parts}
use Rattle.std.proofs.lemmas.Bool.Decides.{Decides-eqb}
use Rattle.std.proofs.lemmas.Slice.Eq.{bytes_eq-Decides}
use Rattle.can_frame.specs.Frames.{CanFrame, Identifier, Payload}
use Rattle.can_frame.specs.Frames.Payload.{Data, Remote, Fd}
use Rattle.can_frame.specs.declared.fd_flags.FdFlags.{FdFlags}
use Rattle.can_frame.specs.contracts.can_id.CanIdPartialEq.TheImpl as ids
use Rattle.can_frame.specs.contracts.fd_flags.FdFlagsPartialEq.TheImpl as flags
use Rattle.can_frame.specs.contracts.frame.FramePartialEq.TheImpl as frames
use Rattle.can_replay.proofs.same.same_frame.Goals as goal

-- ---- the fields of a frame

and_both : (a b : Bool) → a ≡ true → b ≡ true → (a && b) ≡ true
and_both true b h k = k
and_both false b h k = absurd cc

and_false : (a : Bool) → (a && false) ≡ true → ⊥
and_false true h = absurd cc
and_false false h = absurd cc

one_id : (i j : Identifier) → ids.ghosts.eq i j ≡ true → i ≡ j
one_id i j h = search rules

own_id : (i : Identifier) → ids.ghosts.eq i i ≡ true
own_id i = search rules

one_flags : (f g : FdFlags) → flags.ghosts.eq f g ≡ true → f ≡ g
one_flags f g h = search rules

own_flags : (f : FdFlags) → flags.ghosts.eq f f ≡ true
own_flags f = search rules

-- The payload bytes as a frame stores them.
abbrev filled : List ℕ → List ℕ
filled xs = xs ++ replicate (64 - length xs) 0

abbrev bytes_alike : List ℕ → List ℕ → Bool
bytes_alike xs ys = nat_eq (length xs) (length ys) && bytes_eq (filled xs) (filled ys)

one_bytes : (xs ys : List ℕ) → bytes_alike xs ys ≡ true → xs ≡ ys
one_bytes xs ys h =
    let parts = and_parts (nat_eq (length xs) (length ys)) (bytes_eq (filled xs) (filled ys)) h in
    let len : length xs ≡ length ys = (Decides-eqb (length xs) (length ys)).0 parts.0 in
    let kept : filled xs ≡ filled ys = (bytes_eq-Decides (filled xs) (filled ys)).0 parts.1 in
    sym (take-append_seam xs (replicate (64 - length xs) 0)) ∙ ap (take (length xs)) kept ∙ ap (λ (n : ℕ). take n (filled ys)) len ∙ take-append_seam ys (replicate (64 - length ys) 0)

own_bytes : (xs : List ℕ) → bytes_alike xs xs ≡ true
own_bytes xs = and_both (nat_eq (length xs) (length xs)) (bytes_eq (filled xs) (filled xs)) ((Decides-eqb (length xs) (length xs)).1 refl) ((bytes_eq-Decides (filled xs) (filled xs)).1 refl)

-- ---- frames

abbrev alike : Identifier → Identifier → Payload → Payload → Bool
alike i j p q = frames.ghosts.eq (record { id = i; payload = p }) (record { id = j; payload = q })

one_frame : (i j : Identifier) (p q : Payload) → alike i j p q ≡ true → (i ≡ j) × (p ≡ q)
one_frame i j (Data xs) (Data ys) h =
    let parts = and_parts (ids.ghosts.eq i j) (bytes_alike xs ys) h in
    (one_id i j parts.0, ap Data (one_bytes xs ys parts.1))
one_frame i j (Remote n) (Remote m) h =
    let parts = and_parts (ids.ghosts.eq i j) (nat_eq n m && true) h in
    (one_id i j parts.0, ap Remote ((Decides-eqb n m).0 (and_parts (nat_eq n m) true parts.1).0))
one_frame i j (Fd f xs) (Fd g ys) h =
    let parts = and_parts (ids.ghosts.eq i j) (flags.ghosts.eq f g && bytes_alike xs ys) h in
    let rest = and_parts (flags.ghosts.eq f g) (bytes_alike xs ys) parts.1 in
    (one_id i j parts.0, ap (λ (x : FdFlags). Fd x xs) (one_flags f g rest.0) ∙ ap (Fd g) (one_bytes xs ys rest.1))
one_frame i j (Data xs) (Remote m) h = absurd (and_false (ids.ghosts.eq i j) h)
one_frame i j (Data xs) (Fd g ys) h = absurd (and_false (ids.ghosts.eq i j) h)
one_frame i j (Remote n) (Data ys) h = absurd (and_false (ids.ghosts.eq i j) h)
one_frame i j (Remote n) (Fd g ys) h = absurd (and_false (ids.ghosts.eq i j) h)
one_frame i j (Fd f xs) (Data ys) h = absurd (and_false (ids.ghosts.eq i j) h)
one_frame i j (Fd f xs) (Remote m) h = absurd (and_false (ids.ghosts.eq i j) h)

own_frame : (i : Identifier) (p : Payload) → alike i i p p ≡ true
own_frame i (Data xs) = and_both (ids.ghosts.eq i i) (bytes_alike xs xs) (own_id i) (own_bytes xs)
own_frame i (Remote n) = and_both (ids.ghosts.eq i i) (nat_eq n n && true) (own_id i) (and_both (nat_eq n n) true ((Decides-eqb n n).1 refl) refl)
own_frame i (Fd f xs) = and_both (ids.ghosts.eq i i) (flags.ghosts.eq f f && bytes_alike xs xs) (own_id i) (and_both (flags.ghosts.eq f f) (bytes_alike xs xs) (own_flags f) (own_bytes xs))

yes : (b : Bool) → IsTrue b → b ≡ true
yes true h = refl
yes false h = absurd cc

told : (b : Bool) → b ≡ true → IsTrue b
told b h = search rules

pub returns : goal.returns
returns c =
    let a = c.args.one in
    let b = c.args.other in
    let is : c.eq.result ≡ alike a.id b.id a.payload b.payload = c.eq.ensures in (
      λ h.
          let parts = one_frame a.id b.id a.payload b.payload (sym is ∙ yes c.eq.result h) in
          ap (λ (i : Identifier). let f : CanFrame = record { id = i; payload = a.payload } in f) parts.0 ∙ ap (λ (p : Payload). let f : CanFrame = record { id = b.id; payload = p } in f) parts.1,
      λ same. told c.eq.result (is ∙ subst (λ (f : CanFrame). alike a.id f.id a.payload f.payload ≡ true) same (own_frame a.id a.payload)),
    )
