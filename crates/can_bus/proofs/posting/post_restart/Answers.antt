use Rattle.std.proofs.Common.{◌≡◌, ℕ, ◌^◌, ◌==◌, List, [], ◌∷◌, map, bit_or, Some, refl, ap, sym, ◌∙◌, inl, inr, if◌then◌else◌}
use Rattle.std.specs.Int.{bit_at}
use Rattle.std.proofs.lemmas.Bool.{cases_eq, eq-eqb, ne_eqb}
use Rattle.std.proofs.lemmas.Nat.Bits.{bit_at-pow_same, bit_at-pow_other}
use Rattle.can_frame.specs.Sets.{is_in}
use Rattle.can_frame.specs.declared.iface.IfaceSet.{IfaceSet}
use Rattle.can_errframe.specs.ErrorMessages.{restart_message}
use Rattle.can_bus.specs.Posts.{Post, restart_posts, auto_restart_posts, error_posts}
use Rattle.can_bus.specs.State.{SocketState, filled, reached}
use Rattle.can_bus.proofs.Filling.{wanted}
use Rattle.can_bus.proofs.posting.post_restart.Goals as goal

in-one : (set : IfaceSet) (k i : ℕ) → set.0 ≡ bit_or 0 (2 ^ k) → is_in i set ≡ (i == k)
in-one set k i one =
    elim (cases_eq i k) [
      | inl same ↦
          let bit : bit_at (2 ^ k) i ≡ 1 = rw same (bit_at-pow_same k) in
          ap (λ (b : ℕ). bit_at b i == 1) one ∙ ap (λ (b : ℕ). b == 1) bit ∙ sym (eq-eqb i k same)
      | inr other ↦
          let bit : bit_at (2 ^ k) i ≡ 0 = bit_at-pow_other k i other in
          ap (λ (b : ℕ). bit_at b i == 1) one ∙ ap (λ (b : ℕ). b == 1) bit ∙ sym (ne_eqb i k other)
    ]

told-one : (set : IfaceSet) (k m : ℕ) → set.0 ≡ bit_or 0 (2 ^ k) → (vs : List SocketState) → map (reached (auto_restart_posts set m)) vs ≡ map (reached (restart_posts k m)) vs
told-one set k m one [] = refl
told-one set k m one (v ∷ vs) =
    let posts : auto_restart_posts set m v.iface ≡ restart_posts k m v.iface = ap (λ b. if b then error_posts v.iface m (Some restart_message) else []) (in-one set k v.iface one) in
    let here : reached (auto_restart_posts set m) v ≡ reached (restart_posts k m) v = ap (λ (ps : List Post). filled v (wanted v ps)) posts in
    let rest = told-one set k m one vs in
    cc

pub returns : goal.returns
returns g c =
    let one = c.with.ensures ∙ ap (λ (s : IfaceSet). bit_or s.0 (2 ^ c.args.iface)) c.empty.ensures in
    c.post_restarts.ensures ∙ told-one c.with.result c.args.iface c.args.moment one c.args.sockets.now
