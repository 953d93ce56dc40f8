use Rattle.std.proofs.Common.{◌≡◌, ◌≤◌, ℕ, List, [], ◌∷◌, length, drop, None, refl, sym, ◌∙◌}
use Rattle.std.proofs.lemmas.List.{drop_all}
use Rattle.can_bits.specs.declared.bit.Bit.{Bit}
use Rattle.can_bits.specs.Text.{silence_after}
use Rattle.can_bits.proofs.silence.silent_at.Goals as goal

-- the other sender has no bits left
none_left : (k : ℕ) (bits : List Bit) → silence_after k bits [] ≡ None
none_left k [] = refl
none_left k (b ∷ bits) = refl

pub returns-in_default : goal.returns-in_default
returns-in_default c =
    let place = c.loop-place.place in
    let past : length c.args.others.now ≤ place = c.in_default.ensures.lookup.3 in
    sym (none_left place (drop place c.args.bits.now)) ∙ (rw (drop_all place c.args.others.now past) at c.loop-place.invariant)
