use Rattle.std.proofs.Common.{◌≡◌, ◌∙◌, ◌-◌, length, take, drop, Some, refl, sym, arith}
use Rattle.std.proofs.lemmas.List.{take_all, length-drop}
use Rattle.can_frame.specs.Numbers.{number_in}
use Rattle.can_frame.specs.FrameGuess.{short_item_in}
use Rattle.can_frame.proofs.frame_guess.with_three.Goals as goal

pub returns : goal.returns
unfolding short_item_in
returns c =
    let rest : take (length c.args.text.now - 4) (drop 4 c.args.text.now) ≡ drop 4 c.args.text.now = take_all (length c.args.text.now - 4) (drop 4 c.args.text.now) (omega (arith, length-drop 4 c.args.text.now)) in
    let number : number_in 16 3 (take 3 c.args.text.now) ≡ Some c.in_ok-number.number = sym c.read_hexadecimal.ensures.value ∙ c.in_ok-number.was in
    c.standard.ensures ∙ rw (rest, number) refl
