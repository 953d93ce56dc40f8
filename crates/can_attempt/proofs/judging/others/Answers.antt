use Rattle.std.proofs.Common.{◌≡◌, ℕ, ◌/◌, ◌%◌, ◌*◌, ◌-◌, ◌^◌, bit_xor, ap, ◌∙◌, arith}
use Rattle.std.proofs.lemmas.Nat.{one_shl}
use Rattle.std.proofs.lemmas.Nat.Bits.{ones_shr}
use Rattle.can_attempt.proofs.Calm.{bits-others}
use Rattle.can_attempt.proofs.judging.others.Goals as goal

pub returns : goal.returns
returns c =
    let rest : 16 - (16 - c.args.count) ≡ c.args.count = omega (arith, c.requires.count) in
    let all : 65535 / 2 ^ (16 - c.args.count) ≡ 2 ^ c.args.count - 1 = ones_shr 16 (16 - c.args.count) (omega arith) ∙ ap (λ (n : ℕ). 2 ^ n - 1) rest in
    let one : 1 * 2 ^ c.number.result % 65536 ≡ 2 ^ c.args.one = one_shl c.number.result 16 c.number.ensures.below ∙ ap (λ (n : ℕ). 2 ^ n) c.number.ensures.number in
    ap (λ (b : ℕ). record { 0 = b })
    (ap (λ (n : ℕ). bit_xor n (1 * 2 ^ c.number.result % 65536)) all
    ∙ ap (bit_xor (2 ^ c.args.count - 1)) one
    ∙ bits-others c.args.count c.args.one c.requires.there)
