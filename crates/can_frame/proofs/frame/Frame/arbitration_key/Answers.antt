use Rattle.std.proofs.Common.{◌≡◌, ◌%◌, ◌^◌, ◌<◌, true, false, bit_and, rules, arith}
use Rattle.std.proofs.lemmas.Nat.{and_mask}
use Rattle.can_frame.specs.Arbitration.{rtr_of}
use Rattle.can_frame.proofs.Keys.{key_of-standard, key_of-extended, rtr-below}
use Rattle.can_frame.proofs.frame.Frame.arbitration_key.Goals as goal

pub returns-then-is_extended : goal.returns-then-is_extended
returns-then-is_extended c =
    let f = c.args.self in
    let extended : f.id.extended ≡ true = search rules in
    let number : c.number-number.result ≡ f.id.number = search rules in
    let below : c.number-number.result < 2 ^ 29 = search rules in
    let rtr : c.from-rtr.result ≡ rtr_of f.payload = search rules in
    let lower : bit_and c.number-number.result 262143 ≡ c.number-number.result % 2 ^ 18 = and_mask c.number-number.result 18 in
    rw (key_of-extended f extended, ← number, ← rtr, lower) (omega arith)

pub returns-else-is_extended : goal.returns-else-is_extended
returns-else-is_extended c =
    let f = c.args.self in
    let standard : f.id.extended ≡ false = search rules in
    let number : c.number-number.result ≡ f.id.number = search rules in
    let below : c.number-number.result < 2 ^ 11 = search rules in
    let rtr : c.from-rtr.result ≡ rtr_of f.payload = search rules in
    rw (key_of-standard f standard, ← number, ← rtr) (omega (arith, rtr-below f.payload))
