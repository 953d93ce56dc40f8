use Rattle.std.proofs.Common.{◌≡◌, ◌<◌, ◌∷◌, List, ℕ, length, take, sym, ap, ◌∙◌, arith}
use Rattle.std.proofs.lemmas.List.{length-set, take_more_set}
use Rattle.can_proto.specs.Words.{words_of}
use Rattle.can_proto.specs.Commands.{with_front, bytes_of}
use Rattle.can_proto.proofs.DataBytes.{more, ended}
use Rattle.can_proto.proofs.sending.spelled_bytes.Goals as goal

pub loop-i-preserved : goal.loop-i-preserved
loop-i-preserved g c =
    let front = take c.loop-i.i c.loop-i.bytes in
    let found = c.in_ok-byte.ensures.value in
    let after = words_of c.in_ok-byte.after.now in
    let same : with_front front (bytes_of (found.0 ∷ after)) ≡ bytes_of (words_of c.args.rest.now) = ap (λ (w : List (List ℕ)). with_front front (bytes_of w)) (sym found.1) ∙ c.loop-i.invariant.same in
    let small : c.loop-i.i < length c.loop-i.bytes = omega (arith, c.loop-i.invariant.whole, c.requires.small) in
    let count : length (words_of c.loop-i.rest.now) ≡ length (found.0 ∷ after) = ap (λ (w : List (List ℕ)). length w) found.1 in
    record {
      same = ap (λ (x : List ℕ). with_front x (bytes_of after)) (take_more_set c.loop-i.bytes c.loop-i.i c.in_ok-byte.byte small) ∙ more front found.0 c.in_ok-byte.byte after _ same (sym found.2);
      whole = simp length-set c.loop-i.invariant.whole;
      left = omega (arith, count, c.loop-i.invariant.left);
    }

pub returns-in-None-clause-value : goal.returns-in-None-clause-value
returns-in-None-clause-value g c =
    let done : c.loop-i.i ≡ c.args.len = omega arith in
    ended (take c.args.len c.loop-i.bytes) (words_of c.loop-i.rest.now) _ (ap (λ (w : List (List ℕ)). length w) c.in-None.ensures) (ap (λ (n : ℕ). with_front (take n c.loop-i.bytes) (bytes_of (words_of c.loop-i.rest.now))) (sym done) ∙ c.loop-i.invariant.same)
