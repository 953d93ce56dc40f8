use Rattle.std.proofs.Common.{◌≡◌, List, Option, ℕ, length, reverse, IfSome, ap, subst, arith}
use Rattle.can_arbiter.specs.Keys.{IsWinner, IsIdle}
use Rattle.can_bus.specs.State.{key_in, kept_keys}
use Rattle.can_bus.specs.Transmit.{head_of}
use Rattle.can_audit.proofs.Competing.{set_more, long_more, competed, keys-are}
use Rattle.can_audit.proofs.attempts.first_of.Goals as goal

pub loop-place-init : goal.loop-place-init
loop-place-init g c = record { long = ap length c.new-arbiter.ensures; filled = λ k h. absurd (omega arith) }

pub loop-place-preserved : goal.loop-place-preserved
loop-place-preserved g c =
    let past = reverse c.args.past.now in
    let keys = g.A.Arbiter.keys_of c.loop-place.arbiter in
    let long = c.loop-place.invariant.long in
    let set = competed past keys (g.A.Arbiter.keys_of c.compete.new.arbiter) c.loop-place.place c.iface_at-iface.result c.in_ok-head.head c.iface_at-iface.ensures c.in_ok-head.ensures c.compete.ensures in
    record {
      long = long_more keys (g.A.Arbiter.keys_of c.compete.new.arbiter) c.loop-place.place _ long set;
      filled = set_more (λ i. key_in (head_of past i)) keys (g.A.Arbiter.keys_of c.compete.new.arbiter) c.loop-place.place (omega (arith, long, c.loop-place-test.true)) c.loop-place.invariant.filled set;
    }

pub returns : goal.returns
returns g c =
    let past = reverse c.args.past.now in
    let keys = g.A.Arbiter.keys_of c.loop-place.arbiter in
    let are : keys ≡ kept_keys past = keys-are past keys c.loop-place.invariant.long (λ k h. c.loop-place.invariant.filled k (omega (arith, h, c.loop-place-test.false))) in
    record {
      first = subst (λ (ks : List (Option ℕ)). IfSome c.winner.result (λ i. IsWinner ks i)) are c.winner.ensures.first;
      none = λ nobody. subst IsIdle are (c.winner.ensures.none.0 nobody);
    }
