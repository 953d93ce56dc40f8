use Rattle.std.proofs.Common.{◌≡◌, ℕ, ◌-◌, ◌++◌, length, slice_get, get_or, unwrap_or, Option, Some, None, refl, ap, ◌∙◌, arith}
use Rattle.std.specs.List.{flat_map, range_with_len}
use Rattle.std.specs.Option.{option_map}
use Rattle.can_bus.specs.State.{InterfaceState}
use Rattle.can_bus.specs.Stats.{lost_of}
use Rattle.can_replay.specs.Words.{lost_part}
use Rattle.can_replay.specs.inner.Seen.{lost_in, told_lost, told_lost_at}
use Rattle.can_replay.proofs.Lists.{more}
use Rattle.can_replay.proofs.parts.put_all_lost.Goals as goal

lost_or_none : (o : Option InterfaceState) → unwrap_or (option_map lost_of o) 0 ≡ lost_in o
lost_or_none None = refl
lost_or_none (Some l) = refl

pub loop-i-preserved : goal.loop-i-preserved
loop-i-preserved c =
    let i = c.loop-i.i in
    let interface = slice_get c.args.state.now.interfaces i in
    let now : c.unwrap_or-lost.result ≡ lost_in interface = c.unwrap_or-lost.ensures ∙ ap (λ (o : Option ℕ). unwrap_or o 0) c.lost_at.ensures ∙ lost_or_none interface in
    let since : c.saturating_sub.result ≡ lost_in interface - get_or c.args.before.now i 0 = c.saturating_sub.ensures ∙ ap (λ (n : ℕ). n - get_or c.args.before.now i 0) now in
    more (told_lost_at c.args.before.now c.args.state.now.interfaces) c.args.out.now.items c.loop-i.out.items c.put_lost.new.out.items i c.loop-i.invariant
    (c.in_ok-put_lost.ensures ∙ ap (λ (n : ℕ). c.loop-i.out.items ++ lost_part i n) since)

pub returns : goal.returns
unfolding told_lost
returns c =
    let end : c.loop-i.i ≡ length c.args.before.now = omega (arith, c.loop-i-test.false, c.loop-i.auto.i-end) in
    c.loop-i.invariant ∙ ap (λ (n : ℕ). c.args.out.now.items ++ flat_map (told_lost_at c.args.before.now c.args.state.now.interfaces) (range_with_len 0 n)) end
