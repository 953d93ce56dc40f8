use Rattle.std.proofs.Common.{◌≡◌, ◌==◌, ℕ, length, take, codes, if◌then◌else◌, ap, ◌∙◌, arith}
use Rattle.std.specs.List.{flat_map, range_with_len}
use Rattle.can_replay.specs.inner.Seen.{told_put, told_put_at}
use Rattle.can_replay.proofs.Lists.{no_part, part_whole}
use Rattle.can_replay.proofs.parts.put_queued.Goals as goal

pub returns-then-is_empty : goal.returns-then-is_empty
unfolding told_put
returns-then-is_empty c =
    let none : length c.args.before.now ≡ 0 = grind (arith, c.is_empty.ensures, c.if-is_empty.true) in
    no_part (codes "put") c.args.out.now.items _ (ap (λ (n : ℕ). flat_map (told_put_at c.args.before.now c.args.state.now.sockets) (range_with_len 0 n)) none)

pub returns : goal.returns
returns c =
    let front = c.extend_from_slice.new.self.items in
    let all = c.put_all_items.new.out.items in
    let start : c.len-start.result ≡ length c.args.out.now.items = omega (arith, c.len-start.ensures, c.args.out.now.ok) in
    let end : c.len-end.result ≡ length front = omega (arith, c.len-end.ensures, c.extend_from_slice.new.self.ok) in
    part_whole (codes "put") c.args.out.now.items front all c.drop_bare.new.out.items (told_put c.args.before.now c.args.state.now.sockets)
    c.in_ok-extend_from_slice.ensures.items
    c.in_ok-put_all_items.ensures
    (c.drop_bare.ensures ∙ ap (λ (n : ℕ). if length all == n then take c.len-start.result all else all) end ∙ ap (λ (n : ℕ). if length all == length front then take n all else all) start)
