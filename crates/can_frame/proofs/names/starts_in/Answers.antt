use Rattle.std.proofs.Common.{◌≡◌, ◌+◌, ◌<◌, ◌≤◌, length, get_or, slice_index, sym, ap, ◌∙◌, lit<, arith}
use Rattle.std.proofs.lemmas.List.{length_push, length-set}
use Rattle.std.proofs.lemmas.Iterator.Consumers.{YieldsList-turn, YieldsList-end}
use Rattle.std.proofs.lemmas.Iterator.Splits.{YieldsList-from_str_split}
use Rattle.can_frame.specs.Names.{names_in, start_of}
use Rattle.can_frame.proofs.Starts.{turn, added}
use Rattle.can_frame.proofs.names.starts_in.Goals as goal

pub bounds-starts-place : goal.bounds-starts-place
bounds-starts-place c =
    let at = YieldsList-turn (YieldsList-from_str_split 44 c.args.text.now (lit< tt) (cc) (cc) (cc)) c.loop-name.yielded _ c.loop-name.yielded_by _ _ c.in-Some.name c.in-Some.is c.next.ensures.steps in
    omega (arith, at.0, c.requires.few, c.loop-name.invariant.1)

-- the name of this turn is the next one, and its start and length are small
this : (c : goal.In-Some) → (c.loop-name.place < 16) × (slice_index c.loop-name.starts c.loop-name.place + length c.in-Some.name.now + 1 ≤ 256) × (slice_index c.loop-name.starts c.loop-name.place + length c.in-Some.name.now + 1 ≡ start_of (names_in c.args.text.now) (c.loop-name.place + 1))
this c =
    let names = names_in c.args.text.now in
    let name = c.in-Some.name.now in
    let at = YieldsList-turn (YieldsList-from_str_split 44 c.args.text.now (lit< tt) (cc) (cc) (cc)) c.loop-name.yielded _ c.loop-name.yielded_by _ _ c.in-Some.name c.in-Some.is c.next.ensures.steps in
    let here : name ≡ get_or names c.loop-name.place name = at.1 ∙ ap (λ n. get_or names n name) (sym c.loop-name.invariant.1) in
    turn names c.loop-name.starts name c.loop-name.place c.requires (omega (arith, at.0, c.loop-name.invariant.1)) here c.loop-name.invariant.2

pub overflow_cast-starts : goal.overflow_cast-starts
overflow_cast-starts c = omega (arith, (this c).1)

pub overflow_add-starts : goal.overflow_add-starts
overflow_add-starts c = omega (arith, (this c).1)

pub overflow_add-starts-in-loop-name : goal.overflow_add-starts-in-loop-name
overflow_add-starts-in-loop-name c = omega (arith, (this c).1)

pub offset_bounds-starts-place-in-loop-name : goal.offset_bounds-starts-place-in-loop-name
offset_bounds-starts-place-in-loop-name c = omega (arith, (this c).0)

pub bounds-starts-place-in-loop-name : goal.bounds-starts-place-in-loop-name
bounds-starts-place-in-loop-name c = omega (arith, (this c).0)

pub loop-name-preserved : goal.loop-name-preserved
loop-name-preserved c = (
  length-set c.loop-name.starts (c.loop-name.place + 1) _ ∙ c.loop-name.invariant.0,
  omega (arith, c.loop-name.invariant.1, length_push c.loop-name.yielded c.in-Some.name),
  added (names_in c.args.text.now) c.loop-name.starts c.loop-name.place _ c.loop-name.invariant.0 (this c).0 c.loop-name.invariant.2 (this c).2,
)

pub returns : goal.returns
returns c =
    let end = YieldsList-end (YieldsList-from_str_split 44 c.args.text.now (lit< tt) (cc) (cc) (cc)) c.loop-name.yielded _ c.loop-name.yielded_by _ _ c.in-None.is c.next.ensures.steps in
    λ k inside. c.loop-name.invariant.2 k (omega (arith, inside, end.1, c.loop-name.invariant.1))
