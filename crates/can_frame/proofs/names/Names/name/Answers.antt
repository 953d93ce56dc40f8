use Rattle.std.proofs.Common.{◌≡◌, ◌+◌, ◌-◌, [], get_or, slice_get, slice_range, slice_index, string_bytes, Some, IsAscii, sym, ap, ◌∙◌, subst, length, arith}
use Rattle.std.proofs.lemmas.Option.{slice_get-get_or}
use Rattle.std.proofs.lemmas.Str.{IsCharBoundary-from_ascii}
use Rattle.can_frame.specs.Names.{names_in}
use Rattle.can_frame.proofs.Starts.{IsCut, cut}
use Rattle.can_frame.proofs.names.Names.name.Goals as goal
use Rattle.can_frame.proofs.names.Names.name.Goals.{After-number-place}

here : (c : After-number-place) → IsCut (string_bytes c.self.inside.text) (slice_index c.self.inside.starts c.number-place.result) (slice_index c.self.inside.starts (c.number-place.result + 1)) (get_or (names_in (string_bytes c.self.inside.text)) c.number-place.result [])
here c = cut (string_bytes c.self.inside.text) c.self.inside.starts c.self.inside.count c.number-place.result c.self.invariant (omega (arith, c.number.ensures.number, c.number-place.ensures.number, c.if-number-self.false))

pub overflow_sub-end : goal.overflow_sub-end
overflow_sub-end c =
    let k = here (goal.at.overflow_sub-end c).After-number-place in
    omega (arith, k.before)

pub range-requires-clause-start_le_end : goal.range-requires-clause-start_le_end
range-requires-clause-start_le_end c =
    let k = here (goal.at.range-requires-clause-start_le_end c).After-number-place in
    omega (arith, k.before)

pub range-requires-clause-start_boundary : goal.range-requires-clause-start_boundary
range-requires-clause-start_boundary c =
    let k = here (goal.at.range-requires-clause-start_boundary c).After-number-place in
    λ _. IsCharBoundary-from_ascii c.deref.result.now _ (subst IsAscii (sym c.deref.ensures) k.ascii) (omega (arith, k.before, k.within, ap length c.deref.ensures))

pub range-requires-clause-end_boundary : goal.range-requires-clause-end_boundary
range-requires-clause-end_boundary c =
    let k = here (goal.at.range-requires-clause-end_boundary c).After-number-place in
    IsCharBoundary-from_ascii c.deref.result.now _ (subst IsAscii (sym c.deref.ensures) k.ascii) (omega (arith, k.within, ap length c.deref.ensures))

pub returns : goal.returns
returns c =
    let k = here (goal.at.returns c).After-number-place in
    let names = names_in (string_bytes c.self.inside.text) in
    let start = slice_index c.self.inside.starts c.number-place.result in
    let end = slice_index c.self.inside.starts (c.number-place.result + 1) - 1 in
    let name : c.range.result.now ≡ get_or names c.number-place.result [] = c.range.ensures.value ∙ ap (λ t. slice_range t start end) c.deref.ensures ∙ k.is in
    ap Some name
    ∙ sym (slice_get-get_or names c.number-place.result [] (omega (arith, c.number.ensures.number, c.number-place.ensures.number, c.if-number-self.false, c.self.invariant.all)))
    ∙ ap (λ n. slice_get names n) c.number-place.ensures.number
    ∙ ap (λ ns. slice_get ns c.args.iface) c.self.view_is
