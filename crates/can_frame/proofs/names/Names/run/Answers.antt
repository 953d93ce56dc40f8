use Rattle.std.proofs.Common.{◌-◌, ℕ, List, slice_range, slice_index, string_bytes, IsAscii, sym, ap, ◌∙◌, subst, length, arith}
use Rattle.std.specs.List.{join_with_byte}
use Rattle.std.proofs.lemmas.Str.{IsCharBoundary-from_ascii}
use Rattle.can_frame.proofs.Starts.{run}
use Rattle.can_frame.proofs.names.Names.run.Goals as goal

pub overflow_sub-stop : goal.overflow_sub-stop
overflow_sub-stop c =
    let k = run (string_bytes c.self.inside.text) c.self.inside.starts c.self.inside.count c.args.first c.args.end c.self.invariant c.requires.some (omega (arith, c.requires.within, c.self.invariant.all, ap (λ (ns : List (List ℕ)). length ns) c.self.view_is)) in
    omega (arith, k.before)

pub range-requires-clause-start_le_end : goal.range-requires-clause-start_le_end
range-requires-clause-start_le_end c =
    let k = run (string_bytes c.self.inside.text) c.self.inside.starts c.self.inside.count c.args.first c.args.end c.self.invariant c.requires.some (omega (arith, c.requires.within, c.self.invariant.all, ap (λ (ns : List (List ℕ)). length ns) c.self.view_is)) in
    omega (arith, k.before)

pub range-requires-clause-start_boundary : goal.range-requires-clause-start_boundary
range-requires-clause-start_boundary c =
    let k = run (string_bytes c.self.inside.text) c.self.inside.starts c.self.inside.count c.args.first c.args.end c.self.invariant c.requires.some (omega (arith, c.requires.within, c.self.invariant.all, ap (λ (ns : List (List ℕ)). length ns) c.self.view_is)) in
    λ _. IsCharBoundary-from_ascii c.deref.result.now _ (subst IsAscii (sym c.deref.ensures) k.ascii) (omega (arith, k.before, k.within, ap length c.deref.ensures))

pub range-requires-clause-end_boundary : goal.range-requires-clause-end_boundary
range-requires-clause-end_boundary c =
    let k = run (string_bytes c.self.inside.text) c.self.inside.starts c.self.inside.count c.args.first c.args.end c.self.invariant c.requires.some (omega (arith, c.requires.within, c.self.invariant.all, ap (λ (ns : List (List ℕ)). length ns) c.self.view_is)) in
    IsCharBoundary-from_ascii c.deref.result.now _ (subst IsAscii (sym c.deref.ensures) k.ascii) (omega (arith, k.within, ap length c.deref.ensures))

pub returns : goal.returns
returns c =
    let k = run (string_bytes c.self.inside.text) c.self.inside.starts c.self.inside.count c.args.first c.args.end c.self.invariant c.requires.some (omega (arith, c.requires.within, c.self.invariant.all, ap (λ (ns : List (List ℕ)). length ns) c.self.view_is)) in
    let start = slice_index c.self.inside.starts c.args.first in
    let stop = slice_index c.self.inside.starts c.args.end - 1 in
    c.range.ensures.value ∙ ap (λ t. slice_range t start stop) c.deref.ensures ∙ k.is
    ∙ ap (λ (ns : List (List ℕ)). join_with_byte 44 (slice_range ns c.args.first c.args.end)) c.self.view_is
