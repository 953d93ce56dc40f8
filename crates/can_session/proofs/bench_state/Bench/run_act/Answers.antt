use Rattle.std.proofs.Common.{◌≡◌, ℕ, ◌<◌, Option, Some, slice_get, slice_set, sym, ap, subst, ◌∙◌}
use Rattle.std.proofs.lemmas.Option.{slice_get-get_or}
use Rattle.can_dialog.specs.Sessions.{SessionState}
use Rattle.can_session.specs.Benches.{BenchState, Speaks}
use Rattle.can_session.specs.declared.ignored_input.IgnoredInput.{IgnoredInput}
use Rattle.can_session.specs.inner.Acts.{done_by, noted}
use Rattle.can_session.proofs.Speaking.{speaks, ends_spoken}
use Rattle.can_session.proofs.bench_state.Bench.run_act.Goals as goal

pub returns-in_ok-end_output-in-Some-clause-spoke : goal.returns-in_ok-end_output-in-Some-clause-spoke
returns-in_ok-end_output-in-Some-clause-spoke c =
    let stood = c.self.inside in
    let old : BenchState = record { capacity = stood.capacity; shows_faults = stood.shows_faults; bus = stood.port; sessions = stood.sessions.items; moment = stood.moment; ignored = stood.ignored } in
    let heard : BenchState = noted c.args.act c.args.session old in
    let after = λ (u : IgnoredInput). record heard { sessions = slice_set stood.sessions.items c.place.result (Some c.carry_out.new.session); bus = c.carry_out.new.port; ignored = u } in
    let within = subst (λ (n : ℕ). c.place.result < n) (sym c.self.invariant) c.place.ensures.within in
    let there : slice_get stood.sessions.items c.place.result ≡ Some (Some c.in-Some.speaker)
    = slice_get-get_or stood.sessions.items c.place.result c.index_mut.result.now within ∙ ap (λ (x : Option SessionState). Some x) (sym c.index_mut.ensures.value ∙ c.in-Some.is) in
    let did = c.in_ok-carry_out-in-Some.ensures in
    let begun = c.in_ok-begun-in-Some.ensures in
    let put = ends_spoken c.args.session c.in_ok-begun-in-Some.begun did.0 c.begin_output.new.said.items c.carry_out.new.said.items c.end_output.new.said.items begun.text begun.len did.2 c.in_ok-end_output-in-Some.ensures.none c.in_ok-end_output-in-Some.ensures.some in
    subst (λ (b : BenchState). Speaks (done_by c.args.act b.moment) c.args.session (noted c.args.act c.args.session b) c.end_output.new.said.items (after c.note.new.ignored)) c.self.view_is
    (subst (λ (u : IgnoredInput). Speaks (done_by c.args.act stood.moment) c.args.session heard c.end_output.new.said.items (after u)) (sym c.note.ensures)
    (speaks (done_by c.args.act stood.moment) c.args.session c.place.result heard c.in-Some.speaker c.carry_out.new.session did.0 c.end_output.new.said.items c.carry_out.new.port
    c.place.ensures.place there did.1 put))
