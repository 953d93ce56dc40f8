use Rattle.std.proofs.Common.{true, Result, Ok, Err, OnErr, length, ap, sym, ◌∙◌, subst}
use Rattle.can_station.specs.Held.{Held}
use Rattle.can_station.specs.Passes.{IsStateOf, PassSeen, new_pass}
use Rattle.can_roll.specs.Seen.{SlipSeen}
use Rattle.can_station.proofs.station.Station.enter.Goals as goal

-- A claim that always holds also holds for every possible error.
on_err : {A E P : Type 0} (r : Result A E) → P → OnErr r P
on_err (Ok a) p = tt
on_err (Err e) p = p

abbrev seen : SlipSeen → PassSeen
seen s = record { number = s.number; pass = s.pass; calls = s.calls; keeps = true }

pub returns-in_err-slip-clause-err : goal.returns-in_err-slip-clause-err
returns-in_err-slip-clause-err g c =
    let state = subst (λ (h : Held g.row.F.Denot). IsStateOf c.args.self.now h) (sym c.deref_mut.ensures.value) c.hold.ensures in
    on_err c.from_residual.result (c.deref_mut.result.now, state, c.in_err-slip.ensures.err.0)

pub returns-clause-ok : goal.returns-clause-ok
returns-clause-ok g c =
    let state : IsStateOf c.args.self.now c.deref_mut.result.now = subst (λ (h : Held g.row.F.Denot). IsStateOf c.args.self.now h) (sym c.deref_mut.ensures.value) c.hold.ensures in
    (c.deref_mut.result.now, state, (c.in_ok-slip.ensures.ok.left, ap seen c.in_ok-slip.ensures.ok.next ∙ ap (λ n. new_pass n (length c.deref_mut.result.now.lists)) state.number))
