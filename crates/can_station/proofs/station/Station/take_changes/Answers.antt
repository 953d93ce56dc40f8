use Rattle.std.proofs.Common.{Result, Ok, Err, IfOk, sym, subst}
use Rattle.can_station.specs.Held.{Held}
use Rattle.can_station.specs.Passes.{IsStateOf}
use Rattle.can_station.proofs.station.Station.take_changes.Goals as goal

-- A claim that holds for every value also holds for the returned value.
on_ok : {A E : Type 0} {P Q : A → Type 0} (r : Result A E) → ((a : A) → P a → Q a) → IfOk r P → IfOk r Q
on_ok (Ok a) follows p = follows a p
on_ok (Err e) follows p = tt

pub returns : goal.returns
returns g c =
    let state : IsStateOf c.args.self.now c.deref_mut.result.now = subst (λ (h : Held g.row.F.Denot). IsStateOf c.args.self.now h) (sym c.deref_mut.ensures.value) c.hold.ensures in
    on_ok c.take_changes.result (λ lines taken. (c.deref_mut.result.now, state, taken)) c.take_changes.ensures.taken
