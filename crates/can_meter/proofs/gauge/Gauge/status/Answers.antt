use Rattle.std.proofs.Common.{◌≡◌, ◌<◌, ◌∙◌, ap, sym, subst}
use mathlib.Core.List.{IsSuffix}
use Rattle.can_meter.specs.Publications.{published}
use Rattle.can_meter.specs.Readings.{Readings, readings, knowing, knowing_of}
use Rattle.can_meter.specs.Rule.{seat_lists}
use Rattle.can_meter.specs.Words.{Fits}
use Rattle.can_meter.proofs.Lists.{fits-newest}
use Rattle.can_meter.proofs.Seated.{seated_in, reads_at, shows_newest, shows_more, shows_one}
use Rattle.can_meter.proofs.gauge.Gauge.status.Goals as goal

pub load-word-requires : goal.load-word-requires
load-word-requires g c =
    let me = c.self.inside.seat.me in
    let seated = seated_in _ _ _ me _ _ _ _ (ap (λ t. t.shared.table_id) c.deref.ensures) (ap (λ t. t.shared.key) c.deref.ensures) c.self.invariant in
    reads_at _ _ _ me _ _ _ c.args.iface (seat_lists me.0) seated (subst (λ (v : Readings). c.args.iface < v.ifaces) (sym c.self.view_is) c.requires)

pub read_word-requires : goal.read_word-requires
read_word-requires g c = let r = c.load-word.ensures.2 in subst Fits (sym r.5) (fits-newest r.0 r.4)

pub returns-clause-status : goal.returns-clause-status
returns-clause-status g c = c.read_word.ensures ∙ shows_newest _ _ c.self.inside.seat.me c.load-word.new.seat.me c.load-word.ensures.2

pub returns-clause-grows : goal.returns-clause-grows
returns-clause-grows g c =
    subst (λ (v : Readings). IsSuffix (published v.lists c.args.iface) (published (seat_lists c.load-word.new.seat.me.0) c.args.iface))
    c.self.view_is
    (shows_more _ _ c.self.inside.seat.me c.load-word.new.seat.me c.load-word.ensures.2)

pub returns-clause-others : goal.returns-clause-others
returns-clause-others g c =
    let lists = seat_lists c.load-word.new.seat.me.0 in
    let before : Readings = readings c.self.inside.number (g.N.MeterName.meter c.self.inside.number).words (seat_lists c.self.inside.seat.me.0) in
    subst (λ (v : Readings). knowing before lists ≡ knowing_of v c.args.iface (published lists c.args.iface)) c.self.view_is
    (ap (knowing before) (shows_one _ _ c.self.inside.seat.me c.load-word.new.seat.me c.load-word.ensures.2))
