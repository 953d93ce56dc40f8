use Rattle.std.proofs.Common.{◌≡◌, ℕ, ◌<◌, ◌≤◌, ◌+◌, ◌^◌, Bool, length, map, take, drop, ◌++◌, slice_get, slice_set, Some, All, ◌∙◌, arith, sym, ap, refl, subst}
use Rattle.can_attempt.specs.Attempts.{IsFaultFree, attempt_between, class_of, judged}
use Rattle.can_attempt.specs.declared.judgement.Judgement.{Judgement}
use Rattle.can_event.specs.declared.attempt.Tried.{Tried}
use Rattle.can_bus.specs.Attempted.{Outcome, outcome_of, transmission_of}
use Rattle.can_bus.specs.Changes.{Carries, settled, after_try, counting_down}
use Rattle.can_bus.specs.News.{outcome_posts}
use Rattle.can_bus.specs.Posts.{attempt_posts}
use Rattle.can_bus.specs.State.{InterfaceState, SocketState, Parts, key_in, reached}
use Rattle.can_bus.proofs.Keeping.{parts-are}
use Rattle.can_bus.proofs.Reading.{winner-ready, interface-at, heads-there, written_back}
use Rattle.can_bus.proofs.state.State.try_head.Goals as goal

pub index-interface-requires : goal.index-interface-requires
index-interface-requires g c = omega (arith, (winner-ready _ _ _ c.self.view_is c.requires.ready c.in_ok-winner.ensures.first).there, c.number.ensures.number)

pub returns-in_err-pending : goal.returns-in_err-pending
returns-in_err-pending g c =
    let ready = winner-ready _ _ _ c.self.view_is c.requires.ready c.in_ok-winner.ensures.first in
    absurd (heads-there _ _ _ ready (interface-at _ _ _ _ c.number.ensures.number ready c.index-interface.ensures) c.in_err-pending.ensures)

pub judge_known-judgement-requires-clause-there : goal.judge_known-judgement-requires-clause-there
judge_known-judgement-requires-clause-there g c = (winner-ready _ _ _ c.self.view_is c.requires.ready c.in_ok-winner.ensures.first).counted

pub judge_known-judgement-requires-clause-live : goal.judge_known-judgement-requires-clause-live
judge_known-judgement-requires-clause-live g c = (winner-ready _ _ _ c.self.view_is c.requires.ready c.in_ok-winner.ensures.first).live

pub finish_attempt-requires-clause-within : goal.finish_attempt-requires-clause-within
finish_attempt-requires-clause-within g c = (winner-ready _ _ _ c.self.view_is c.requires.ready c.in_ok-winner.ensures.first).there

pub finish_attempt-requires-clause-gone : goal.finish_attempt-requires-clause-gone
finish_attempt-requires-clause-gone g c = subst (λ (p : Parts). All (λ (l : InterfaceState). l.gone + 1 < 2 ^ 64) p.interfaces) (sym c.self.view_is) c.requires.gone

pub finish_attempt-requires-clause-done : goal.finish_attempt-requires-clause-done
finish_attempt-requires-clause-done g c = subst (λ (p : Parts). All (λ (l : InterfaceState). l.done + 1 < 2 ^ 64) p.interfaces) (sym c.self.view_is) c.requires.done

pub new-attempted-requires : goal.new-attempted-requires
new-attempted-requires g c = record {
  judged = c.judge_known-judgement.ensures ∙ ap (λ (u : Tried). judged (attempt_between c.self.inside.nodes u.winner c.args.verdict c.args.config.ack)) (sym c.tried_as-tried.ensures);
  few = subst (λ (p : Parts). p.nodes.count ≤ 16) (sym c.self.view_is) c.requires.few;
}

pub post_attempt-requires-clause-class : goal.post_attempt-requires-clause-class
post_attempt-requires-clause-class g c =
    let t = c.tried_as-tried.result in
    let o = outcome_of t c.args.verdict c.args.config.ack c.self.inside.nodes in
    let class : t.class ≡ class_of (transmission_of o) =
    ap (λ (u : Tried). u.class) c.tried_as-tried.ensures
    ∙ ap (λ (j : Judgement). j.class) c.judge_known-judgement.ensures
    ∙ ap (λ (u : Tried). class_of (attempt_between c.self.inside.nodes u.winner c.args.verdict c.args.config.ack)) (sym c.tried_as-tried.ensures) in
    subst (λ (x : Outcome). x.tried.class ≡ class_of (transmission_of x)) (sym c.new-attempted.ensures) class

pub post_attempt-requires-clause-calm : goal.post_attempt-requires-clause-calm
post_attempt-requires-clause-calm g c calm = subst (λ (x : Outcome). IsFaultFree x.nodes x.verdict x.ack) (sym c.new-attempted.ensures) (c.is_fault_free-is_fault_free.ensures calm)

pub post_attempt-requires-clause-dropped : goal.post_attempt-requires-clause-dropped
post_attempt-requires-clause-dropped g c =
    let dropped = subst (λ (p : Parts). All (λ (v : SocketState). v.dropped + 3 < 2 ^ 64) p.sockets) (sym c.self.view_is) c.requires.dropped in
    subst (All (λ (v : SocketState). v.dropped + 3 < 2 ^ 64)) (sym c.deref_mut.ensures.value) dropped

pub returns : goal.returns
returns g c =
    let p : Parts = record { interfaces = c.self.inside.interfaces.items; keys = g.A.Arbiter.keys_of c.self.inside.arbiter; nodes = c.self.inside.nodes; left = c.self.inside.countdown; sockets = c.self.inside.sockets.items; opened = c.self.inside.opened; tried = c.self.inside.tried } in
    let told = take c.self.inside.sockets.len (c.post_attempt.new.sockets ++ drop (length c.post_attempt.new.sockets) p.sockets) in
    let new : Parts = record { interfaces = c.finish_attempt.new.interfaces.items; keys = g.A.Arbiter.keys_of c.finish_attempt.new.arbiter; nodes = record p.nodes { counters = c.judge_known-judgement.result.counters }; left = c.start.new.self; sockets = told; opened = p.opened; tried = p.tried + 1 } in
    let w = c.in_ok-winner.winner in
    let interface = c.index-interface.result.now in
    let pending = c.in_ok-pending.pending in
    let t = c.tried_as-tried.result in
    let tr = attempt_between p.nodes w c.args.verdict c.args.config.ack in
    let who : t.winner ≡ w = ap (λ (u : Tried). u.winner) c.tried_as-tried.ensures in
    let ready = winner-ready _ _ _ c.self.view_is c.requires.ready c.in_ok-winner.ensures.first in
    let there : slice_get p.interfaces w ≡ Some interface = interface-at _ _ _ _ c.number.ensures.number ready c.index-interface.ensures in
    subst (λ (o : Parts). Carries o c.args.config c.args.moment c.args.verdict c.args.restarted t new) c.self.view_is
    (record {
      place = w;
      interface = interface;
      pending = pending;
      wins = c.in_ok-winner.ensures.first;
      there = there;
      oldest = sym c.in_ok-pending.ensures;
      tried = c.tried_as-tried.ensures
          ∙ ap (λ (n : ℕ). record { moment = c.args.moment; winner = w; number = n; frame = pending.frame; class = c.judge_known-judgement.result.class; accepted = c.judge_known-judgement.result.accepted; off = c.judge_known-judgement.result.off; restarted = c.args.restarted }) c.gone.ensures
          ∙ ap (λ (j : Judgement). record { moment = c.args.moment; winner = w; number = interface.gone; frame = pending.frame; class = j.class; accepted = j.accepted; off = j.off; restarted = c.args.restarted }) c.judge_known-judgement.ensures;
      after = parts-are new (after_try p c.args.config tr interface pending t)
          (c.finish_attempt.ensures.interfaces interface there ∙ ap (λ (b : Bool). slice_set p.interfaces w (settled t.class b interface)) c.contains-is_off.ensures)
          (c.finish_attempt.ensures.keys interface there ∙ ap (λ (b : Bool). slice_set p.keys w (key_in (slice_get (settled t.class b interface).waiting 0))) c.contains-is_off.ensures)
          (ap (λ (j : Judgement). record p.nodes { counters = j.counters }) c.judge_known-judgement.ensures)
          (c.start.ensures ∙ ap (λ (b : Bool). counting_down c.args.config.auto_restart w b p.left) c.contains-is_off.ensures)
          (written_back _ _ _ _ _ _ c.post_attempt.ensures c.deref_mut.ensures.value c.deref_mut.ensures.len
          ∙ ap (λ (o : Outcome). map (reached (outcome_posts c.args.config.reporting o pending)) p.sockets) c.new-attempted.ensures
          ∙ ap (λ (k : ℕ). map (reached (attempt_posts c.args.config.reporting (attempt_between p.nodes k c.args.verdict c.args.config.ack) t (Some pending))) p.sockets) who)
          refl refl;
    })
