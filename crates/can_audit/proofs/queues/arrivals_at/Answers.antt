use Rattle.std.proofs.Common.{◌≡◌, ◌++◌, List, length, take, drop, rules, subst, sym, ap, ◌∙◌}
use Rattle.can_event.specs.declared.entry.Entry.{Entry}
use Rattle.can_event.specs.declared.received.Received.{Received}
use Rattle.can_bus.specs.Queues.{queued_to, dropped_at}
use Rattle.can_audit.specs.inner.Noted.{room_after}
use Rattle.can_replay.specs.Histories.{before, IsHistory}
use Rattle.can_replay.proofs.EntriesBefore.{before_all}
use Rattle.can_audit.proofs.Queueing.{reads, queued_more, dropped_more}
use Rattle.can_audit.proofs.queues.arrivals_at.Goals as goal

pub loop-k-preserved : goal.loop-k-preserved
loop-k-preserved c =
    let past = before c.args.past.now c.loop-k.k in
    let s = c.args.id.0 in
    let queued = c.loop-k.arrivals.queued.items in
    let dropped = c.loop-k.arrivals.dropped.items in
    let offered = c.in_ok-offered.offered.items in
    let room = c.in_ok-room.room in
    let long : c.len.result ≡ length queued = search rules in
    let room_is : room ≡ room_after past s (length queued) = c.in_ok-room.ensures ∙ ap (room_after past s) long in
    record {
      queued = λ h.
          let r = reads c.args.config c.args.past.now c.loop-k.k c.index-past-k.result c.loop-k-test.true c.index-past-k.is h in
          queued_more c.args.config c.args.past.now c.loop-k.k s c.index-past-k.result room queued offered c.admit.new.arrivals.queued.items r (c.loop-k.invariant.queued r.past) (c.in_ok-offered.ensures r.now) room_is
          (c.in_ok-admit.ensures.queued ∙ ap (λ (rs : List Received). queued ++ take room rs) c.deref.ensures.value);
      dropped = λ h.
          let r = reads c.args.config c.args.past.now c.loop-k.k c.index-past-k.result c.loop-k-test.true c.index-past-k.is h in
          dropped_more c.args.config c.args.past.now c.loop-k.k s c.index-past-k.result room queued dropped offered c.admit.new.arrivals.dropped.items r (c.loop-k.invariant.queued r.past) (c.loop-k.invariant.dropped r.past) (c.in_ok-offered.ensures r.now) room_is
          (c.in_ok-admit.ensures.dropped ∙ ap (λ (rs : List Received). dropped ++ drop room rs) c.deref.ensures.value);
    }

pub returns : goal.returns
returns c =
    let all = before_all c.args.past.now c.loop-k.k c.loop-k-test.false in
    record {
      queued = λ h. c.loop-k.invariant.queued (subst (IsHistory c.args.config) (sym all) h) ∙ ap (λ (past : List Entry). queued_to c.args.config past c.args.id.0) all;
      dropped = λ h. c.loop-k.invariant.dropped (subst (IsHistory c.args.config) (sym all) h) ∙ ap (λ (past : List Entry). dropped_at c.args.config past c.args.id.0) all;
    }
