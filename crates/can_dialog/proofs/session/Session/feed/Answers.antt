use Rattle.std.proofs.Common.{◌++◌, ◌∷◌, [], false, vec_capacity, sym, ap, subst, ◌∙◌}
use Rattle.can_proto.specs.Commands.{IsLoneSend}
use Rattle.can_dialog.specs.Sessions.{SessionState}
use Rattle.can_dialog.proofs.Turning.{on_ok}
use Rattle.can_dialog.proofs.LoneSends.{lone_turns, lone_said}
use Rattle.can_dialog.proofs.Room.{kept_few, enough}
use Rattle.can_dialog.proofs.session.Session.feed.Goals as goal

pub take_turns-requires : goal.take_turns-requires
take_turns-requires g c = record {
  empty = c.make_room.ensures.empty;
  room = enough c.self.inside.reader c.args.piece.now c.deref.result.now (vec_capacity c.make_room.new.said) c.self.invariant
      (c.deref.ensures.value ∙ c.in-Ok.ensures.given)
      (on_ok c.make_room.result (sym c.is_err.ensures.value ∙ c.if-is_err.false) c.make_room.ensures.room);
}

pub invariant_of-self-then-not-put : goal.invariant_of-self-then-not-put
invariant_of-self-then-not-put g c = rw c.in-Ok.ensures.keeps (kept_few (c.self.inside.reader ++ c.args.piece.now))

pub invariant_of-self-else-not-put : goal.invariant_of-self-else-not-put
invariant_of-self-else-not-put g c = rw c.in-Ok.ensures.keeps (kept_few (c.self.inside.reader ++ c.args.piece.now))

pub returns-in-Some-clause-said : goal.returns-in-Some-clause-said
returns-in-Some-clause-said g c =
    let stage = sym (ap (λ (s : SessionState). s.dialog.stage) c.self.view_is) ∙ c.in-Raw.is in
    let lone = subst (λ (s : SessionState). IsLoneSend (s.kept ++ c.args.piece.now) c.in-Some.frame) c.self.view_is c.in-Some.ensures.sends in
    lone_said g.P.Port.step g.W.Write.contents c.args.moment c.args.self.now.dialog c.in-Raw.raw c.in-Some.frame (c.args.self.now.kept ++ c.args.piece.now) c.args.port.now c.pass_on.new.port c.args.out.now c.pass_on.new.out c.pass_on.new.self.dialog c.pass_on.result
    stage lone c.pass_on.ensures.said

pub returns-in-Some-clause-cut : goal.returns-in-Some-clause-cut
returns-in-Some-clause-cut g c = λ e.
    let stage = sym (ap (λ (s : SessionState). s.dialog.stage) c.self.view_is) ∙ c.in-Raw.is in
    let lone = subst (λ (s : SessionState). IsLoneSend (s.kept ++ c.args.piece.now) c.in-Some.frame) c.self.view_is c.in-Some.ensures.sends in
    let h = c.pass_on.ensures.cut e in
    record {
      forgotten = false ∷ [];
      text = h.0;
      mid = h.1;
      port = h.2;
      some = h.3;
      turns = lone_turns g.P.Port.step c.args.moment c.args.self.now.dialog c.in-Raw.raw c.in-Some.frame (c.args.self.now.kept ++ c.args.piece.now) c.args.port.now h.2 h.0 h.1 stage lone h.4;
      ends = h.5;
    }
