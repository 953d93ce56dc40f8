use Rattle.std.proofs.Common.{◌≡◌, ◌<◌, ◌+◌, ◌^◌, map, Some, All, sym, ap, ◌∙◌, subst, arith}
use Rattle.can_fault.specs.declared.verdict.Verdict.{Verdict}
use Rattle.can_attempt.specs.Attempts.{attempt_between, class_of}
use Rattle.can_attempt.specs.declared.class.Class.TheVariants as class
use Rattle.can_attempt.proofs.Calm.{calm_class}
use Rattle.can_event.specs.declared.attempt.Tried.{Tried}
use Rattle.can_bus.specs.Attempted.{transmission_of}
use Rattle.can_bus.specs.News.{frame_posts, fault_posts, outcome_posts}
use Rattle.can_bus.specs.State.{SocketState, reached}
use Rattle.can_bus.proofs.Filling.{calm_posts, frame-dropped, in_two_parts, map-reached_both, map-reached_same}
use Rattle.can_bus.proofs.posting.post_attempt.Goals as goal

pub post_frame-requires : goal.post_frame-requires
post_frame-requires g c = λ k d h. omega (arith, c.requires.dropped k d h)

pub post_faults-requires : goal.post_faults-requires
post_faults-requires g c = subst (All (λ (v : SocketState). v.dropped + 2 < 2 ^ 64)) (sym c.post_frame.ensures) (frame-dropped c.tried.result.now c.args.pending.now c.args.sockets.now c.requires.dropped)

pub returns-then-not-is_fault_free : goal.returns-then-not-is_fault_free
returns-then-not-is_fault_free g c =
    let o = c.args.attempted.now in
    let p = c.args.pending.now in
    let frame = c.post_frame.ensures ∙ ap (λ (t : Tried). map (reached (frame_posts t p)) c.args.sockets.now) c.tried.ensures in
    c.post_faults.ensures ∙ ap (map (reached (fault_posts c.args.reporting o))) frame
    ∙ map-reached_both (frame_posts o.tried p) (fault_posts c.args.reporting o) (outcome_posts c.args.reporting o p) (in_two_parts c.args.reporting o p) c.args.sockets.now

pub returns-else-not-is_fault_free : goal.returns-else-not-is_fault_free
returns-else-not-is_fault_free g c =
    let o = c.args.attempted.now in
    let p = c.args.pending.now in
    let calm = c.requires.calm c.if-not-is_fault_free.false in
    let whole : class_of (transmission_of o) ≡ class.Done =
    ap (λ (v : Verdict). class_of (attempt_between o.nodes o.tried.winner v o.ack)) calm.good ∙ calm_class o.nodes o.tried.winner calm.zeros o.ack calm.acknowledged in
    let frame = c.post_frame.ensures ∙ ap (λ (t : Tried). map (reached (frame_posts t p)) c.args.sockets.now) c.tried.ensures in
    frame
    ∙ map-reached_same (frame_posts o.tried p) (outcome_posts c.args.reporting o p)
    (λ i. sym (calm_posts c.args.reporting o.nodes o.tried.winner o.verdict o.ack o.tried (Some p) calm.good (c.requires.class ∙ whole) whole calm.zeros i)) c.args.sockets.now
