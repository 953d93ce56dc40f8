use Rattle.std.proofs.Common.{◌++◌, ◌∷◌, [], ap, ◌∙◌}
use Rattle.can_event.specs.declared.received.Received.{Received}
use Rattle.can_audit.proofs.Passing.{passing_more, pushed, left_out}
use Rattle.can_audit.proofs.post.passing_posts.Goals as goal
use Rattle.can_audit.proofs.post.passing_posts.Goals.{then-is_wanted+in_ok-push, else-is_wanted}

pub loop-post-preserved : goal.loop-post-preserved
loop-post-preserved c =
    let old = c.loop-post.passed.items in
    let x = c.post-item.result.received in
    passing_more c.args.filters.now c.args.options.now c.args.id.0 c.args.posts.now c.loop-post.post-index c.post-item.result old c.if-is_wanted.passed.items c.is_wanted.result c.loop-post-test.true c.post-item.is c.is_wanted.ensures c.loop-post.invariant
    (elim c.if-is_wanted.branch [
      | then-is_wanted+in_ok-push w ↦ pushed c.is_wanted.result old c.if-is_wanted.passed.items x w.if-is_wanted.true (ap (λ v. v.items) w.passed-is ∙ w.in_ok-push.ensures.items ∙ ap (λ (y : Received). old ++ y ∷ []) w.item_of.ensures)
      | else-is_wanted w ↦ left_out c.is_wanted.result old c.if-is_wanted.passed.items x w.if-is_wanted.false (ap (λ v. v.items) w.passed-is)
    ])
