use Rattle.std.proofs.Common.{◌≡◌, take}
use Rattle.can_bus.specs.Queues.{passing}
use Rattle.can_audit.proofs.post.passing_posts.Given as goal

abbrev pub invariant-loop-post : goal.invariant-loop-post
invariant-loop-post l = l.passed.items ≡ passing l.filters l.options l.id.0 (take l.post-index l.posts)
