use Rattle.std.proofs.Common.{◌≡◌, ◌+◌, ◌∷◌, ◌∙◌, ℕ, suc, [], ap, arith, length, length-append, subst, sym}
use Rattle.std.specs.Vec.Iter.{into_iter_items}
use Rattle.std.proofs.lemmas.List.Elements.{All-head, All-tail}
use Rattle.can_hub.specs.Settling.{AreNewScrolls}
use Rattle.canbusd_serve.specs.LongRuns.{AreBegun, HaveLines}
use Rattle.canbusd_serve.specs.declared.live_files.LiveFiles.{LiveFiles}
use Rattle.canbusd_serve.proofs.serve_job.keepers_of.Goals as goal

pub loop-scroll-init : goal.loop-scroll-init
loop-scroll-init g c =
    let given = c.into_iter-scroll-iterator.ensures.into_iter_gives in
    let files = c.into_iter-files.ensures in
    let none : length c.new-kept.result.items ≡ 0 = ap length c.new-kept.ensures.items in
    record {
      begun = subst (AreBegun g.F.Write.contents) (sym files.rest) c.requires.begun;
      new = subst (λ (n : ℕ). AreNewScrolls n (into_iter_items c.into_iter-scroll-iterator.result)) (sym none) (subst (AreNewScrolls 0) (sym given.0) c.requires.scrolls);
      files = omega (arith, files.len, ap length files.rest, c.args.files.ok.0);
      scrolls = omega (arith, given.1, ap length given.0, c.args.scrolls.ok.0);
      same = omega (arith, given.1, files.len, c.args.files.ok.0, c.args.scrolls.ok.0, c.requires.each);
      each = omega (arith, none, given.1, c.args.scrolls.ok.0);
    }

pub new-requires : goal.new-requires
new-requires g c =
    All-head (λ (f : LiveFiles g.row.F.Denot). HaveLines g.F.Write.contents [] f) c.in-Some-next.files (into_iter_items c.next-in-loop-scroll.new.self)
    (subst (AreBegun g.F.Write.contents) c.in-Some-next.ensures.items c.loop-scroll.invariant.begun)

pub loop-scroll-preserved : goal.loop-scroll-preserved
loop-scroll-preserved g c =
    let i = c.loop-scroll.invariant in
    let steps = c.in-Some.ensures.steps in
    let files = c.in-Some-next.ensures in
    let more = into_iter_items c.next-in-loop-scroll.new.self in
    let rest = into_iter_items c.next.new.self in
    let new = c.push.new.self.items in
    let longer : length new ≡ length c.loop-scroll.kept.items + 1 = ap length c.in_ok-push.ensures.items ∙ length-append c.loop-scroll.kept.items (c.new-in-loop-scroll.result ∷ []) in
    let fresh = subst (AreNewScrolls (length c.loop-scroll.kept.items)) steps.0 i.new in
    let next : suc (length c.loop-scroll.kept.items) ≡ length new = omega (arith, longer) in
    record {
      begun = All-tail (λ (f : LiveFiles g.row.F.Denot). HaveLines g.F.Write.contents [] f) c.in-Some-next.files more (subst (AreBegun g.F.Write.contents) files.items i.begun);
      new = subst (λ (n : ℕ). AreNewScrolls n rest) next fresh.1;
      files = omega (arith, files.len, i.files, ap length files.items);
      scrolls = omega (arith, steps.1, i.scrolls, ap length steps.0);
      same = omega (arith, steps.1, files.len, i.same);
      each = omega (arith, longer, steps.1, i.each);
    }
