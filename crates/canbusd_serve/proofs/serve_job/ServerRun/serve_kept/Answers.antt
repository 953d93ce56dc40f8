use Rattle.std.proofs.Common.{◌≡◌, ◌+◌, ◌∷◌, ◌++◌, ◌∙◌, List, [], ap, arith, length, length-append, subst, sym}
use Rattle.can_event.specs.declared.entry.Entry.{Entry}
use Rattle.can_roll.specs.Seen.{ScrollSeen}
use Rattle.std.specs.declared.fs.File.{File}
use Rattle.std.specs.declared.io.traits.Write.{contents-default}
use Rattle.canbusd_serve.specs.LongRuns.{AllGiven, HaveLines}
use Rattle.canbusd_serve.specs.declared.live_files.LiveFiles.{LiveFiles}
use denote.Exit.{yes}
use denote.Param.{param}
use denote.Param.Send.{IsSend, IsSync, arg_send, param_send, sendable}
use Rattle.std.proofs.fs.File.TheSendSync as file
use Rattle.std.specs.contracts.fs.File as file_row
use Rattle.std.specs.contracts.fs.FileWrite.TheImpl as written
use Rattle.canbusd_serve.proofs.Crossing.{keeper_send}
use Rattle.canbusd_serve.proofs.Keeping.{given_push}
use Rattle.canbusd_serve.proofs.serve_job.ServerRun.serve_kept.Goals as goal

pub serve_with-requires-send-K : goal.serve_with-requires-send-K
serve_with-requires-send-K g c κs within =
    let shared : IsSync (param 0 g.row.H) = search (sendable, c.type_bounds.sync-H) depth 20 in
    let sent : IsSend (param 4 g.row.E) = search (sendable, c.type_bounds.send-E) depth 20 in
    param_send 5 _ (arg_send _ yes _ (keeper_send _ _ _ _ file_row.the_row (param 0 g.row.H) (param 4 g.row.E) written.ghosts file.the_send shared sent))

pub loop-kept-preserved : goal.loop-kept-preserved
loop-kept-preserved g c =
    let i = c.loop-kept.invariant in
    let steps = c.in-Some.ensures.steps in
    let files = c.push_reserved.ensures in
    let scrolls = c.push_reserved-in-loop-kept.ensures in
    let own = c.into_parts-keeper in
    let old_files = c.loop-kept.run.files.items in
    let old_scrolls = c.loop-kept.run.scrolls.items in
    let f : LiveFiles File = c.into_files.result in
    let s : ScrollSeen = own.result.1 in
    let more_files : length (old_files ++ f ∷ []) ≡ length old_files + 1 = length-append old_files (f ∷ []) in
    let more_scrolls : length (old_scrolls ++ s ∷ []) ≡ length old_scrolls + 1 = length-append old_scrolls (s ∷ []) in
    let contents = contents-default File in
    let have : HaveLines contents s.entries f = subst (λ (es : List Entry). HaveLines contents es f) (own.ensures.given ∙ sym (ap (λ (x : ScrollSeen). x.entries) own.ensures.scroll)) c.into_files.ensures in
    let all = given_push contents old_files old_scrolls f s i.given have in
    record {
      given = subst (λ (ss : List ScrollSeen). AllGiven contents c.push_reserved.new.self.items ss) (sym scrolls.items) (subst (λ (fs : List (LiveFiles File)). AllGiven contents fs (old_scrolls ++ s ∷ [])) (sym files.items) all);
      passes = i.passes;
      counted = omega (arith, steps.1, i.counted, ap length steps.0);
      each = omega (arith, ap length scrolls.items, more_scrolls, steps.1, i.each);
      same = omega (arith, ap length files.items, ap length scrolls.items, more_files, more_scrolls, i.same);
      files = omega (arith, ap length files.items, more_files, steps.1, i.files, files.capacity);
      scrolls = omega (arith, ap length scrolls.items, more_scrolls, steps.1, i.scrolls, scrolls.capacity);
    }
