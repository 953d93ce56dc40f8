use Rattle.std.proofs.Common.{◌≡◌, ◌∙◌, IsTrue, false, rules, sym, true}
use Rattle.std.proofs.KnownBytes.{Appends-trans}
use Rattle.can_record.specs.Journal.{Journal, Kept}
use Rattle.canbusd_serve.specs.Served.{journals}
use Rattle.canbusd_serve.proofs.Serving.{put-lines}
use Rattle.canbusd_serve.proofs.serve_job.ServerRun.run_whole.Goals as goal
use Rattle.canbusd_serve.proofs.serve_job.ServerRun.run_whole.Goals.{in-Some, in_default}

-- the configuration and the history of a record, as a journal
abbrev journal : Kept → Journal
journal r = record { config = r.config; history = r.history }

pub returns-clause-served : goal.returns-clause-served
returns-clause-served g c = λ quiet.
    let both : (c.has_reported.result ≡ false) × (c.are_whole-is_whole.result ≡ true) = search (rules, quiet) in
    let o = c.args.self.now.options.now in
    let settled = c.in_ok-settled.settled.items in
    let listening = c.in_ok-settled.ensures.listening in
    let kept : IsTrue c.report.new.self.has_reported → IsTrue c.match-self.reporter.has_reported = elim c.match-self.branch [
      | in-Some w ↦ λ told. let saved : IsTrue w.save_all.new.reporter.has_reported = w.save_all.ensures told in cc
      | in_default w ↦ λ told. cc
    ] in
    let lines = put-lines g.W.Write.contents journal c.settle.new.output c.put_ends.new.output c.put_ends.result _ _ _ o.buses.items _ settled c.report.ensures.reported kept (sym c.has_reported.ensures ∙ both.0) c.deref.ensures.value c.deref-2.ensures.value c.put_ends.ensures in
    record {
      ends = journals journal settled;
      are = c.in_ok-settled.ensures.ends;
      heard = listening.0;
      address = listening.1;
      wrote = Appends-trans _ _ _ _ _ listening.2 lines;
    }
