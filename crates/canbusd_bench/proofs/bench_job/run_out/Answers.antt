use Rattle.std.proofs.Common.{ap, rules, refl, subst, ◌∙◌}
use Rattle.std.specs.Io.KnownBytes.{Keeps}
use Rattle.canbusd_bench.specs.Benched.{FailsBy, IsRunAsAsked}
use Rattle.canbusd_bench.specs.declared.watch.Watch.{Watch}
use Rattle.canbusd_bench.specs.inner.Watched.{told}
use Rattle.canbusd_bench.proofs.Benching.{benched, by_refusal, failed, passed_on, refused}
use Rattle.canbusd_bench.proofs.Watching.{first_told}
use Rattle.canbusd_bench.proofs.bench_job.run_out.Goals as goal

pub returns-in_err-record-clause-fault : goal.returns-in_err-record-clause-fault
returns-in_err-record-clause-fault g c =
    let contents = g.W.Write.contents in
    let outer = λ (w : Watch g.row.W.Denot). told w.writer.ghost_name w.is_on w.written w.seen (contents w.writer.now) in
    let before = c.new-watch.result in
    let after = c.run_scripted-ran.new.output in
    let made = c.new-watch.ensures in
    let back = c.finish-output.ensures.writer in
    let names = ap (λ r. r.ghost_name) made.writer in
    let same = ap (λ r. r.ghost_name) back in
    let why = c.in_err-record.field-0.0.error in
    let fails = subst (λ n. FailsBy outer c.args.options.now n (g.R.Read.remaining c.args.input) before why after) c.in_ok-names.ensures.names c.in_err-record.ensures.fault in
    passed_on _ c.in_err-record.field-0.0 _ c.from_residual-in_err-record.ensures.1
    (failed outer contents c.args.options.now (g.R.Read.remaining c.args.input) before after c.args.output.now after.writer.now c.flush.new.self _ why c.in_ok-names.ensures.good (record {
      name = before.writer.ghost_name;
      is = after.writer.ghost_name;
      on = after.is_on;
      written = after.written;
      seen = after.seen;
      first = first_told _ _ _ _ _ _ _ made.on made.written made.seen (ap (λ r. contents r.now) made.writer);
      last = refl;
      back = λ name. let whole = same ∙ name ∙ names in search rules;
      kept = subst (λ r. Keeps (contents r.now) (contents c.flush.new.self)) back c.flush.ensures.bytes;
    })
    (λ none. (ap (λ w. w.writer.ghost_name) none, ap (λ w. w.writer.now) none ∙ ap (λ r. r.now) made.writer)) fails)

pub returns-clause-ran : goal.returns-clause-ran
returns-clause-ran g c =
    let contents = g.W.Write.contents in
    let outer = λ (w : Watch g.row.W.Denot). told w.writer.ghost_name w.is_on w.written w.seen (contents w.writer.now) in
    let before = c.new-watch.result in
    let after = c.run_scripted-ran.new.output in
    let made = c.new-watch.ensures in
    let back = c.finish-output.ensures.writer in
    let names = ap (λ r. r.ghost_name) made.writer in
    let same = ap (λ r. r.ghost_name) back in
    let run = subst (λ n. IsRunAsAsked outer c.args.options.now n (g.R.Read.remaining c.args.input) before c.in_ok-record.record after) c.in_ok-names.ensures.names c.in_ok-record.ensures.run in
    by_refusal c.finish-output.result.1 _ _ _ _ _ c.finish-output.ensures.none c.finish-output.ensures.some c.finish-output.ensures.seen
    (λ none. benched outer contents c.args.options.now (g.R.Read.remaining c.args.input) before after c.args.output.now after.writer.now c.flush.new.self _ c.in_ok-record.record c.in_ok-names.ensures.good (record {
      name = before.writer.ghost_name;
      is = after.writer.ghost_name;
      on = after.is_on;
      written = after.written;
      seen = after.seen;
      first = first_told _ _ _ _ _ _ _ made.on made.written made.seen (ap (λ r. contents r.now) made.writer);
      last = refl;
      back = λ name. let whole = same ∙ name ∙ names in search rules;
      kept = subst (λ r. Keeps (contents r.now) (contents c.flush.new.self)) back c.flush.ensures.bytes;
    }) none run)
    (λ some. refused outer contents c.args.options.now (g.R.Read.remaining c.args.input) before after c.args.output.now after.writer.now c.flush.new.self _ c.in_ok-record.record c.in_ok-names.ensures.good (record {
      name = before.writer.ghost_name;
      is = after.writer.ghost_name;
      on = after.is_on;
      written = after.written;
      seen = after.seen;
      first = first_told _ _ _ _ _ _ _ made.on made.written made.seen (ap (λ r. contents r.now) made.writer);
      last = refl;
      back = λ name. let whole = same ∙ name ∙ names in search rules;
      kept = subst (λ r. Keeps (contents r.now) (contents c.flush.new.self)) back c.flush.ensures.bytes;
    }) some run)
