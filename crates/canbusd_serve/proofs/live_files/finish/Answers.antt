use Rattle.std.proofs.Common.{All, sym, subst}
use Rattle.can_record_text.specs.inner.StoredLines.{HasFittingReply}
use Rattle.canbusd_serve.proofs.Fitting.{rest_fit}
use Rattle.canbusd_serve.proofs.Keeping.{whole_after}
use Rattle.canbusd_serve.proofs.live_files.finish.Goals as goal

pub finish_record-requires : goal.finish_record-requires
finish_record-requires g c =
    let end = c.args.end.now in
    subst (All HasFittingReply) (sym c.entries-rest.ensures.entries) (rest_fit end.config end.history end.handed c.entries-rest.ensures.legal)

pub returns-clause-whole : goal.returns-clause-whole
returns-clause-whole g c =
    let contents = g.F.Write.contents in
    whole_after contents c.args.end.now c.args.files.now c.finish_record.new.self c.keep_log.new.self c.entries-rest.result.now.entries c.len.result c.requires c.entries-rest.ensures.entries c.len.ensures
    c.finish_record.ensures.kept c.finish_record.ensures.stays c.finish_record.ensures.same c.keep_log.ensures.kept c.keep_log.ensures.stays c.keep_log.ensures.same
