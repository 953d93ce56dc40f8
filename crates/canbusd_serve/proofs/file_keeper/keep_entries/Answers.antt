use Rattle.std.proofs.Common.{◌++◌, append-nil, ap, sym, ◌∙◌}
use Rattle.std.proofs.lemmas.List.{nil_from_length}
use Rattle.canbusd_serve.proofs.Fitting.{last_fit}
use Rattle.canbusd_serve.proofs.Keeping.{have_after}
use Rattle.canbusd_serve.proofs.file_keeper.keep_entries.Goals as goal

pub returns-then-len-eq0 : goal.returns-then-len-eq0
returns-then-len-eq0 g c =
    let entries = c.args.entries.now.entries in
    sym (append-nil c.args.kept.now) ∙ ap (λ es. c.args.kept.now ++ es) (sym (nil_from_length entries (sym c.len.ensures ∙ c.if-len-eq0.true)))

pub keep_record-requires : goal.keep_record-requires
keep_record-requires g c = last_fit c.args.entries.now.entries c.requires

pub invariant_of-kept : goal.invariant_of-kept
invariant_of-kept g c =
    have_after g.F.Write.contents _ c.keep_record.new.files c.keep_log.new.files _ c.args.entries.now.entries c.note.new.self c.kept.invariant c.keep_record.ensures.kept c.keep_record.ensures.stays c.keep_record.ensures.same c.keep_log.ensures.kept
    c.keep_log.ensures.stays c.keep_log.ensures.same
    c.note.ensures
