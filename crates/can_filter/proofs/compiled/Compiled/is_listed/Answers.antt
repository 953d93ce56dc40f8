use Rattle.std.proofs.Common.{sym, ◌∙◌}
use Rattle.can_filter.proofs.Compiling.{unlisted}
use Rattle.can_filter.proofs.compiled.Compiled.is_listed.Goals as goal

pub returns-else-is_extended : goal.returns-else-is_extended
returns-else-is_extended c =
    c.if-is_extended.false ∙ sym (unlisted c.args.self.now.parts.extended.items c.args.word c.args.self.now.parts.tagged (sym c.is_extended.ensures ∙ c.if-is_extended.false))
