use Rattle.std.proofs.Common.{◌≡◌, ◌∙◌, List, ap, sym, subst}
use Rattle.std.specs.Prelude.{reverse}
use Rattle.std.proofs.lemmas.List.{reverse-reverse}
use Rattle.can_event.specs.declared.entry.Entry.{Entry}
use Rattle.can_event.specs.Events.{IsConfig}
use Rattle.can_record_text.specs.declared.version.Version.TheVariants as version
use Rattle.can_record_text.specs.Values.{HasBusLine, HasText}
use Rattle.can_record_text.proofs.Versioning.{has_text}
use Rattle.can_record_text.proofs.text_laws.read_back.Goals as goal
use Rattle.can_record_text.proofs.text_laws.read_back.Goals.{After-drop-text}

-- the record has a text
whole : (c : After-drop-text) → HasText c.args.kept.now.config (reverse c.args.kept.now.history)
whole c = has_text c.args.kept.now.config (reverse c.args.kept.now.history) (subst (HasBusLine version.Six) c.config.ensures.config c.hold_config.ensures) c.hold_lines.ensures

same : (c : After-drop-text) → (c.in-Ok.read.config ≡ c.args.kept.now.config) × (reverse c.in-Ok.read.history ≡ reverse c.args.kept.now.history)
same c = c.in-Ok.ensures.back c.args.kept.now.config (reverse c.args.kept.now.history) (subst IsConfig c.config.ensures.config c.config.ensures.proper) (whole c, c.deref.ensures.value ∙ c.in_ok-text.ensures)

same_list : (xs ys : List Entry) → reverse xs ≡ reverse ys → xs ≡ ys
same_list xs ys e = sym (reverse-reverse xs) ∙ ap reverse e ∙ reverse-reverse ys

pub returns-in-Ok-clause-config : goal.returns-in-Ok-clause-config
returns-in-Ok-clause-config c = (same c).0

pub returns-in-Ok-clause-history : goal.returns-in-Ok-clause-history
returns-in-Ok-clause-history c = same_list c.in-Ok.read.history c.args.kept.now.history (same c).1
