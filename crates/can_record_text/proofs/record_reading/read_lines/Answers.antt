use Rattle.std.proofs.Common.{◌∙◌, ℕ, [], drop, ap, sym}
use Rattle.std.proofs.lemmas.List.Elements.{All-nil, All-same, All-push}
use Rattle.can_record_text.specs.Values.{HasLine}
use Rattle.can_record_text.specs.Spelling.{entry_lines}
use Rattle.can_record_text.proofs.LineLists.{first_lines, lines_go_on}
use Rattle.can_record_text.proofs.record_reading.read_lines.Goals as goal

pub loop-entry-init : goal.loop-entry-init
loop-entry-init c = record {
  lines = first_lines c.args.text.now c.args.entries.now.items c.requires;
  have = All-same (HasLine c.args.version c.args.config) c.args.entries.now.items [] c.requires (All-nil (HasLine c.args.version c.args.config));
}

pub loop-entry-preserved : goal.loop-entry-preserved
loop-entry-preserved c =
    let found = c.in-Ok.ensures.found in
    let pushed = c.in_ok-push-in-Ok.ensures.items in
    record {
      lines =
          lines_go_on c.args.text.now c.loop-entry.rest.now c.read_line.new.buffer.items c.loop-entry.entries.items c.push.new.self.items c.in-Ok.entry c.loop-entry.invariant.lines found.spelled found.begins pushed
          ∙ ap (entry_lines c.push.new.self.items) (ap (λ (n : ℕ). drop n c.loop-entry.rest.now) (sym (c.len.ensures ∙ c.read_line.new.buffer.ok.0)) ∙ sym c.rest_from-rest.ensures);
      have = All-same (HasLine c.args.version c.args.config) _ _ pushed (All-push (HasLine c.args.version c.args.config) c.loop-entry.entries.items c.in-Ok.entry c.loop-entry.invariant.have found.good);
    }
