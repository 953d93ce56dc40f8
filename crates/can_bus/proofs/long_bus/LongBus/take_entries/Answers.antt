use Rattle.std.proofs.Common.{◌++◌, ℕ, length, ap, sym, ◌∙◌}
use Rattle.can_record.specs.Records.{PackedEntries}
use Rattle.can_bus.specs.Long.{LongJournal, handed_entries, held_back}
use Rattle.can_bus.proofs.Tails.{out_more, tail_taken}
use Rattle.can_bus.proofs.long_bus.LongBus.take_entries.Goals as goal

pub invariant_of-self : goal.invariant_of-self
invariant_of-self g c = record {
  kept = c.self.invariant.kept;
  holds = tail_taken _ _ _ (ap (λ (b : PackedEntries). b.entries) c.swap.ensures.x_after ∙ c.requires) (c.len-handed.ensures.len ∙ ap (λ (j : LongJournal). length j.history) (sym c.self.view_is));
}

pub returns-clause-handed : goal.returns-clause-handed
returns-clause-handed g c =
    let past = c.self.inside.history in
    let n = length c.args.self.now.history in
    record {
      entries = ap (λ (b : PackedEntries). b.entries) c.swap.ensures.y_after ∙ c.self.invariant.holds.rest ∙ ap held_back c.self.view_is;
      after = ap (λ (k : ℕ). record { config = c.self.inside.config; history = past; handed = k; room = c.swap.new.x.room }) c.len-handed.ensures.len
          ∙ ap (λ (b : PackedEntries). record { config = c.self.inside.config; history = past; handed = n; room = b.room }) c.swap.ensures.x_after
          ∙ ap (λ (j : LongJournal). record { config = j.config; history = j.history; handed = n; room = c.args.block.now.room }) c.self.view_is;
    }

pub returns-clause-room : goal.returns-clause-room
returns-clause-room g c = ap (λ (b : PackedEntries). b.room) c.swap.ensures.y_after ∙ ap (λ (j : LongJournal). j.room) c.self.view_is

pub returns-clause-out : goal.returns-clause-out
returns-clause-out g c =
    out_more c.self.invariant.holds (c.len-handed.ensures.len ∙ ap (λ (j : LongJournal). length j.history) (sym c.self.view_is))
    ∙ (λ k. handed_entries (c.self.view_is k) ++ (sym c.swap.ensures.y_after k).entries)
