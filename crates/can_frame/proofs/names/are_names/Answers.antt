use Rattle.std.proofs.Common.{◌≡◌, ◌==◌, true, sym, ◌∙◌, arith}
use Rattle.std.specs.List.{list_all}
use Rattle.std.proofs.lemmas.Bool.{false≢true}
use Rattle.std.proofs.lemmas.Bool.Decides.{nat_tests}
use Rattle.std.proofs.lemmas.List.Splits.{length-slice_split}
use Rattle.std.proofs.lemmas.List.Sums.{AllPass-from_list_all, list_all-from_AllPass}
use Rattle.can_frame.specs.Names.{names_in, is_name}
use Rattle.can_frame.proofs.names.are_names.Goals as goal
use Rattle.can_frame.proofs.names.are_names.Goals.{then-count_in-le16, else-count_in-le16}

pub returns-then-are_good : goal.returns-then-are_good
returns-then-are_good c =
    let names = names_in c.args.text.now in
    elim c.if-count_in-le16.branch [
      | then-count_in-le16 w ↦
          let good : list_all is_name names ≡ true = sym w.are_good.ensures ∙ sym w.value-is ∙ c.if-are_good.true in (
            λ h. record {
              some = omega (arith, length-slice_split (λ b. b == 44) c.args.text.now);
              few = omega (arith, c.count_in.ensures, w.if-count_in-le16.true);
              good = AllPass-from_list_all is_name names good;
              distinct = c.are_distinct.ensures.0 h;
            },
            λ h. c.are_distinct.ensures.1 h.distinct,
          )
      | else-count_in-le16 w ↦ absurd (grind (arith, nat_tests, w.if-count_in-le16.false, sym w.value-is ∙ c.if-are_good.true))
    ]

pub returns-else-are_good : goal.returns-else-are_good
returns-else-are_good c =
    let names = names_in c.args.text.now in
    elim c.if-count_in-le16.branch [
      | then-count_in-le16 w ↦ (
        λ h. absurd (false≢true (sym c.if-are_good.false ∙ h)),
        λ h. w.value-is ∙ w.are_good.ensures ∙ list_all-from_AllPass is_name names h.good,
      )
      | else-count_in-le16 w ↦ (
        λ h. absurd (false≢true (sym c.if-are_good.false ∙ h)),
        λ h. absurd (omega (arith, h.few, c.count_in.ensures, w.if-count_in-le16.false)),
      )
    ]
