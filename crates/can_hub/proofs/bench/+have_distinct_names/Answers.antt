use Rattle.std.proofs.Common.{◌↔◌, IsTrue, ℕ, List, rules, sym, subst}
use Rattle.can_hub.specs.Buses.{AllApart}
use Rattle.can_hub.proofs.Making.{names_parted}
use Rattle.can_hub.proofs.bench.+have_distinct_names.Goals as goal

pub returns-then-is_apart : goal.returns-then-is_apart
returns-then-is_apart g t c =
    let parts = names_parted c.args.benches.now c.first-item.result c.in-len1-up.len_at_least c.first-item.is in
    let here = c.is_apart.ensures.0 (search (rules, c.if-is_apart.true)) in
    subst (λ (ns : List (List (List ℕ))). IsTrue c.have_distinct_names.result ↔ AllApart ns) (sym parts) (λ r. (here, c.have_distinct_names.ensures.0 r), λ a. c.have_distinct_names.ensures.1 a.1)

pub returns-else-is_apart : goal.returns-else-is_apart
returns-else-is_apart g t c =
    let parts = names_parted c.args.benches.now c.first-item.result c.in-len1-up.len_at_least c.first-item.is in
    subst (λ (ns : List (List (List ℕ))). IsTrue c.is_apart.result ↔ AllApart ns) (sym parts) (λ r. absurd (search (rules, r, c.if-is_apart.false)), λ a. c.is_apart.ensures.1 a.0)
