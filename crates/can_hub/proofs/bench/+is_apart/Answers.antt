use Rattle.std.proofs.Common.{◌↔◌, IsTrue, ℕ, List, rules, sym, subst}
use Rattle.can_hub.specs.Buses.{ApartFrom}
use Rattle.can_hub.proofs.Making.{names_parted}
use Rattle.can_hub.proofs.bench.+is_apart.Goals as goal

pub returns-then-are_apart : goal.returns-then-are_apart
returns-then-are_apart g t c =
    let parts = names_parted c.args.benches.now c.first-item.result c.in-len1-up.len_at_least c.first-item.is in
    let here = c.are_apart.ensures.0 (search (rules, c.if-are_apart.true)) in
    subst (λ (ns : List (List (List ℕ))). IsTrue c.is_apart.result ↔ ApartFrom c.args.names.now ns) (sym parts) (λ r. (here, c.is_apart.ensures.0 r), λ a. c.is_apart.ensures.1 a.1)

pub returns-else-are_apart : goal.returns-else-are_apart
returns-else-are_apart g t c =
    let parts = names_parted c.args.benches.now c.first-item.result c.in-len1-up.len_at_least c.first-item.is in
    subst (λ (ns : List (List (List ℕ))). IsTrue c.are_apart.result ↔ ApartFrom c.args.names.now ns) (sym parts) (λ r. absurd (search (rules, r, c.if-are_apart.false)), λ a. c.are_apart.ensures.1 a.0)
