use Rattle.std.proofs.Common.{ℕ, List, ap, ◌∙◌}
use Rattle.can_filter.specs.Filters.{CanFilter, matches}
use Rattle.can_filter.specs.Lookups.{is_found}
use Rattle.can_filter.proofs.Compiling.{found-extended, found-masked, found-inverted}
use Rattle.can_filter.proofs.lookup.Parts.add.Goals as goal

pub returns-in_ok-push-in-Extended : goal.returns-in_ok-push-in-Extended
returns-in_ok-push-in-Extended c = λ word.
    ap (λ (ids : List ℕ). is_found c.args.self.now.standard ids c.args.self.now.masked.items c.args.self.now.inverted.items word) c.in_ok-push-in-Extended.ensures.items
    ∙ found-extended c.args.self.now.standard c.args.self.now.extended.items c.args.self.now.masked.items c.args.self.now.inverted.items word c.in-Extended.id (matches c.args.filter word) (c.in-Extended.ensures.1 word)

pub returns-in_ok-push-in-Masked : goal.returns-in_ok-push-in-Masked
returns-in_ok-push-in-Masked c = λ word.
    ap (λ (masked : List CanFilter). is_found c.args.self.now.standard c.args.self.now.extended.items masked c.args.self.now.inverted.items word) c.in_ok-push-in-Masked.ensures.items
    ∙ found-masked c.args.self.now.standard c.args.self.now.extended.items c.args.self.now.masked.items c.args.self.now.inverted.items c.args.filter word

pub returns-in_ok-push-in-Inverted : goal.returns-in_ok-push-in-Inverted
returns-in_ok-push-in-Inverted c = λ word.
    ap (λ (inverted : List CanFilter). is_found c.args.self.now.standard c.args.self.now.extended.items c.args.self.now.masked.items inverted word) c.in_ok-push-in-Inverted.ensures.items
    ∙ found-inverted c.args.self.now.standard c.args.self.now.extended.items c.args.self.now.masked.items c.args.self.now.inverted.items c.args.filter word
