use Rattle.std.proofs.Common.{◌≡◌, ℕ, List, [], ◌∷◌, length, Option, Some, None, sym, ◌∙◌, append-nil, arith}
use Rattle.std.proofs.lemmas.Bool.{eqb-true}
use Rattle.std.specs.Io.KnownBytes.{Appends}
use Rattle.can_session.proofs.bench_run.put.Goals as goal

none_appended : (known : Option (List ℕ)) (said : List ℕ) → length said ≡ 0 → Appends known known said
none_appended None said none = tt
none_appended (Some bytes) [] none = sym (append-nil bytes)
none_appended (Some bytes) (b ∷ said) none = absurd (omega arith)

pub returns-then-is_empty : goal.returns-then-is_empty
returns-then-is_empty g c =
    let none : length c.args.said.now ≡ 0 = eqb-true _ _ (sym c.is_empty.ensures ∙ c.if-is_empty.true) in
    record { wrote = none_appended (g.W.Write.contents c.args.out.now) c.args.said.now none; fault = tt }
