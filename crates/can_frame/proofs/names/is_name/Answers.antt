use Rattle.std.proofs.Common.{◌≡◌, true, nat_le, length, rules, tests}
use Rattle.std.specs.List.{list_all}
use Rattle.std.proofs.lemmas.Iterator.Adapters.{YieldsList-from_bytes}
use Rattle.std.proofs.lemmas.Iterator.Search.{all_from_yields_List}
use Rattle.std.proofs.lemmas.Bool.Decides.{nat_tests}
use Rattle.can_frame.specs.Names.{is_name_byte}
use Rattle.can_frame.proofs.names.is_name.Goals as goal

pub returns-then-text-le15 : goal.returns-then-text-le15
returns-then-text-le15 c =
    let name = c.args.text.now in
    let all : c.all.result ≡ list_all is_name_byte name = all_from_yields_List is_name_byte _ _ _ c.all.ensures.ran (YieldsList-from_bytes name c.bytes.ensures.rest) (λ x b q k. search (rules, tests)) in
    let some : nat_le 1 (length name) ≡ true = search (rules, nat_tests, c.if-text-le15.true.0) in
    let short : nat_le (length name) 15 ≡ true = search (rules, nat_tests, c.if-text-le15.true.1) in
    rw (some, short) all
