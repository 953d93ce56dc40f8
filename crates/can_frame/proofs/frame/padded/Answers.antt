use Rattle.std.proofs.Common.{◌≡◌, ◌∙◌, length, replicate, length-take-le, arith}
use Rattle.std.proofs.lemmas.List.{drop-replicate}
use Rattle.std.proofs.lemmas.Slice.{drop-append-drop}
use Rattle.can_frame.proofs.frame.padded.Goals as goal

pub returns-clause-rest : goal.returns-clause-rest
returns-clause-rest c =
    let front : length c.copy_from_slice.new.self ≡ length c.args.bytes.now = c.copy_from_slice.ensures.len ∙ length-take-le (length c.args.bytes.now) (replicate 64 0) (omega arith) in
    drop-append-drop (length c.args.bytes.now) (replicate 64 0) c.copy_from_slice.new.self (length c.args.bytes.now) (omega arith) front ∙ drop-replicate (length c.args.bytes.now) 64 0
