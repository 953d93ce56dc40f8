use Rattle.std.proofs.Common.{◌≡◌, ◌≤◌, ◌++◌, ◌∷◌, [], ℕ, List, Ok, Option, Some, None, IfSome, codes, length, arith}
use Rattle.can_frame.specs.Frames.{CanFrame}
use Rattle.can_proto.specs.declared.command.Command.TheVariants.{Send}
use Rattle.can_proto.specs.Words.{words_of}
use Rattle.can_proto.specs.Commands.{send_of, IsLoneSend}
use Rattle.can_proto.proofs.LoneSends.{lone}
use Rattle.can_proto.proofs.usual_sends.lone_send.Goals as goal

lone-if : (piece inside rest : List ℕ) (sent : Option CanFrame) → piece ≡ 60 ∷ inside ++ 62 ∷ [] → length inside ≤ 1024 → words_of inside ≡ codes "send" ∷ words_of rest
    → IfSome sent (λ frame. send_of (words_of rest) ≡ Ok (Send frame)) → IfSome sent (λ frame. IsLoneSend piece frame)
lone-if piece inside rest None whole short words sends = tt
lone-if piece inside rest (Some frame) whole short words sends = lone piece inside rest frame whole short words sends

pub returns : goal.returns
returns c = lone-if c.args.piece.now c.in_ok-inside.inside.now c.in_ok-after_send.field-0.now _ c.in_ok-inside.ensures (omega (arith, c.if-inside-gt-USUAL.false)) c.in_ok-after_send.ensures c.usual_frame.ensures
