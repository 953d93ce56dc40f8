use Rattle.std.proofs.Common.{◌≡◌, ◌≤◌, ◌<◌, ◌∷◌, [], List, ℕ, Option, ok_or, length, slice_index_or, arith}
use Rattle.can_frame.specs.Frames.{Identifier}
use Rattle.can_proto.specs.declared.fault.ProtoFault.TheVariants.{BadId}
use Rattle.can_proto.specs.Commands.{id_of}
use Rattle.can_proto.proofs.sending.id_in.Goals as goal

-- a word of three bytes consists of these bytes
three : (word : List ℕ) (found : Option Identifier) → 3 ≤ length word → length word < 4 → id_of (slice_index_or word 0 0 ∷ slice_index_or word 1 0 ∷ slice_index_or word 2 0 ∷ []) ≡ ok_or found BadId → id_of word ≡ ok_or found BadId
three [] found low high h = absurd (omega arith)
three (a ∷ []) found low high h = absurd (omega arith)
three (a ∷ b ∷ []) found low high h = absurd (omega arith)
three (a ∷ b ∷ c ∷ []) found low high h = h
three (a ∷ b ∷ c ∷ d ∷ more) found low high h = absurd (omega arith)

pub returns-in-len3 : goal.returns-in-len3
returns-in-len3 c = three c.args.word.now c.short_id-in-len3.result c.in-len3.len_at_least c.in-len3.len_below c.short_id-in-len3.ensures.value
