use Rattle.std.specs.Prelude.{◌≡◌, ℕ, ◌==◌, if◌then◌else◌, List, ◌∷◌, length, Some, Ok}
use Rattle.can_frame.specs.Frames.{Identifier, CanFrame}
use Rattle.can_frame.specs.Numbers.{number_in}
use Rattle.can_proto.specs.declared.command.Command.TheVariants.{Send}
use Rattle.can_proto.specs.declared.fault.ProtoFault.{ProtoFault}
use Rattle.can_proto.specs.declared.fault.ProtoFault.TheVariants.{BadByte, BadCount}
use Rattle.can_proto.specs.Words.{BeginsWith}
use Rattle.can_proto.specs.Commands.{id_of, send_of}

-- Words of hexadecimal digits, which the code reads one at a time.

-- the first word of `text` spells this byte, and `rest` follows that word (own choice)
abbrev pub IsFirstByte : ℕ → List ℕ → List ℕ → Type 0
IsFirstByte byte rest text = (word : List ℕ) × BeginsWith word rest text × (number_in 16 2 word ≡ Some byte)

-- the first word of `text` spells this identifier, and `rest` follows that word (own choice)
abbrev pub IsFirstId : Identifier → List ℕ → List ℕ → Type 0
IsFirstId id rest text = (word : List ℕ) × BeginsWith word rest text × (id_of word ≡ Ok id)

-- the fault if a word is not a byte: `BadByte`, or `BadCount` if the number of words is not `left`
abbrev pub fault_of_byte : ℕ → List (List ℕ) → ProtoFault
fault_of_byte left words = if length words == left then BadByte else BadCount

-- a `send` with any word for this identifier and then these words sends this frame (own choice)
abbrev pub AsksFor : CanFrame → Identifier → List (List ℕ) → Type 0
AsksFor frame id words = (word : List ℕ) → id_of word ≡ Ok id → send_of (word ∷ words) ≡ Ok (Send frame)
