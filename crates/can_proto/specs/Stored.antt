use Rattle.std.specs.Prelude.{ℕ, List}
use Rattle.can_proto.specs.declared.stored.Stored.{Stored}
use Rattle.can_proto.specs.declared.stored.Stored.TheVariants.{Short, Long}

-- The storage for the bytes of a message. Public clauses do not use it.

-- the stored bytes, in order
abbrev pub stored_bytes : Stored → List ℕ
stored_bytes (Short bytes) = bytes.items
stored_bytes (Long bytes) = bytes.items
