use Rattle.std.specs.Prelude.{ℕ, List, codes}
use Rattle.can_attempt.specs.declared.class.Class.{Class}
use Rattle.can_attempt.specs.declared.class.Class.TheVariants.{Done, LastBit, Destroyed, NoAck}

-- the word for the outcome of an attempt (own choice)
abbrev pub class_word : Class → List ℕ
class_word Done = codes "done"
class_word LastBit = codes "lastbit"
class_word Destroyed = codes "destroyed"
class_word NoAck = codes "noack"
