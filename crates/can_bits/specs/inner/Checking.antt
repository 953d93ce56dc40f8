use Rattle.std.specs.Prelude.{ℕ, ◌≤◌, List}
use Rattle.can_frame.specs.Arbitration.{low_bits}
use Rattle.can_bits.specs.declared.checksum.Generator.{Generator}

-- Terms for the proofs of the CRC. Callers of this crate do not need these terms.

-- the terms of a generator after the first term
abbrev pub terms_of : Generator → List ℕ
terms_of g = low_bits g.width g.terms

-- the register of this generator fits in a word
abbrev pub IsGenerator : Generator → Type 0
IsGenerator g = (1 ≤ g.width) × (g.width ≤ 31)
