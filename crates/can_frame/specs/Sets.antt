use Rattle.std.specs.Prelude.{ℕ, zero, suc, ◌^◌, ◌==◌, Bool, bit_or, if◌then◌else◌}
use Rattle.std.specs.Int.{bit_at}
use Rattle.can_frame.specs.declared.iface.IfaceSet.{IfaceSet}

-- interface i is in the set: its bit is 1
abbrev pub is_in : ℕ → IfaceSet → Bool
is_in i set = bit_at set.0 i == 1

-- the set of no interface
abbrev pub no_ifaces : IfaceSet
no_ifaces = record { 0 = 0 }

-- the bits below n at the places that pass the test
abbrev pub bits_where : (ℕ → Bool) → ℕ → ℕ
bits_where p zero = 0
bits_where p (suc n) = if p n then bit_or (bits_where p n) (2 ^ n) else bits_where p n

-- the set of the interfaces below n that pass the test
abbrev pub set_where : (ℕ → Bool) → ℕ → IfaceSet
set_where p n = record { 0 = bits_where p n }
