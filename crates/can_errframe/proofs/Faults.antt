use Rattle.std.proofs.Common.{◌≡◌, ℕ, Bool, true, false, ◌||◌, List, [], ◌∷◌, filter, refl}
use Rattle.std.specs.List.{list_any}
use Rattle.std.proofs.lemmas.Bool.{true≢false}
use Rattle.can_fault.specs.declared.verdict.Verdict.{Verdict}
use Rattle.can_fault.specs.declared.verdict.Verdict.TheVariants as verdict
use Rattle.can_attempt.specs.Attempts.{Transmission, is_global, is_struck, is_destroyed, receivers}

-- The faults that destroy a frame.

-- The verdict is a fault at some receivers only.
abbrev pub is_local : Verdict → Bool
is_local (verdict.Local set kind) = true
is_local _ = false

destroyed_by : (v : Verdict) (p : ℕ → Bool) (xs : List ℕ) → is_global v ≡ false → is_local v ≡ false → (is_global v || list_any p (filter (is_struck v) xs)) ≡ false
destroyed_by verdict.Good p [] global local = refl
destroyed_by verdict.Good p (k ∷ ks) global local = destroyed_by verdict.Good p ks global local
destroyed_by verdict.LastBit p [] global local = refl
destroyed_by verdict.LastBit p (k ∷ ks) global local = destroyed_by verdict.LastBit p ks global local
destroyed_by (verdict.Global kind) p xs global local = global
destroyed_by (verdict.Local set kind) p xs global local = absurd (true≢false local)

-- If the verdict is neither a fault of the whole bus nor one at some receivers, the frame is not destroyed.
pub not_destroyed : (t : Transmission) → is_global t.verdict ≡ false → is_local t.verdict ≡ false → is_destroyed t ≡ false
not_destroyed t = destroyed_by t.verdict _ (receivers t)
