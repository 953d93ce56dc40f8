use Rattle.std.proofs.Common.{◌≡◌, ◌≢◌, ◌⊎◌, ℕ, zero, suc, ◌+◌, Bool, true, false, cond, List, [], ◌∷◌, take, Option, Some, None, is_some, Result, Ok, Err, refl, sym, ap, ◌∙◌, inl, inr, ⊎_elim, subst, arith, if◌then◌else◌, slice_get}
use Rattle.std.specs.Prelude.{IsOk}
use Rattle.std.specs.Ordering.{nat_cmp, eq_by_cmp}
use Rattle.std.specs.Cmp.{nat_cmp_total, eq_by_cmp_equiv}
use Rattle.std.specs.FinMap.{get, insert, contains_key, get-insert, get-empty}
use Rattle.std.proofs.lemmas.Bool.{cases_eq, false≢true}
use Rattle.std.proofs.lemmas.Bool.Decides.{nat_tests}
use Rattle.can_fault.specs.Sources.{VerdictMap, no_verdicts}
use Rattle.can_fault.specs.Scripts.{Saying, spelled_after, at_line, Gives, HasFault}
use Rattle.can_fault.specs.declared.script_lines.LineFault.{LineFault}
use Rattle.can_fault.specs.declared.script_lines.LineFault.TheVariants as line
use Rattle.can_fault.specs.declared.script.ScriptError.{ScriptError}
use Rattle.can_fault.specs.declared.script.ScriptError.TheVariants as script
use Rattle.can_fault.specs.declared.verdict.Verdict.{Verdict}

-- What the lines of a script say of the script.

get-here : (m : VerdictMap) (k : ℕ) (v : Verdict) → get (insert m k v) k ≡ Some v
get-here m k v = get-insert nat_cmp_total m k v k ∙ ap (λ b. cond b (Some v) (get m k)) ((eq_by_cmp_equiv nat_cmp_total).refl k)

get-apart : (m : VerdictMap) (k : ℕ) (v : Verdict) (q : ℕ) → q ≢ k → get (insert m k v) q ≡ get m q
get-apart m k v q apart =
    let test : eq_by_cmp nat_cmp q k ≡ false = grind (arith, nat_tests) in
    get-insert nat_cmp_total m k v q ∙ ap (λ b. cond b (Some v) (get m q)) test

contains-here : (m : VerdictMap) (k : ℕ) (v : Verdict) → contains_key (insert m k v) k ≡ true
contains-here m k v = ap is_some (get-here m k v)

-- a line gives only one number and one verdict
same_entry : (p q : ℕ × Verdict) → ◌≡◌ {A = Saying} (Ok (Some p)) (Ok (Some q)) → p ≡ q
same_entry p q e = cc

same_place : (p q : ℕ × Verdict) → ◌≡◌ {A = Option Saying} (Some (Ok (Some p))) (Some (Ok (Some q))) → p.0 ≡ q.0
same_place p q e = let same : p ≡ q = cc in ap (λ (x : ℕ × Verdict). x.0) same

-- a line gives the verdict, or one after it does
Gives-cons : (s : Saying) (more : List Saying) (k : ℕ) (v : Verdict) → Gives (s ∷ more) k v → (s ≡ Ok (Some (k, v))) ⊎ Gives more k v
Gives-cons s more k v (zero, at) = inl (let same : Some s ≡ Some (Ok (Some (k, v))) = at in cc)
Gives-cons s more k v (suc p, at) = inr (p, at)

-- a line of a script that gives a verdict gives it to a new attempt
after_entry : (known : VerdictMap) (n a : ℕ) (w : Verdict) (more : List Saying) (verdicts : VerdictMap) → spelled_after known n (Ok (Some (a, w)) ∷ more) ≡ Ok verdicts → (contains_key known a ≡ false) × (spelled_after (insert known a w) (n + 1) more ≡ Ok verdicts)
after_entry known n a w more verdicts e =
    elim (contains_key known a) as (λ b. (if b then Err (script.RepeatedAttempt n) else spelled_after (insert known a w) (n + 1) more) ≡ Ok verdicts → (b ≡ false) × (spelled_after (insert known a w) (n + 1) more ≡ Ok verdicts)) [
      | true ↦ λ r. cc
      | false ↦ λ r. (refl, r)
    ] e

-- each verdict of a script was known before its lines, or one of its lines gives it
pub found : (known : VerdictMap) (n : ℕ) (lines : List Saying) (verdicts : VerdictMap) (k : ℕ) (v : Verdict) → spelled_after known n lines ≡ Ok verdicts → get verdicts k ≡ Some v → (get known k ≡ Some v) ⊎ Gives lines k v
found known n [] verdicts k v e h = inl (let same : known ≡ verdicts = cc in ap (λ m. get m k) same ∙ h)
found known n (Err fault ∷ more) verdicts k v e h = cc
found known n (Ok None ∷ more) verdicts k v e h = ⊎_elim inl (λ (p, at). inr (suc p, at)) (found known (n + 1) more verdicts k v e h)
found known n (Ok (Some (a, w)) ∷ more) verdicts k v e h =
    let rest = after_entry known n a w more verdicts e in
    ⊎_elim (entry_or_known known a w more k v) (λ (p, at). inr (suc p, at)) (found (insert known a w) (n + 1) more verdicts k v rest.1 h)
  where
    entry_or_known : (known : VerdictMap) (a : ℕ) (w : Verdict) (more : List Saying) (k : ℕ) (v : Verdict) → get (insert known a w) k ≡ Some v → (get known k ≡ Some v) ⊎ Gives (Ok (Some (a, w)) ∷ more) k v
    entry_or_known known a w more k v g =
        ⊎_elim (λ same. inr (zero, let value : Some w ≡ Some v = sym (get-here known a w) ∙ ap (get (insert known a w)) (sym same) ∙ g in cc)) (λ apart. inl (sym (get-apart known a w k apart) ∙ g)) (cases_eq k a)

known_apart : (known : VerdictMap) (a k : ℕ) (v : Verdict) → contains_key known a ≡ false → get known k ≡ Some v → k ≢ a
known_apart known a k v none g same = false≢true (sym none ∙ ap (contains_key known) (sym same) ∙ ap is_some g)

given_here : (known : VerdictMap) (a : ℕ) (w : Verdict) (k : ℕ) (v : Verdict) → ◌≡◌ {A = ℕ × Verdict} (a, w) (k, v) → get (insert known a w) k ≡ Some v
given_here known a w k v same =
    ap (λ (x : ℕ × Verdict). get (insert known a w) x.0) (sym same) ∙ get-here known a w ∙ ap (λ (x : ℕ × Verdict). Some x.1) same

-- the script has every verdict that was known before its lines or that a line gives
pub kept : (known : VerdictMap) (n : ℕ) (lines : List Saying) (verdicts : VerdictMap) (k : ℕ) (v : Verdict) → spelled_after known n lines ≡ Ok verdicts → (get known k ≡ Some v) ⊎ Gives lines k v → get verdicts k ≡ Some v
kept known n [] verdicts k v e h = ⊎_elim (λ g. let same : verdicts ≡ known = cc in ap (λ m. get m k) same ∙ g) (λ (p, at). let none : None ≡ Some (Ok (Some (k, v))) = at in cc) h
kept known n (Err fault ∷ more) verdicts k v e h = cc
kept known n (Ok None ∷ more) verdicts k v e h =
    kept known (n + 1) more verdicts k v e (⊎_elim inl (λ given. ⊎_elim (λ other. cc) inr (Gives-cons (Ok None) more k v given)) h)
kept known n (Ok (Some (a, w)) ∷ more) verdicts k v e h =
    let rest = after_entry known n a w more verdicts e in
    kept (insert known a w) (n + 1) more verdicts k v rest.1
    (⊎_elim (λ g. inl (get-apart known a w k (known_apart known a k v rest.0 g) ∙ g)) (λ given. ⊎_elim (λ same. inl (given_here known a w k v (same_entry (a, w) (k, v) same))) inr (Gives-cons (Ok (Some (a, w))) more k v given)) h)

-- if a line of a script gives a verdict on an attempt, the attempt had none before
fresh : (known : VerdictMap) (n : ℕ) (lines : List Saying) (verdicts : VerdictMap) (k : ℕ) (v : Verdict) → spelled_after known n lines ≡ Ok verdicts → Gives lines k v → contains_key known k ≡ false
fresh known n [] verdicts k v e (p, at) = let none : ◌≡◌ {A = Option Saying} None (Some (Ok (Some (k, v)))) = at in cc
fresh known n (Err fault ∷ more) verdicts k v e given = cc
fresh known n (Ok None ∷ more) verdicts k v e given = ⊎_elim (λ other. cc) (fresh known (n + 1) more verdicts k v e) (Gives-cons (Ok None) more k v given)
fresh known n (Ok (Some (a, w)) ∷ more) verdicts k v e given =
    let rest = after_entry known n a w more verdicts e in
    ⊎_elim (λ same. ap (λ (x : ℕ × Verdict). contains_key known x.0) (sym (same_entry (a, w) (k, v) same)) ∙ rest.0) (λ later. earlier known a w k (fresh (insert known a w) (n + 1) more verdicts k v rest.1 later)) (Gives-cons (Ok (Some (a, w))) more k v given)
  where
    earlier : (known : VerdictMap) (a : ℕ) (w : Verdict) (k : ℕ) → contains_key (insert known a w) k ≡ false → contains_key known k ≡ false
    earlier known a w k none =
        ⊎_elim (λ same. absurd (false≢true (sym none ∙ ap (contains_key (insert known a w)) same ∙ contains-here known a w))) (λ apart. ap is_some (sym (get-apart known a w k apart)) ∙ none) (cases_eq k a)

-- two lines with a verdict on the same attempt are the same line
pub one_line : (known : VerdictMap) (n : ℕ) (lines : List Saying) (verdicts : VerdictMap) (i j k : ℕ) (v w : Verdict) → spelled_after known n lines ≡ Ok verdicts → slice_get lines i ≡ Some (Ok (Some (k, v))) → slice_get lines j ≡ Some (Ok (Some (k, w))) → i ≡ j
one_line known n [] verdicts i j k v w e p q = let none : ◌≡◌ {A = Option Saying} None (Some (Ok (Some (k, v)))) = p in cc
one_line known n (Err fault ∷ more) verdicts i j k v w e p q = cc
one_line known n (Ok None ∷ more) verdicts zero j k v w e p q = cc
one_line known n (Ok None ∷ more) verdicts (suc i) zero k v w e p q = cc
one_line known n (Ok None ∷ more) verdicts (suc i) (suc j) k v w e p q = ap suc (one_line known (n + 1) more verdicts i j k v w e p q)
one_line known n (Ok (Some (a, u)) ∷ more) verdicts zero zero k v w e p q = refl
one_line known n (Ok (Some (a, u)) ∷ more) verdicts zero (suc j) k v w e p q =
    let rest = after_entry known n a u more verdicts e in
    let key : a ≡ k = same_place (a, u) (k, v) p in
    absurd (false≢true (sym (fresh (insert known a u) (n + 1) more verdicts k w rest.1 (j, q)) ∙ ap (contains_key (insert known a u)) (sym key) ∙ contains-here known a u))
one_line known n (Ok (Some (a, u)) ∷ more) verdicts (suc i) zero k v w e p q =
    let rest = after_entry known n a u more verdicts e in
    let key : a ≡ k = same_place (a, u) (k, w) q in
    absurd (false≢true (sym (fresh (insert known a u) (n + 1) more verdicts k v rest.1 (i, p)) ∙ ap (contains_key (insert known a u)) (sym key) ∙ contains-here known a u))
one_line known n (Ok (Some (a, u)) ∷ more) verdicts (suc i) (suc j) k v w e p q =
    let rest = after_entry known n a u more verdicts e in
    ap suc (one_line (insert known a u) (n + 1) more verdicts i j k v w rest.1 p q)

-- like `HasFault`, for lines from number n on, after lines that gave `known`
abbrev pub HasFaultAfter : VerdictMap → ℕ → List Saying → ℕ → ScriptError → Type 0
HasFaultAfter known n lines place (script.BadLine m) = (m ≡ n + place) × (slice_get lines place ≡ Some (Err line.BadLine))
HasFaultAfter known n lines place (script.UnknownInterface m) = (m ≡ n + place) × (slice_get lines place ≡ Some (Err line.UnknownInterface))
HasFaultAfter known n lines place (script.RepeatedAttempt m) = (m ≡ n + place) × ((attempt : ℕ) × (now : Verdict) × (slice_get lines place ≡ Some (Ok (Some (attempt, now)))) × ((contains_key known attempt ≡ true) ⊎ ((before : Verdict) × Gives (take place lines) attempt before)))
HasFaultAfter known n lines place script.NoMemory = ⊥

at_once : (known : VerdictMap) (n : ℕ) (own : LineFault) (more : List Saying) → HasFaultAfter known n (Err own ∷ more) zero (at_line n own)
at_once known n line.BadLine more = (omega arith, refl)
at_once known n line.UnknownInterface more = (omega arith, refl)

past_silent : (known : VerdictMap) (n : ℕ) (more : List Saying) (place : ℕ) (fault : ScriptError) → HasFaultAfter known (n + 1) more place fault → HasFaultAfter known n (Ok None ∷ more) (suc place) fault
past_silent known n more place (script.BadLine m) h = (omega (arith, h.0), h.1)
past_silent known n more place (script.UnknownInterface m) h = (omega (arith, h.0), h.1)
past_silent known n more place (script.RepeatedAttempt m) (number, (attempt, now, there, had)) =
    (omega (arith, number), (attempt, now, there, ⊎_elim inl (λ (before, given). inr (before, (suc given.0, given.1))) had))
past_silent known n more place script.NoMemory h = h

had_before : (known : VerdictMap) (a : ℕ) (w : Verdict) (more : List Saying) (place attempt : ℕ)
    → (contains_key (insert known a w) attempt ≡ true) ⊎ ((before : Verdict) × Gives (take place more) attempt before)
    → (contains_key known attempt ≡ true) ⊎ ((before : Verdict) × Gives (take (suc place) (Ok (Some (a, w)) ∷ more)) attempt before)
had_before known a w more place attempt (inr (before, given)) = inr (before, (suc given.0, given.1))
had_before known a w more place attempt (inl has) =
    ⊎_elim (λ same. inr (w, (zero, ap (λ (k : ℕ). Some (Ok (Some (k, w)))) (sym same)))) (λ apart. inl (ap is_some (sym (get-apart known a w attempt apart)) ∙ has)) (cases_eq attempt a)

past_entry : (known : VerdictMap) (n a : ℕ) (w : Verdict) (more : List Saying) (place : ℕ) (fault : ScriptError) → HasFaultAfter (insert known a w) (n + 1) more place fault → HasFaultAfter known n (Ok (Some (a, w)) ∷ more) (suc place) fault
past_entry known n a w more place (script.BadLine m) h = (omega (arith, h.0), h.1)
past_entry known n a w more place (script.UnknownInterface m) h = (omega (arith, h.0), h.1)
past_entry known n a w more place (script.RepeatedAttempt m) (number, (attempt, now, there, had)) =
    (omega (arith, number), (attempt, now, there, had_before known a w more place attempt had))
past_entry known n a w more place script.NoMemory h = h

-- the first faulty line's fault
pub first_fault : (known : VerdictMap) (n : ℕ) (lines : List Saying) (fault : ScriptError) → spelled_after known n lines ≡ Err fault → (place : ℕ) × IsOk (spelled_after known n (take place lines)) × HasFaultAfter known n lines place fault
first_fault known n [] fault e = cc
first_fault known n (Err own ∷ more) fault e =
    let same : at_line n own ≡ fault = cc in
    (zero, refl, subst (HasFaultAfter known n (Err own ∷ more) zero) same (at_once known n own more))
first_fault known n (Ok None ∷ more) fault e =
    let rest = first_fault known (n + 1) more fault e in
    (suc rest.0, rest.1, past_silent known n more rest.0 fault rest.2)
first_fault known n (Ok (Some (a, w)) ∷ more) fault e =
    elim (contains_key known a) as (λ b. contains_key known a ≡ b
    → (if b then Err (script.RepeatedAttempt n) else spelled_after (insert known a w) (n + 1) more) ≡ Err fault
    → (place : ℕ) × IsOk (spelled_after known n (take place (Ok (Some (a, w)) ∷ more))) × HasFaultAfter known n (Ok (Some (a, w)) ∷ more) place fault) [
      | true ↦ λ there r.
          let same : script.RepeatedAttempt n ≡ fault = cc in
          (zero, refl, subst (HasFaultAfter known n (Ok (Some (a, w)) ∷ more) zero) same (omega arith, (a, w, refl, inl there)))
      | false ↦ λ none r.
          let rest = first_fault (insert known a w) (n + 1) more fault r in
          (suc rest.0, subst (λ b. IsOk (if b then Err (script.RepeatedAttempt n) else spelled_after (insert known a w) (n + 1) (take rest.0 more))) (sym none) rest.1, past_entry known n a w more rest.0 fault rest.2)
    ] refl e

-- after no line
pub from_start : (lines : List Saying) (place : ℕ) (fault : ScriptError) → HasFaultAfter no_verdicts 1 lines place fault → HasFault lines place fault
from_start lines place (script.BadLine m) h = (omega (arith, h.0), h.1)
from_start lines place (script.UnknownInterface m) h = (omega (arith, h.0), h.1)
from_start lines place (script.RepeatedAttempt m) (number, (attempt, now, there, inl has)) = absurd (false≢true (ap is_some (sym (get-empty {X = Verdict} nat_cmp attempt)) ∙ has))
from_start lines place (script.RepeatedAttempt m) (number, (attempt, now, there, inr (before, given))) =
    (omega (arith, number), (attempt, now, before, there, given))
from_start lines place script.NoMemory h = h

-- after a line that says nothing
before_silent : (known : VerdictMap) (n : ℕ) (more : List Saying) (place : ℕ) (fault : ScriptError) → HasFaultAfter known n (Ok None ∷ more) (suc place) fault → HasFaultAfter known (n + 1) more place fault
before_silent known n more place (script.BadLine m) h = (omega (arith, h.0), h.1)
before_silent known n more place (script.UnknownInterface m) h = (omega (arith, h.0), h.1)
before_silent known n more place (script.RepeatedAttempt m) (number, (attempt, now, there, inl has)) = (omega (arith, number), (attempt, now, there, inl has))
before_silent known n more place (script.RepeatedAttempt m) (number, (attempt, now, there, inr (before, given))) =
    (omega (arith, number), (attempt, now, there, ⊎_elim (λ other. cc) (λ later. inr (before, later)) (Gives-cons (Ok None) (take place more) attempt before given)))
before_silent known n more place script.NoMemory h = h

-- after a line that gives a verdict
before_entry : (known : VerdictMap) (n a : ℕ) (w : Verdict) (more : List Saying) (place : ℕ) (fault : ScriptError) → HasFaultAfter known n (Ok (Some (a, w)) ∷ more) (suc place) fault → HasFaultAfter (insert known a w) (n + 1) more place fault
before_entry known n a w more place (script.BadLine m) h = (omega (arith, h.0), h.1)
before_entry known n a w more place (script.UnknownInterface m) h = (omega (arith, h.0), h.1)
before_entry known n a w more place (script.RepeatedAttempt m) (number, (attempt, now, there, inl has)) =
    (omega (arith, number), (attempt, now, there, inl (⊎_elim (λ same. ap (contains_key (insert known a w)) same ∙ contains-here known a w) (λ apart. ap is_some (get-apart known a w attempt apart) ∙ has) (cases_eq attempt a))))
before_entry known n a w more place (script.RepeatedAttempt m) (number, (attempt, now, there, inr (before, given))) = (
  omega (arith, number),
  (
    attempt,
    now,
    there,
    ⊎_elim (λ same. inl (ap (λ (x : ℕ × Verdict). contains_key (insert known a w) x.0) (sym (same_entry (a, w) (attempt, before) same)) ∙ contains-here known a w))
        (λ later. inr (before, later)) (Gives-cons (Ok (Some (a, w))) (take place more) attempt before given),
  ),
)
before_entry known n a w more place script.NoMemory h = h

own_fault : (known : VerdictMap) (n : ℕ) (own : LineFault) (more : List Saying) (fault : ScriptError) → HasFaultAfter known n (Err own ∷ more) zero fault → at_line n own ≡ fault
own_fault known n line.BadLine more (script.BadLine m) h = ap script.BadLine (omega (arith, h.0))
own_fault known n line.UnknownInterface more (script.BadLine m) h = cc
own_fault known n line.BadLine more (script.UnknownInterface m) h = cc
own_fault known n line.UnknownInterface more (script.UnknownInterface m) h = ap script.UnknownInterface (omega (arith, h.0))
own_fault known n own more (script.RepeatedAttempt m) (number, (attempt, now, there, had)) = cc
own_fault known n own more script.NoMemory h = absurd h

no_line : (known : VerdictMap) (n place : ℕ) (fault : ScriptError) → HasFaultAfter known n [] place fault → ⊥
no_line known n place (script.BadLine m) h = cc
no_line known n place (script.UnknownInterface m) h = cc
no_line known n place (script.RepeatedAttempt m) (number, (attempt, now, there, had)) = cc
no_line known n place script.NoMemory h = h

no_silent : (known : VerdictMap) (n : ℕ) (more : List Saying) (fault : ScriptError) → HasFaultAfter known n (Ok None ∷ more) zero fault → ⊥
no_silent known n more (script.BadLine m) h = cc
no_silent known n more (script.UnknownInterface m) h = cc
no_silent known n more (script.RepeatedAttempt m) (number, (attempt, now, there, had)) = cc
no_silent known n more script.NoMemory h = h

again : (known : VerdictMap) (n a : ℕ) (w : Verdict) (more : List Saying) (fault : ScriptError) → HasFaultAfter known n (Ok (Some (a, w)) ∷ more) zero fault → (contains_key known a ≡ true) × (script.RepeatedAttempt n ≡ fault)
again known n a w more (script.BadLine m) h = cc
again known n a w more (script.UnknownInterface m) h = cc
again known n a w more (script.RepeatedAttempt m) (number, (attempt, now, there, inl has)) =
    (ap (contains_key known) (same_place (a, w) (attempt, now) there) ∙ has, ap script.RepeatedAttempt (omega (arith, number)))
again known n a w more (script.RepeatedAttempt m) (number, (attempt, now, there, inr (before, given))) = let none : ◌≡◌ {A = Option Saying} None (Some (Ok (Some (attempt, before)))) = given.1 in cc
again known n a w more script.NoMemory h = absurd h

-- the fault of the first faulty line is the fault that is reported
pub fault_told : (known : VerdictMap) (n : ℕ) (lines : List Saying) (place : ℕ) (fault : ScriptError) → IsOk (spelled_after known n (take place lines)) → HasFaultAfter known n lines place fault → spelled_after known n lines ≡ Err fault
fault_told known n [] place fault good has = absurd (no_line known n place fault has)
fault_told known n (Err own ∷ more) zero fault good has = ap Err (own_fault known n own more fault has)
fault_told known n (Err own ∷ more) (suc place) fault good has = absurd (false≢true good)
fault_told known n (Ok None ∷ more) zero fault good has = absurd (no_silent known n more fault has)
fault_told known n (Ok None ∷ more) (suc place) fault good has = fault_told known (n + 1) more place fault good (before_silent known n more place fault has)
fault_told known n (Ok (Some (a, w)) ∷ more) zero fault good has =
    let (there, same) = again known n a w more fault has in
    ap (λ b. if b then Err (script.RepeatedAttempt n) else spelled_after (insert known a w) (n + 1) more) there ∙ ap Err same
fault_told known n (Ok (Some (a, w)) ∷ more) (suc place) fault good has =
    let (none, rest) = good_entry (contains_key known a) (spelled_after (insert known a w) (n + 1) (take place more)) good in
    ap (λ b. if b then Err (script.RepeatedAttempt n) else spelled_after (insert known a w) (n + 1) more) none
    ∙ fault_told (insert known a w) (n + 1) more place fault rest (before_entry known n a w more place fault has)
  where
    good_entry : (b : Bool) (r : Result VerdictMap ScriptError) → IsOk (if b then Err (script.RepeatedAttempt n) else r) → (b ≡ false) × IsOk r
    good_entry true r h = absurd (false≢true h)
    good_entry false r h = (refl, h)

pub to_start : (lines : List Saying) (place : ℕ) (fault : ScriptError) → HasFault lines place fault → HasFaultAfter no_verdicts 1 lines place fault
to_start lines place (script.BadLine m) h = (omega (arith, h.0), h.1)
to_start lines place (script.UnknownInterface m) h = (omega (arith, h.0), h.1)
to_start lines place (script.RepeatedAttempt m) (number, (attempt, now, before, there, given)) = (omega (arith, number), (attempt, now, there, inr (before, given)))
to_start lines place script.NoMemory h = h
