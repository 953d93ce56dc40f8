use Rattle.std.proofs.Common.{◌≡◌, ℕ, zero, suc, ◌+◌, ◌-◌, ◌==◌, ◌<◌, ◌≤◌, Bool, true, false, if◌then◌else◌, List, [], ◌∷◌, ◌++◌, length, take, drop, get_or, slice_get, slice_range, codes, inl, inr, refl, sym, ap, ◌∙◌, arith, append_assoc}
use Rattle.std.specs.List.{join_with_byte}
use Rattle.std.proofs.lemmas.Bool.{cases_lt}
use Rattle.std.proofs.lemmas.Grind.{common_steps}
use Rattle.std.proofs.lemmas.Nat.Bits.{bit_at_above}
use Rattle.std.proofs.lemmas.List.{drop_more, length-drop}
use Rattle.std.proofs.lemmas.Option.{slice_get-get_or}
use Rattle.can_frame.specs.Sets.{is_in, no_ifaces}
use Rattle.can_frame.specs.declared.iface.IfaceSet.{IfaceSet}
use Rattle.can_session.specs.AttemptLines.{names_from, after_commas, member_text, joined_by_commas, name_text, set_text}

-- the string of names that is still to be written
abbrev pub rest_text : Bool → List (List ℕ) → List ℕ
rest_text true names = joined_by_commas names
rest_text false names = after_commas names

-- the names in the set that are not yet written at index `i`
abbrev pub to_come : List (List ℕ) → IfaceSet → ℕ → List (List ℕ)
to_come names set i = names_from i (drop i names) set

names_here : (names : List (List ℕ)) (set : IfaceSet) (i : ℕ) → i < length names
    → to_come names set i ≡ (if is_in i set then get_or names i [] ∷ to_come names set (i + 1) else to_come names set (i + 1))
names_here names set i lt = ap (λ ns. names_from i ns set) (drop_more names i [] lt)

name_here : (names : List (List ℕ)) (i : ℕ) → i < length names → name_text (slice_get names i) ≡ get_or names i []
name_here names i lt = ap name_text (slice_get-get_or names i [] lt)

first_of : (first : Bool) (name : List ℕ) (names : List (List ℕ)) → rest_text first (name ∷ names) ≡ member_text first name ++ after_commas names
first_of true name names = refl
first_of false name names = refl

-- for an interface in the set, its name is written, and then the remaining names, each with a comma before it
member_step : (names : List (List ℕ)) (set : IfaceSet) (i : ℕ) (first : Bool) → i < length names → is_in i set ≡ true
    → rest_text first (to_come names set i) ≡ member_text first (name_text (slice_get names i)) ++ rest_text false (to_come names set (i + 1))
member_step names set i first lt is =
    ap (rest_text first) (names_here names set i lt)
    ∙ ap (λ (b : Bool). rest_text first (if b then get_or names i [] ∷ to_come names set (i + 1) else to_come names set (i + 1))) is
    ∙ first_of first (get_or names i []) (to_come names set (i + 1))
    ∙ ap (λ (t : List ℕ). member_text first t ++ after_commas (to_come names set (i + 1))) (sym (name_here names i lt))

-- for an interface outside the set, nothing is written
other_step : (names : List (List ℕ)) (set : IfaceSet) (i : ℕ) (first : Bool) → i < length names → is_in i set ≡ false
    → rest_text first (to_come names set i) ≡ rest_text first (to_come names set (i + 1))
other_step names set i first lt is =
    ap (rest_text first) (names_here names set i lt)
    ∙ ap (λ (b : Bool). rest_text first (if b then get_or names i [] ∷ to_come names set (i + 1) else to_come names set (i + 1))) is

member_longer : (first : Bool) (name more : List ℕ) → member_text first (name ++ more) ≡ member_text first name ++ more
member_longer true name more = refl
member_longer false name more = refl

join_more : (name : List ℕ) (names : List (List ℕ)) (n : ℕ) → n < length names → join_with_byte 44 (take (suc (suc n)) (name ∷ names)) ≡ name ++ 44 ∷ join_with_byte 44 (take (suc n) names)
join_more name [] n lt = elim lt [ ]
join_more name (next ∷ names) n lt = refl

-- for consecutive interfaces in the set, their names are written with commas between them
run_step : (names : List (List ℕ)) (set : IfaceSet) (first : Bool) (n i : ℕ) → i + n < length names → ((k : ℕ) → i ≤ k → k ≤ i + n → is_in k set ≡ true)
    → rest_text first (to_come names set i) ≡ member_text first (join_with_byte 44 (take (suc n) (drop i names))) ++ rest_text false (to_come names set (i + n + 1))
run_step names set first zero i lt members =
    let inside : i < length names = omega (arith, lt) in
    let one : join_with_byte 44 (take 1 (drop i names)) ≡ get_or names i [] = ap (λ (ns : List (List ℕ)). join_with_byte 44 (take 1 ns)) (drop_more names i [] inside) in
    let here : i + 1 ≡ i + 0 + 1 = omega arith in
    member_step names set i first inside (members i (omega arith) (omega arith))
    ∙ ap (λ (t : List ℕ). member_text first t ++ rest_text false (to_come names set (i + 1))) (name_here names i inside ∙ sym one)
    ∙ ap (λ (k : ℕ). member_text first (join_with_byte 44 (take 1 (drop i names))) ++ rest_text false (to_come names set k)) here
run_step names set first (suc n) i lt members =
    let inside : i < length names = omega (arith, lt) in
    let tail = join_with_byte 44 (take (suc n) (drop (i + 1) names)) in
    let name = get_or names i [] in
    let rest = rest_text false (to_come names set (i + 1 + n + 1)) in
    let more : join_with_byte 44 (take (suc (suc n)) (drop i names)) ≡ name ++ 44 ∷ tail =
    ap (λ (ns : List (List ℕ)). join_with_byte 44 (take (suc (suc n)) ns)) (drop_more names i [] inside) ∙ join_more name (drop (i + 1) names) n (omega (arith, length-drop (i + 1) names, lt)) in
    let later : rest_text false (to_come names set (i + 1)) ≡ (44 ∷ tail) ++ rest = run_step names set false n (i + 1) (omega (arith, lt)) (λ k low high. members k (omega (arith, low)) (omega (arith, high))) in
    let there : i + 1 + n + 1 ≡ i + suc n + 1 = omega arith in
    member_step names set i first inside (members i (omega arith) (omega arith))
    ∙ ap (λ (t : List ℕ). member_text first t ++ rest_text false (to_come names set (i + 1))) (name_here names i inside)
    ∙ ap (λ (t : List ℕ). member_text first name ++ t) later
    ∙ sym (append_assoc (member_text first name) (44 ∷ tail) rest)
    ∙ ap (λ (t : List ℕ). t ++ rest) (sym (member_longer first name (44 ∷ tail)))
    ∙ ap (λ (t : List ℕ). member_text first t ++ rest) (sym more)
    ∙ ap (λ (k : ℕ). member_text first (join_with_byte 44 (take (suc (suc n)) (drop i names))) ++ rest_text false (to_come names set k)) there

-- there are no names after the last one
past_names : (names : List (List ℕ)) (set : IfaceSet) (i : ℕ) → length names ≤ i → to_come names set i ≡ []
past_names names set i past =
    let none : drop i names ≡ [] = grind (arith, common_steps, past) in
    ap (λ (ns : List (List ℕ)). names_from i ns set) none

-- after consecutive names were written, the string so far and the remaining string still form the whole string
pub run_kept : (names : List (List ℕ)) (set : IfaceSet) (i e : ℕ) (first next : Bool) (said more whole : List ℕ)
    → i < e → e ≤ length names → ((k : ℕ) → i ≤ k → k < e → is_in k set ≡ true) → (e < length names → is_in e set ≡ false) → next ≡ false
    → more ≡ said ++ member_text first (join_with_byte 44 (slice_range names i e)) → said ++ rest_text first (to_come names set i) ≡ whole
    → more ++ rest_text next (to_come names set (e + 1)) ≡ whole
run_kept names set i e first next said more whole some within members out last wrote h =
    let n = e - i - 1 in
    let len : suc n ≡ e - i = omega (arith, some) in
    let end : i + n + 1 ≡ e = omega (arith, some) in
    let text = member_text first (join_with_byte 44 (slice_range names i e)) in
    let step : rest_text first (to_come names set i) ≡ text ++ rest_text false (to_come names set e) =
    run_step names set first n i (omega (arith, end, within)) (λ k low high. members k low (omega (arith, high, end)))
    ∙ ap (λ (m : ℕ). member_text first (join_with_byte 44 (take m (drop i names))) ++ rest_text false (to_come names set (i + n + 1))) len
    ∙ ap (λ (k : ℕ). text ++ rest_text false (to_come names set k)) end in
    let skip : rest_text false (to_come names set e) ≡ rest_text false (to_come names set (e + 1)) = elim (cases_lt e (length names)) [
      | inl inside ↦ other_step names set e false inside (out inside)
      | inr past ↦ ap (rest_text false) (past_names names set e past ∙ sym (past_names names set (e + 1) (omega (arith, past))))
    ] in
    ap (λ (b : Bool). more ++ rest_text b (to_come names set (e + 1))) last
    ∙ ap (λ (t : List ℕ). t ++ rest_text false (to_come names set (e + 1))) wrote
    ∙ ap (λ (t : List ℕ). (said ++ text) ++ t) (sym skip)
    ∙ append_assoc said text (rest_text false (to_come names set e))
    ∙ ap (λ (t : List ℕ). said ++ t) (sym step)
    ∙ h

-- after an interface outside the set, the string so far and the remaining string still form the whole string
pub other_kept : (names : List (List ℕ)) (set : IfaceSet) (i : ℕ) (first next : Bool) (said more whole : List ℕ)
    → i < length names → is_in i set ≡ false → next ≡ first → more ≡ said
    → said ++ rest_text first (to_come names set i) ≡ whole → more ++ rest_text next (to_come names set (i + 1)) ≡ whole
other_kept names set i first next said more whole lt is_not last same h =
    ap (λ (b : Bool). more ++ rest_text b (to_come names set (i + 1))) last
    ∙ ap (λ (t : List ℕ). t ++ rest_text first (to_come names set (i + 1))) same
    ∙ ap (λ (t : List ℕ). said ++ t) (sym (other_step names set i first lt is_not)) ∙ h

none_named : (i : ℕ) (names : List (List ℕ)) → names_from i names no_ifaces ≡ []
none_named i [] = refl
none_named i (name ∷ names) =
    let out : is_in i no_ifaces ≡ false = ap (λ (b : ℕ). b == 1) (bit_at_above 0 0 i (omega arith) (omega arith)) in
    rw out (none_named (i + 1) names)

-- the string for an empty set
pub none_text : (names : List (List ℕ)) → set_text names no_ifaces ≡ codes "-"
none_text names = ap joined_by_commas (none_named 0 names)
