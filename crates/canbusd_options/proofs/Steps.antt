use Rattle.std.proofs.Common.{◌≡◌, ◌↔◌, inl, inr, ◌⊎◌, ◌==◌, ℕ, Bool, true, false, true≢false, List, [], ◌∷◌, ◌++◌, length, filter, slice_index, Result, Ok, Err, IfOk, IsOk, if◌then◌else◌, refl, sym, ap, subst, ◌∙◌, arith, rules, append-nil, length-append}
use Rattle.std.specs.Result.{result_unwrap_or}
use Rattle.std.specs.declared.path.Path.{Path}
use Rattle.std.specs.Path.{PathStartsWith, StripsPrefix, cur_dir, first_piece, is_dot_at, is_name, later_pieces, leading_components, path_bytes, path_components, path_names, root_dir, slash}
use Rattle.std.proofs.lemmas.List.{nil_from_length}
use Rattle.canbusd_options.specs.Options.{path_steps}

-- The steps of a path.

decide : (b : Bool) → (b ≡ true) ⊎ (b ≡ false)
decide true = inl refl
decide false = inr refl

-- the first element that a filter keeps passes the filter
first_passes : {A : Type 0} (f : A → Bool) (xs rest : List A) (y : A) → filter f xs ≡ y ∷ rest → f y ≡ true
first_passes f [] rest y e = absurd (search (rules, e))
first_passes f (x ∷ xs) rest y e = elim (decide (f x)) [
  | inl passes ↦ let same : x ≡ y = cc (rw passes at e) in subst (λ z. f z ≡ true) same passes
  | inr fails ↦ first_passes f xs rest y (rw fails at e)
]

-- no name is `.`
no_dot_name : (path : List ℕ) (rest : List (List ℕ)) → path_names path ≡ cur_dir ∷ rest → ⊥
unfolding path_names
no_dot_name path rest e = true≢false (sym (first_passes is_name (first_piece path ∷ later_pieces path) rest cur_dir e))

whole : (path : List ℕ) → path_components path ≡ leading_components path ++ path_names path
unfolding path_components
whole path = refl

dot_steps : path_components cur_dir ≡ cur_dir ∷ []
unfolding path_components path_names
dot_steps = refl

abbrev front : Bool → Bool → List (List ℕ)
front is_rooted is_dotted = if is_rooted then root_dir ∷ [] else (if is_dotted then cur_dir ∷ [] else [])

with_dot : (is_rooted is_dotted : Bool) (names rest : List (List ℕ)) → (names ≡ cur_dir ∷ rest → ⊥) → front is_rooted is_dotted ++ names ≡ cur_dir ∷ rest
    → rest ≡ (if is_rooted then root_dir ∷ [] else []) ++ names
with_dot true is_dotted names rest never e = absurd (search (rules, e))
with_dot false true names rest never e = cc
with_dot false false names rest never e = absurd (never e)

without_dot : (is_rooted is_dotted : Bool) (names : List (List ℕ)) → ((rest : List (List ℕ)) → front is_rooted is_dotted ++ names ≡ cur_dir ∷ rest → ⊥)
    → front is_rooted is_dotted ++ names ≡ (if is_rooted then root_dir ∷ [] else []) ++ names
without_dot true is_dotted names never = refl
without_dot false true names never = absurd (never names refl)
without_dot false false names never = refl

-- the part after a leading `.` has the steps of the path as its components
pub after_dot : (path rest : List ℕ) → StripsPrefix path cur_dir rest → path_components rest ≡ path_steps path
after_dot path rest strips = with_dot (slice_index path 0 == slash) (is_dot_at path 0) (path_names path) (path_components rest) (no_dot_name path _) (sym (whole path) ∙ strips ∙ ap (λ l. l ++ path_components rest) dot_steps)

-- a path without a leading `.` has its components as steps
pub no_dot : (path : List ℕ) → (PathStartsWith path cur_dir → ⊥) → path_components path ≡ path_steps path
no_dot path never = whole path ∙ without_dot (slice_index path 0 == slash) (is_dot_at path 0) (path_names path) (λ rest e. never (rest, whole path ∙ e ∙ sym (ap (λ l. l ++ rest) dot_steps)))

-- the components of a path without its leading `.`, if it has one, are the steps of the path
pub off_dot : {E : Type 0} (path : List ℕ) (p : Path) (r : Result Path E) → path_bytes p ≡ path → (IsOk r ↔ PathStartsWith (path_bytes p) cur_dir)
    → IfOk r (λ rest. StripsPrefix (path_bytes p) cur_dir (path_bytes rest)) → path_components (path_bytes (result_unwrap_or r p)) ≡ path_steps path
off_dot path p (Ok rest) is begins strips = after_dot (path_bytes p) (path_bytes rest) strips ∙ ap path_steps is
off_dot path p (Err e) is begins strips = no_dot (path_bytes p) (λ starts. absurd (search (rules, begins.1 starts))) ∙ ap path_steps is

-- two lists are equal if each begins with the other
one_list : {A : Type 0} (xs ys more others : List A) → xs ≡ ys ++ more → ys ≡ xs ++ others → xs ≡ ys
one_list xs ys more others e f =
    let none : length more ≡ 0 = omega (arith, simp length-append at (ap length e), simp length-append at (ap length f)) in
    e ∙ ap (λ l. ys ++ l) (nil_from_length more none) ∙ append-nil ys

-- two paths have the same components if each begins with the other
pub both_begin : (path other : List ℕ) → PathStartsWith path other → PathStartsWith other path → path_components path ≡ path_components other
both_begin path other (more, e) (others, f) = one_list _ _ more others e f

pub begins : (path other : List ℕ) → path_components path ≡ path_components other → PathStartsWith path other
begins path other e = ([], e ∙ sym (append-nil _))
