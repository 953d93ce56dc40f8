use Rattle.std.proofs.Common.{rules, ◌≡◌, ◌<◌, ◌++◌, ◌∷◌, [], List, ℕ, Ok, Err, Result, length, take, refl, sym, ap, ◌∙◌, arith, append_assoc}
use Rattle.std.proofs.lemmas.List.{length-set, append-nil, take_more_set, nil_from_length}
use Rattle.can_filter.specs.Filters.{CanFilter}
use Rattle.can_proto.specs.declared.fault.ProtoFault.{ProtoFault}
use Rattle.can_proto.specs.Words.{words_of}
use Rattle.can_proto.specs.Commands.{◌>>=◌, with_front, filter_of, filters_of}
use Rattle.can_proto.proofs.filtering.read_filters.Goals as goal

bad : (front : List CanFilter) (a b : List ℕ) (rest : List (List ℕ)) (all : Result (List CanFilter) ProtoFault) (e : ProtoFault) → with_front front (filters_of (a ∷ b ∷ rest)) ≡ all → Err e ≡ filter_of a b → all ≡ Err e
unfolding filters_of
bad front a b rest all e h k = sym h ∙ ap (λ (r : Result CanFilter ProtoFault). with_front front (r >>= λ f. filters_of rest >>= λ fs. Ok (f ∷ fs))) (sym k)

regroup : (front : List CanFilter) (f : CanFilter) (read : Result (List CanFilter) ProtoFault) → with_front front (read >>= λ fs. Ok (f ∷ fs)) ≡ with_front (front ++ f ∷ []) read
regroup front f (Ok fs) = ap (λ (x : List CanFilter). Ok x) (sym (append_assoc front (f ∷ []) fs))
regroup front f (Err e) = refl

more : (front : List CanFilter) (a b : List ℕ) (f : CanFilter) (rest : List (List ℕ)) (all : Result (List CanFilter) ProtoFault) → with_front front (filters_of (a ∷ b ∷ rest)) ≡ all → Ok f ≡ filter_of a b → with_front (front ++ f ∷ []) (filters_of rest) ≡ all
unfolding filters_of
more front a b f rest all h k =
    sym (regroup front f (filters_of rest)) ∙ ap (λ (r : Result CanFilter ProtoFault). with_front front (r >>= λ x. filters_of rest >>= λ fs. Ok (x ∷ fs))) k ∙ h

ended : (front : List CanFilter) (words : List (List ℕ)) (all : Result (List CanFilter) ProtoFault) → length words ≡ 0 → with_front front (filters_of words) ≡ all → all ≡ Ok front
unfolding filters_of
ended front words all n h =
    let none : words ≡ [] = nil_from_length words n in
    sym h ∙ ap (λ (w : List (List ℕ)). with_front front (filters_of w)) none ∙ ap (λ (x : List CanFilter). Ok x) (append-nil front)

-- the next two words are read as one filter
two : (front : List CanFilter) (rest after last : List (List ℕ)) (a b : List ℕ) (all : Result (List CanFilter) ProtoFault) → rest ≡ a ∷ after → after ≡ b ∷ last → with_front front (filters_of rest) ≡ all → with_front front (filters_of (a ∷ b ∷ last)) ≡ all
two front rest after last a b all e k h = sym (ap (λ (w : List (List ℕ)). with_front front (filters_of w)) (e ∙ ap (λ (w : List (List ℕ)). a ∷ w) k)) ∙ h

pub returns-in_err-filters-clause-value : goal.returns-in_err-filters-clause-value
returns-in_err-filters-clause-value c =
    let same = two (take c.loop-i.i c.loop-i.filters) _ _ _ _ _ _ c.in-Some.ensures c.in-Some-next_word.ensures c.loop-i.invariant.same in
    let told : c.from_residual.result ≡ Err c.in_err-filters.field-0.0 = search rules in
    rw told (bad _ _ _ _ _ _ same c.in_err-filters.ensures.value)

pub loop-i-preserved : goal.loop-i-preserved
loop-i-preserved c =
    let same = two (take c.loop-i.i c.loop-i.filters) _ _ _ _ _ _ c.in-Some.ensures c.in-Some-next_word.ensures c.loop-i.invariant.same in
    let small : c.loop-i.i < length c.loop-i.filters = omega (arith, c.loop-i.invariant.places, c.requires.few, c.loop-i-test.true) in
    let one : length (words_of c.loop-i.rest.now) ≡ length (c.in-Some.id_word.now ∷ words_of c.in-Some.after.now) = ap (λ (w : List (List ℕ)). length w) c.in-Some.ensures in
    let other : length (words_of c.in-Some.after.now) ≡ length (c.in-Some-next_word.mask_word.now ∷ words_of c.in-Some-next_word.after.now) = ap (λ (w : List (List ℕ)). length w) c.in-Some-next_word.ensures in
    record {
      same = ap (λ (x : List CanFilter). with_front x (filters_of (words_of c.in-Some-next_word.after.now))) (take_more_set c.loop-i.filters c.loop-i.i c.in_ok-filters.field-0 small) ∙ more _ _ _ _ _ _ same c.in_ok-filters.ensures.value;
      places = simp length-set c.loop-i.invariant.places;
      left = omega (arith, one, other, c.loop-i.invariant.left);
    }

pub returns-clause-value : goal.returns-clause-value
returns-clause-value c =
    let done : c.loop-i.i ≡ c.args.count = omega arith in
    ended (take c.args.count c.loop-i.filters) (words_of c.loop-i.rest.now) _ (omega (arith, done, c.loop-i.invariant.left)) (ap (λ (n : ℕ). with_front (take n c.loop-i.filters) (filters_of (words_of c.loop-i.rest.now))) (sym done) ∙ c.loop-i.invariant.same)
