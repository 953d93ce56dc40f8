use Rattle.std.proofs.Common.{◌≡◌, ◌+◌, ◌==◌, if◌then◌else◌, inl, inr, ◌∷◌, List, ℕ, Ok, Err, None, Option, length, sym, ap, ◌∙◌, arith}
use Rattle.std.proofs.lemmas.Bool.{cases_Bool, eq-eqb, ne_eqb, eqb-true, eqb-false, cond-true, cond-false}
use Rattle.can_proto.specs.declared.fault.ProtoFault.{ProtoFault}
use Rattle.can_proto.specs.declared.fault.ProtoFault.TheVariants.{BadByte, BadCount}
use Rattle.can_proto.specs.Words.{words_of}
use Rattle.can_frame.specs.Numbers.{number_in}
use Rattle.can_proto.specs.Commands.{◌>>=◌, bytes_of, or_fault, IsDataFault}
use Rattle.can_proto.proofs.sending.spelled_byte.Goals as goal

bad : (word : List ℕ) (after : List (List ℕ)) → None ≡ number_in 16 2 word → bytes_of (word ∷ after) ≡ Err BadByte
unfolding bytes_of
bad word after e = ap (λ (o : Option ℕ). or_fault BadByte o >>= λ b. bytes_of after >>= λ bs. Ok (b ∷ bs)) (sym e)

-- the fault of a word that is not a byte, given the number of words after it
spoiled : (words after : List (List ℕ)) (word : List ℕ) (left : ℕ) (e : ProtoFault) → words ≡ word ∷ after → None ≡ number_in 16 2 word → e ≡ (if length after == left then BadByte else BadCount) → IsDataFault (left + 1) words e
spoiled words after word left e whole wrong told =
    let count : length words ≡ length (word ∷ after) = ap (λ (w : List (List ℕ)). length w) whole in
    let fails : bytes_of words ≡ Err BadByte = ap (λ (w : List (List ℕ)). bytes_of w) whole ∙ bad word after wrong in
    elim (cases_Bool (length after == left)) [
      | inl hit ↦
          let same : length after ≡ left = eqb-true _ _ hit in
          inr (eq-eqb (length words) (left + 1) (omega (arith, count)), fails, told ∙ cond-true (length after == left) BadByte BadCount hit)
      | inr miss ↦
          let other : length after ≡ left → ⊥ = eqb-false _ _ miss in
          inl (ne_eqb (length words) (left + 1) (λ q. other (omega (arith, count))), told ∙ cond-false (length after == left) BadByte BadCount miss)
    ]

pub returns-in-None-clause-fault : goal.returns-in-None-clause-fault
returns-in-None-clause-fault c =
    spoiled (words_of c.args.text.now) (words_of c.in-Some.after.now) c.in-Some.word.now c.args.left _ c.in-Some.ensures c.in-None.ensures c.bad_byte.ensures
