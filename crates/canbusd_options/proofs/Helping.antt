use Rattle.std.proofs.Common.{◌≡◌, ◌⊎◌, inl, inr, List, [], ◌∷◌, Result, Ok, Err, IfErr, true, refl, rules, subst, sym, ◌∙◌}
use Rattle.std.specs.Prelude.{IsErrAnd}
use Rattle.clap.specs.declared.error.Error.{Error}
use Rattle.clap.specs.declared.error.kind.ErrorKind.TheVariants.{DisplayHelp, DisplayVersion, OutOfMemory}
use Rattle.clap.specs.Words.{App, HasKind, IsAmong, Kinds, Text, fault_of, is_simple_and_free, kind_of}
use Rattle.clap.proofs.OnLiterals.{clap_on_literals}
use Rattle.canbusd_options.specs.Help.{AskHelp, IsOfKinds, RefusesValue, ShowsHelp}
use Rattle.canbusd_options.specs.Program.{AskJob, program}

-- An error that shows help, and the words that ask for it.

-- the program is simple and free, so clap's contract says how a parse of its words fails
free : is_simple_and_free program ≡ true
unfolding clap_on_literals
free = refl

-- an error of words with these faults shows help or the version only if they ask for it
shown : (kinds : Kinds) (e : Error) → IsOfKinds kinds e → ShowsHelp e → IsAmong DisplayHelp kinds ⊎ IsAmong DisplayVersion kinds
shown [] e (inl memory) (inl help) = absurd (search (rules, sym memory ∙ help))
shown [] e (inl memory) (inr version) = absurd (search (rules, sym memory ∙ version))
shown [] e (inr value) (inl help) = absurd (search (rules, sym value ∙ help))
shown [] e (inr value) (inr version) = absurd (search (rules, sym value ∙ version))
shown (k ∷ ks) e (inl memory) (inl help) = absurd (search (rules, sym memory ∙ help))
shown (k ∷ ks) e (inl memory) (inr version) = absurd (search (rules, sym memory ∙ version))
shown (k ∷ ks) e (inr among) (inl help) = inl (subst (λ x. IsAmong x (k ∷ ks)) help among)
shown (k ∷ ks) e (inr among) (inr version) = inr (subst (λ x. IsAmong x (k ∷ ks)) version among)

pub help_is_asked : (words : List Text) (e : Error) → IsOfKinds (fault_of program words) e → ShowsHelp e → AskHelp words
help_is_asked words e of shows = shown (fault_of program words) e of shows

of_memory : (kinds : Kinds) (e : Error) → kind_of e ≡ OutOfMemory → IsOfKinds kinds e
of_memory [] e memory = inl memory
of_memory (k ∷ ks) e memory = inl memory

of_kind : (kinds : Kinds) (e : Error) → HasKind kinds e → IsOfKinds kinds e
of_kind [] e (inl memory) = inl memory
of_kind [] e (inr among) = absurd among
of_kind (k ∷ ks) e has = has

-- an error because memory was refused may come with any words
pub is_of_memory : (words : List Text) (e : Error) → kind_of e ≡ OutOfMemory → IsOfKinds (fault_of program words) e
is_of_memory words e memory = of_memory (fault_of program words) e memory

-- the error of a parse of the program's words has the kind of a fault in the words
pub is_of_parse : (a : App) (words : List Text) (e : Error) → a ≡ program → (is_simple_and_free a ≡ true → HasKind (fault_of a words) e) → IsOfKinds (fault_of program words) e
is_of_parse a words e is kinds = of_kind (fault_of program words) e (subst (λ p. is_simple_and_free p ≡ true → HasKind (fault_of p words) e) is kinds free)

-- the words have no fault, if the parse of the program finds none
pub no_fault : (a : App) (words : List Text) → a ≡ program → (is_simple_and_free a ≡ true → fault_of a words ≡ []) → fault_of program words ≡ []
no_fault a words is none = subst (λ p. is_simple_and_free p ≡ true → fault_of p words ≡ []) is none free

-- if the words have no fault, the error refuses a value or reports that memory was refused
pub is_of_value : (words : List Text) (e : Error) → fault_of program words ≡ [] → RefusesValue e → IsOfKinds (fault_of program words) e
is_of_value words e none refused = subst (λ kinds. IsOfKinds kinds e) (sym none) refused

-- a property of an error holds for the error that is passed on
pub passed_on : {T : Type 0} (P : Error → Type 0) (e : Error) (r : Result T Error) → IsErrAnd r (λ x. x ≡ e) → P e → IfErr r P
passed_on P e (Ok t) same holds = tt
passed_on P e (Err x) same holds = subst P (sym same) holds

-- the parse of words that ask for a job fails only if memory was refused
pub parse_takes : (a : App) (words : List Text) (e : Error) → a ≡ program → (is_simple_and_free a ≡ true → HasKind (fault_of a words) e) → AskJob words → kind_of e ≡ OutOfMemory
parse_takes a words e is kinds (j, (none, asks)) =
    for_none (fault_of program words) none (subst (λ p. is_simple_and_free p ≡ true → HasKind (fault_of p words) e) is kinds free)
  where
    for_none : (kinds : Kinds) → kinds ≡ [] → HasKind kinds e → kind_of e ≡ OutOfMemory
    for_none kinds none (inl memory) = memory
    for_none kinds none (inr among) = absurd (subst (IsAmong (kind_of e)) none among)
