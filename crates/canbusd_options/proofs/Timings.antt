use Rattle.std.proofs.Common.{◌≡◌, ℕ, ◌+◌, ◌<◌, List, [], ◌∷◌, ◌++◌, Option, Some, codes, get_or, length, map, take, ap, sym, subst, ◌∙◌}
use Rattle.std.specs.Prelude.{All}
use Rattle.std.specs.List.{AllZip}
use Rattle.std.proofs.lemmas.List.{map-append, take_more}
use Rattle.std.proofs.lemmas.List.Elements.{All-cons, All-nil}
use Rattle.std.proofs.lemmas.Slice.Zip.{all_zipped_more}
use Rattle.can_wire.specs.Timings.{BusTiming}
use Rattle.clap.specs.Words.{Row}
use Rattle.canbusd_options.specs.BusWords.{names_part}
use Rattle.canbusd_options.specs.Options.{AreNumbers, AreNumbersOf, AreRateWords, GiveRatesOf, GiveTimings, HasRates, HasRatesFor, IsBusTimed, words_given}
use Rattle.canbusd_options.specs.declared.bit_rates.GivenRates.{GivenRates}

-- The bit rates of buses, one after the other.

-- one more bus
pub zip_more : {A B C : Type 0} (R : B → C → Type 0) (f : A → B) (xs : List A) (ys : List C) (i : ℕ) (d : A) (y : C) → i < length xs → AllZip R (map f (take i xs)) ys → R (f (get_or xs i d)) y → AllZip R (map f (take (i + 1) xs)) (ys ++ y ∷ [])
zip_more R f xs ys i d y below zip here =
    subst (λ l. AllZip R l (ys ++ y ∷ [])) (sym (map-append f (take i xs) (get_or xs i d ∷ [])) ∙ ap (map f) (sym (take_more xs i d below)))
    (all_zipped_more R (map f (take i xs)) ys (f (get_or xs i d)) y zip here)

-- each has some
each : {A B : Type 0} (R : A → B → Type 0) (xs : List A) (ys : List B) → AllZip R xs ys → All (λ x. (y : B) × R x y) xs
each R [] [] zip = All-nil _
each {A} {B} R (x ∷ xs) (y ∷ ys) zip = All-cons (λ z. (w : B) × R z w) x xs (y, zip.0) (each R xs ys zip.1)
each R [] (y ∷ ys) zip = absurd zip
each R (x ∷ xs) [] zip = absurd zip

abbrev are_timed : List (List ℕ) → List (Option BusTiming) → (bitrates dbitrates : List (List ℕ)) → Type 0
are_timed buses timings bitrates dbitrates = AllZip (λ bus timing. HasRates bitrates dbitrates (Some (names_part bus)) timing) buses timings

-- the bit rates that the options give are those that the rows give, because both have the same words
pub timed_all : (rows : List Row) (rates : GivenRates) (buses : List (List ℕ)) (timings : List (Option BusTiming)) → AreRateWords rows rates → AllZip (HasRatesFor rates) buses timings
    → AllZip (λ bus timing. IsBusTimed rows (Some (names_part bus)) timing) buses timings
timed_all rows rates buses timings words zip =
    subst (λ bs. are_timed buses timings bs (words_given rows (codes "dbitrate"))) words.bitrates
    (subst (λ ds. are_timed buses timings (map (λ word. word.now) rates.bitrate.words.now) ds) words.dbitrates zip)

-- rows that give a list of buses bit rates, or none, give them to each bus
pub give_each : (rows : List Row) (rates : GivenRates) (buses : List (List ℕ)) → AreRateWords rows rates → GiveTimings rows buses → All (λ bus. GiveRatesOf rates (Some (names_part bus))) buses
give_each rows rates buses words (timings, timed) =
    each (HasRatesFor rates) buses timings
    (subst (λ bs. are_timed buses timings bs (map (λ word. word.now) rates.dbitrate.words.now)) (sym words.bitrates)
    (subst (λ ds. are_timed buses timings (words_given rows (codes "bitrate")) ds) (sym words.dbitrates) timed.each))

-- the numbers of the options are the numbers of the rows
pub numbers_in : (rows : List Row) (rates : GivenRates) → AreRateWords rows rates → AreNumbersOf rates → AreNumbers (words_given rows (codes "bitrate")) (words_given rows (codes "dbitrate"))
numbers_in rows rates words are =
    subst (λ bs. AreNumbers bs (words_given rows (codes "dbitrate"))) words.bitrates
    (subst (λ ds. AreNumbers (map (λ word. word.now) rates.bitrate.words.now) ds) words.dbitrates are)
