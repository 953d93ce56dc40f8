use Rattle.std.proofs.Common.{◌≡◌, ◌+◌, ◌<◌, ℕ, suc, take, get_or, slice_get, List, [], ◌∷◌, ◌++◌, length, All, Vec, Bool, false, IsTrue, Option, IsSomeAnd, OnOk, Result, Ok, Err, IfErr, IsErrAnd, inl, refl, ap, ◌∙◌, sym, subst, arith, below_more}
use Rattle.std.proofs.Math.ListN.{get_or-append}
use Rattle.std.proofs.Math.Seq.{get_or-append_seam}
use Rattle.std.proofs.lemmas.List.{length-append, length-take-le, take_more}
use Rattle.std.proofs.lemmas.List.Elements.{All-cons}
use Rattle.std.proofs.lemmas.Option.{slice_get-get_or}
use Rattle.can_frame.specs.Names.{AreNames, names_in}
use Rattle.can_station.specs.declared.gate.Open.{Open}
use Rattle.can_record.specs.Journal.{Journal}
use Rattle.can_station.specs.declared.pass.Settled.{Settled}
use Rattle.can_station.specs.Passes.{PassSeen}
use Rattle.can_hub.specs.declared.bench.Bench.{Bench}
use Rattle.can_hub.specs.Benches.{buses_from}
use Rattle.can_hub.specs.Buses.{BusSeen}
use Rattle.can_hub.specs.Settling.{AllConfigured, AllSettleIn}
use Rattle.std.specs.List.{AllZip}
use Rattle.canbusd_io.specs.Buses.{config_of}
use Rattle.canbusd_io.specs.Files.{Took}
use Rattle.canbusd_io.specs.declared.report.Report.{Report}
use Rattle.canbusd_io.specs.declared.program_error.ProgramError.{ProgramError}
use Rattle.canbusd_options.specs.declared.bus_word.BusWord.{BusWord}
use Rattle.can_fault.specs.declared.fault_source.Perfect.{Perfect}
use Rattle.canbusd_options.specs.declared.serve_options.ServeOptions.{ServeOptions}
use Rattle.canbusd_options.specs.Options.{timing_at}
use Rattle.canbusd_serve.specs.Served.{AreAllBenches, AreBenches, AreConfigured, AreEnds, AreBusesTimed, IsBenchOf, IsDescribedHub, IsLegalEnd, IsOfBus, IsOfBuses, IsOfServer, IsServed, MakeBenches, Serves, end_lines, journals}

-- The buses of a server, one after another.

-- one more bus
benches-push : (o : ServeOptions) (buses : List BusWord) (bs : List (Bench Perfect Open)) (bus : BusWord) (b : Bench Perfect Open) → AreBenches o buses bs → IsBenchOf o bus b → AreBenches o (buses ++ bus ∷ []) (bs ++ b ∷ [])
benches-push o [] [] bus b are is = (is, tt)
benches-push o (x ∷ xs) (y ∷ ys) bus b are is = (are.0, benches-push o xs ys bus b are.1 is)
benches-push o [] (y ∷ ys) bus b are is = absurd are
benches-push o (x ∷ xs) [] bus b are is = absurd are

-- the bus of the next BUS argument is added
pub benches-more : (o : ServeOptions) (buses : List BusWord) (bs : List (Bench Perfect Open)) (i : ℕ) (bus : BusWord) (b : Bench Perfect Open) → i < length buses → bus ≡ get_or buses i bus → AreBenches o (take i buses) bs → IsBenchOf o bus b → AreBenches o (take (i + 1) buses) (bs ++ b ∷ [])
benches-more o buses bs i bus b below here are is =
    subst (λ l. AreBenches o l (bs ++ b ∷ [])) (ap (λ z. take i buses ++ z ∷ []) here ∙ sym (take_more buses i bus below)) (benches-push o (take i buses) bs bus b are is)

-- the bus of the next BUS argument is invalid
of-next : (o : ServeOptions) (buses : List BusWord) (bs : List (Bench Perfect Open)) (i : ℕ) (d : BusWord) (why : ProgramError) → buses ≡ o.buses.items → i < length buses → AreBenches o (take i buses) bs → IsOfBus (get_or buses i d) why → IsOfBuses o why
of-next o buses bs i d why same below are is =
    subst (λ (l : List BusWord). (k : ℕ) × MakeBenches o (take k l) × IsSomeAnd (slice_get l k) (λ bus. IsOfBus bus why)) same
    (i, (bs, are), subst (λ (b : Option BusWord). IsSomeAnd b (λ bus. IsOfBus bus why)) (sym (slice_get-get_or buses i d below)) is)

-- the error for the next bus is passed on to the caller
pub next-fails : {T : Type 0} (o : ServeOptions) (buses : List BusWord) (bs : List (Bench Perfect Open)) (i : ℕ) (d : BusWord) (failure : Report) (r : Result T Report) → buses ≡ o.buses.items → i < length buses → AreBenches o (take i buses) bs
    → IsOfBus (get_or buses i d) failure.error → IsErrAnd r (λ x. x ≡ failure) → IfErr r (λ x. IsOfServer o x.error)
next-fails o buses bs i d failure (Ok t) same below are is passed = tt
next-fails o buses bs i d failure (Err x) same below are is passed =
    inl (of-next o buses bs i d x.error same below are (subst (λ (f : Report). IsOfBus (get_or buses i d) f.error) (sym passed) is))

-- there is one bus for each BUS argument
pub benches-length : (o : ServeOptions) (buses : List BusWord) (bs : List (Bench Perfect Open)) → AreBenches o buses bs → length bs ≡ length buses
benches-length o [] [] are = refl
benches-length o (x ∷ xs) (y ∷ ys) are = ap suc (benches-length o xs ys are.1)
benches-length o [] (y ∷ ys) are = absurd are
benches-length o (x ∷ xs) [] are = absurd are

-- if one more bus with its bit rates is added, all buses have their bit rates
timed-push : (o : ServeOptions) (bs : List (Bench Perfect Open)) (b : Bench Perfect Open) → AreBusesTimed o bs → b.timing ≡ timing_at o.timings.items (length bs) → AreBusesTimed o (bs ++ b ∷ [])
timed-push o bs b are here k d low =
    let longer : length (bs ++ b ∷ []) ≡ length bs + 1 = length-append bs (b ∷ []) in
    below_more (λ n. (e : Bench Perfect Open) → (get_or (bs ++ b ∷ []) n e).timing ≡ timing_at o.timings.items n) (length bs)
    (λ n below e. ap (λ (x : Bench Perfect Open). x.timing) (get_or-append bs (b ∷ []) e n below) ∙ are n e below)
    (λ e. ap (λ (x : Bench Perfect Open). x.timing) (get_or-append_seam bs b [] e) ∙ here)
    k (omega (arith, low, longer)) d

-- the bus of the next BUS argument has its bit rates
pub timed-more : (o : ServeOptions) (buses : List BusWord) (bs : List (Bench Perfect Open)) (i : ℕ) (b : Bench Perfect Open) → i < length buses → AreBenches o (take i buses) bs → AreBusesTimed o bs → b.timing ≡ timing_at o.timings.items i → AreBusesTimed o (bs ++ b ∷ [])
timed-more o buses bs i b below are timed here =
    let place : length bs ≡ i = benches-length o (take i buses) bs are ∙ length-take-le i buses (omega arith) in
    timed-push o bs b timed (subst (λ n. b.timing ≡ timing_at o.timings.items n) (sym place) here)

-- the names of all buses are valid
pub benches-named : (o : ServeOptions) (buses : List BusWord) (bs : List (Bench Perfect Open)) → AreBenches o buses bs → All (λ bus. AreNames (names_in bus.names.now)) buses
benches-named o [] [] are = λ k d low. absurd (omega arith)
benches-named o (x ∷ xs) (y ∷ ys) are = All-cons (λ bus. AreNames (names_in bus.names.now)) x xs (subst AreNames are.0.names are.0.good) (benches-named o xs ys are.1)
benches-named o [] (y ∷ ys) are = absurd are
benches-named o (x ∷ xs) [] are = absurd are

-- a hub has one bus for each bench
pub buses-length : {F G : Type 0} (n : ℕ) (bs : List (Bench F G)) → length (buses_from n bs) ≡ length bs
buses-length n [] = refl
buses-length n (b ∷ more) = ap suc (buses-length (suc n) more)

-- a hub of the buses that the options describe has one bus for each BUS argument
pub described_length : (o : ServeOptions) (hub : List BusSeen) → IsDescribedHub o hub → length hub ≡ length o.buses.items
described_length o hub (benches, described, made) = ap length made ∙ buses-length 0 benches ∙ benches-length o o.buses.items benches described.0

-- one bus is settled for each list of passes
settles-length : {A L : Type 0} (left : L → Journal) (passes : List (Vec PassSeen A)) (ends : List (Settled L)) → AllSettleIn left passes ends → length (journals left ends) ≡ length passes
settles-length left [] [] all = refl
settles-length left (p ∷ ps) (s ∷ ss) all = ap suc (settles-length left ps ss all.1)
settles-length left [] (s ∷ ss) all = absurd all
settles-length left (p ∷ ps) [] all = absurd all

-- if buses are settled, their histories are legal
settles-legal : {A L : Type 0} (left : L → Journal) (passes : List (Vec PassSeen A)) (ends : List (Settled L)) → AllSettleIn left passes ends → All (λ j. IsLegalEnd j) (journals left ends)
settles-legal left [] [] all = λ k d low. absurd (omega arith)
settles-legal left (p ∷ ps) (s ∷ ss) all = All-cons (λ j. IsLegalEnd j) (left s.history) (journals left ss) all.0.legal (settles-legal left ps ss all.1)
settles-legal left [] (s ∷ ss) all = absurd all
settles-legal left (p ∷ ps) [] all = absurd all

-- settled buses have the configurations of their benches
settles-configured : {F G L : Type 0} (left : L → Journal) (n : ℕ) (benches : List (Bench F G)) (ends : List (Settled L)) → AllConfigured left (buses_from n benches) ends → AllZip (λ b j. j.config ≡ b.config) benches (journals left ends)
settles-configured left n [] [] all = tt
settles-configured left n (b ∷ bs) (s ∷ ss) all = (all.0, settles-configured left (suc n) bs ss all.1)
settles-configured left n [] (s ∷ ss) all = absurd all
settles-configured left n (b ∷ bs) [] all = absurd all

-- the histories of the settled buses are the final histories of the buses of a hub
pub settles-ends : {A L : Type 0} (left : L → Journal) (benches : List (Bench Perfect Open)) (hub : List BusSeen) (passes : List (Vec PassSeen A)) (ends : List (Settled L)) → hub ≡ buses_from 0 benches → length passes ≡ length hub → AllSettleIn left passes ends → AllConfigured left hub ends → AreEnds benches (journals left ends)
settles-ends left benches hub passes ends made each settled configured = record {
  each = settles-length left passes ends settled ∙ each ∙ ap length made ∙ buses-length 0 benches;
  legal = settles-legal left passes ends settled;
  configured = settles-configured left 0 benches ends (subst (λ (buses : List BusSeen). AllConfigured left buses ends) made configured);
}

-- the lines that were written, if no error was reported
pub put-lines : {W L T E : Type 0} (contents : W → Option (List ℕ)) (left : L → Journal) (old new : W) (r : Result T E) (a b : Bool) (lent buses : List BusWord) (own ends : List (Settled L)) → IfErr r (λ _. IsTrue a) → (IsTrue a → IsTrue b) → b ≡ false
    → lent ≡ buses → own ≡ ends → OnOk r (Took contents old new (end_lines lent (journals left own))) → Took contents old new (end_lines buses (journals left ends))
put-lines {L = L} contents left old new (Ok t) a b lent buses own ends told kept quiet same_buses same_ends put =
    subst (λ (s : List (Settled L)). Took contents old new (end_lines buses (journals left s))) same_ends (subst (λ (w : List BusWord). Took contents old new (end_lines w (journals left own))) same_buses put)
put-lines contents left old new (Err e) a b lent buses own ends told kept quiet same_buses same_ends put = let yes : IsTrue b = kept told in cc

-- the final histories have the configurations that the BUS arguments and the options define
served-configured : (o : ServeOptions) (buses : List BusWord) (benches : List (Bench Perfect Open)) (ends : List Journal) → AreBenches o buses benches → AllZip (λ b j. j.config ≡ b.config) benches ends → AreConfigured o buses ends
served-configured o [] [] [] are all = tt
served-configured o (x ∷ xs) (b ∷ bs) (j ∷ js) are all =
    (all.0 ∙ are.0.config ∙ ap (λ (ns : List (List ℕ)). config_of o.settings (length ns)) are.0.names, served-configured o xs bs js are.1 all.1)
served-configured o [] (b ∷ bs) ends are all = absurd are
served-configured o (x ∷ xs) [] ends are all = absurd are
served-configured o [] [] (j ∷ js) are all = absurd all
served-configured o (x ∷ xs) (b ∷ bs) [] are all = absurd all

-- a server with the buses that its options describe
pub serves-all : {W : Type 0} (contents : W → Option (List ℕ)) (o : ServeOptions) (benches : List (Bench Perfect Open)) (old new : W) → AreAllBenches o benches → Serves contents o benches old new → IsServed contents o old new
serves-all contents o benches old new are serves = record {
  named = benches-named o o.buses.items benches are;
  ends = serves.ends;
  each = serves.are.each ∙ benches-length o o.buses.items benches are;
  configured = served-configured o o.buses.items benches serves.ends are serves.are.configured;
  legal = serves.are.legal;
  heard = serves.heard;
  address = serves.address;
  wrote = serves.wrote;
}
