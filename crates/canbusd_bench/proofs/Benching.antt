use Rattle.std.proofs.Common.{◌≡◌, ◌≢◌, ◌↔◌, ◌⊎◌, inl, inr, ℕ, Bool, true, false, List, length, Option, Some, None, Result, Ok, Err, IfErr, IfNone, IfOk, IfSome, IsSome, MatchOption, rules, refl, sym, subst}
use Rattle.std.specs.Prelude.{IsErrAnd}
use Rattle.std.specs.Io.KnownBytes.{Appends, Keeps}
use Rattle.std.proofs.KnownBytes.{Keeps-refl}
use Rattle.can_frame.specs.Names.{AreNames, names_in}
use Rattle.can_fault.specs.Sources.{VerdictMap, no_verdicts}
use Rattle.can_rules.specs.Plans.{PlanSeen}
use Rattle.can_event.specs.declared.bus_config.BusConfig.{BusConfig}
use Rattle.can_event.specs.Events.{IsConfig}
use Rattle.can_record.specs.Journal.{Kept}
use Rattle.can_bus.specs.Legal.{IsLegal}
use Rattle.can_wire.specs.Timings.{BusTiming}
use Rattle.can_session.specs.declared.bench_run.BenchFault.{BenchFault}
use Rattle.can_session.specs.declared.bench_run.BenchFault.TheVariants.{BadConfig, BadLine, TooLong, Read, Write, NoMemory}
use Rattle.can_session.specs.Benches.{BenchState}
use Rattle.can_session.specs.Runs.{EndsOver, IsBench, Ran, at_start_with}
use Rattle.canbusd_options.specs.declared.bench_options.BenchOptions.{BenchOptions}
use Rattle.canbusd_io.specs.declared.program_error.ProgramError.{ProgramError}
use Rattle.canbusd_io.specs.declared.program_error.ProgramError.TheVariants as fault
use Rattle.canbusd_io.specs.Buses.{IsPlan, config_of}
use Rattle.canbusd_bench.specs.Benched.{FailsBy, IsBenched, IsRunAsAsked, IsStopped, MeetsRefusal, StopsBy, begun}
use Rattle.canbusd_bench.specs.Refusals.{GrowsByRefusal, GrowsQuietly}
use Rattle.canbusd_bench.specs.inner.Watched.{told}
use Rattle.canbusd_bench.proofs.Watching.{Watching, loudly, nothing, quiet_if, seen_whole, unknown_refusal, wrote}

-- A run of the bench with the configuration that the options define.

-- the result of a bench with this configuration
pub record Answered {W : Type 0} (contents : W → Option (List ℕ)) (shows : Bool) (timing : Option BusTiming) (c : BusConfig) (capacity : ℕ) (names : List (List ℕ)) (plan : PlanSeen) (input : Option (List ℕ)) (out : W) (r : Result Kept BenchFault) (new : W) : Type 0 where
  pub bad : (r ≡ Err BadConfig) ↔ (IsBench names c capacity → ⊥)
  pub untouched : r ≡ Err BadConfig → new ≡ out
  pub runs : r ≢ Err BadConfig → EndsOver contents no_verdicts input (at_start_with shows plan timing names c capacity) out r new

-- a complete run
pub ended : {W : Type 0} (contents : W → Option (List ℕ)) (c : BusConfig) (o : BenchOptions) (names : List (List ℕ)) (plan : PlanSeen) (input : Option (List ℕ)) (out new : W) (r : Kept)
    → c ≡ config_of o.settings (length names) → Answered contents o.shows_faults o.timing c o.settings.rx_capacity names plan input out (Ok r) new
    → EndsOver contents no_verdicts input (begun plan o names) out (Ok r) new
ended contents c o names plan input out new r is a = subst (λ (k : BusConfig). EndsOver contents no_verdicts input (at_start_with o.shows_faults plan o.timing names k o.settings.rx_capacity) out (Ok r) new) is (a.runs (search rules))

stops : {W : Type 0} (contents : W → Option (List ℕ)) (o : BenchOptions) (names : List (List ℕ)) (plan : PlanSeen) (input : Option (List ℕ)) (out new : W) (why : BenchFault)
    → Answered contents o.shows_faults o.timing (config_of o.settings (length names)) o.settings.rx_capacity names plan input out (Err why) new
    → StopsBy contents o names plan input out (fault.Bench why) new
stops contents o names plan input out new BadConfig a = (a.bad.0 refl, a.untouched refl)
stops contents o names plan input out new (BadLine n) a = a.runs (search rules)
stops contents o names plan input out new TooLong a = a.runs (search rules)
stops contents o names plan input out new Read a = a.runs (search rules)
stops contents o names plan input out new Write a = a.runs (search rules)
stops contents o names plan input out new NoMemory a = a.runs (search rules)

-- a run that ended with an error
pub stopped : {W : Type 0} (contents : W → Option (List ℕ)) (c : BusConfig) (o : BenchOptions) (names : List (List ℕ)) (plan : PlanSeen) (input : Option (List ℕ)) (out new : W) (why : BenchFault) (f : ProgramError)
    → c ≡ config_of o.settings (length names) → f ≡ fault.Bench why → Answered contents o.shows_faults o.timing c o.settings.rx_capacity names plan input out (Err why) new
    → StopsBy contents o names plan input out f new
stopped contents c o names plan input out new why f is told a =
    subst (λ (x : ProgramError). StopsBy contents o names plan input out x new) (sym told)
    (stops contents o names plan input out new why (subst (λ (k : BusConfig). Answered contents o.shows_faults o.timing k o.settings.rx_capacity names plan input out (Err why) new) is a))

-- a complete run, under the faults of the script in the options
pub ran : {W : Type 0} (E : Type 0) (contents : W → Option (List ℕ)) (o : BenchOptions) (names : List (List ℕ)) (plan : PlanSeen) (input : Option (List ℕ)) (out new : W) (r : Result Kept E)
    → IsPlan o.bus.script names plan → IfOk r (λ k. EndsOver contents no_verdicts input (begun plan o names) out (Ok k) new)
    → IfOk r (λ k. k.config ≡ config_of o.settings (length names)) → IfOk r (λ k. IsConfig k.config) → IfOk r (λ k. IsLegal k.config k.history)
    → IfOk r (λ k. IsRunAsAsked contents o names input out k new)
ran E contents o names plan input out new (Ok k) scripted ends config proper legal = record { plan = plan; scripted = scripted; ends = ends; config = config; proper = proper; legal = legal }
ran E contents o names plan input out new (Err why) scripted ends config proper legal = tt

-- the writer that accepted a watcher's bytes, if they are known, is the one that was flushed
pub record Taken {W : Type 0} (contents : W → Option (List ℕ)) (old behind new : W) (text : List ℕ) : Type 0 where
  pub written : W
  pub took : Appends (contents old) (contents written) text
  pub kept : Keeps (contents written) (contents new)
  pub known : (contents old ≡ None) ⊎ (written ≡ behind)

taken : {W : Type 0} (contents : W → Option (List ℕ)) (before after : Option (List ℕ)) (strict : Bool) (old behind flushed new : W) (seen : Watching contents before after strict old behind flushed new) (text : List ℕ)
    → Appends before after text → Taken contents old behind new text
taken contents before after strict old behind flushed new seen text a =
    elim (wrote seen.name seen.is strict seen.on seen.written seen.seen (contents old) (contents behind) text (seen_whole contents before after strict old behind flushed new seen text a)) [
      | inl unknown ↦ record { written = new; took = (nothing (contents old) (contents new) text unknown).0; kept = Keeps-refl (contents new); known = inl unknown }
      | inr known ↦ record {
        written = behind;
        took = known.1;
        kept = subst (λ x. Keeps (contents behind) (contents x)) (sym (seen.back known.0)) seen.kept;
        known = inr refl;
      }
    ]

-- the output of a complete run
abbrev text_in : {V : Type 0} (outer : V → Option (List ℕ)) (verdicts : VerdictMap) (input : Option (List ℕ)) (b : BenchState) (v w : V) (r : Kept)
    → EndsOver outer verdicts input b v (Ok r) w → (text : List ℕ) × Appends (outer v) (outer w) text
text_in outer verdicts input b v w r (now, (lines, after, all, over, none, out, leaves)) = (out.text, out.wrote)

-- the same run with another writer that accepts the same text
moved : {V W : Type 0} (outer : V → Option (List ℕ)) (contents : W → Option (List ℕ)) (verdicts : VerdictMap) (input : Option (List ℕ)) (b : BenchState) (v w : V) (old new : W) (r : Kept)
    (e : EndsOver outer verdicts input b v (Ok r) w) → Appends (contents old) (contents new) (text_in outer verdicts input b v w r e).0 → EndsOver contents verdicts input b old (Ok r) new
moved outer contents verdicts input b v w old new r (now, (lines, after, all, over, none, out, leaves)) a =
    (now, (lines, after, all, over, none, record { text = out.text; short = out.short; carried = out.carried; wrote = a }, leaves))

run_over : {V W : Type 0} (outer : V → Option (List ℕ)) (contents : W → Option (List ℕ)) (o : BenchOptions) (names : List (List ℕ)) (input : Option (List ℕ)) (v w : V) (old new : W) (r : Kept)
    (run : IsRunAsAsked outer o names input v r w) → Appends (contents old) (contents new) (text_in outer no_verdicts input (begun run.plan o names) v w r run.ends).0 → IsRunAsAsked contents o names input old r new
run_over outer contents o names input v w old new r run a =
    record { plan = run.plan; scripted = run.scripted; ends = moved outer contents no_verdicts input (begun run.plan o names) v w old new r run.ends a; config = run.config; proper = run.proper; legal = run.legal }

-- a property of the bytes written holds, whether the writer's bytes are known or not
unless_known : {W : Type 0} (contents : W → Option (List ℕ)) (P : Option (List ℕ) → Option (List ℕ) → Type 0) (old behind written : W)
    → (contents old ≡ None) ⊎ (written ≡ behind) → (contents old ≡ None → P (contents old) (contents written)) → P (contents old) (contents behind) → P (contents old) (contents written)
unless_known contents P old behind written (inl unknown) first second = first unknown
unless_known contents P old behind written (inr is) first second = subst (λ w. P (contents old) (contents w)) (sym is) second

-- a run in which the watcher saw no refusal
pub benched : {V W : Type 0} (outer : V → Option (List ℕ)) (contents : W → Option (List ℕ)) (o : BenchOptions) (input : Option (List ℕ)) (v w : V) (old behind flushed new : W) (r : Kept)
    → AreNames (names_in o.bus.names.now) → (seen : Watching contents (outer v) (outer w) o.is_strict old behind flushed new) → (seen.on ≡ false) ⊎ (seen.seen ≢ 9)
    → IsRunAsAsked outer o (names_in o.bus.names.now) input v r w → IsBenched contents o input old new
benched outer contents o input v w old behind flushed new r named seen none run =
    let names = names_in o.bus.names.now in
    let text = text_in outer no_verdicts input (begun run.plan o names) v w r run.ends in
    let whole = seen_whole contents (outer v) (outer w) o.is_strict old behind flushed new seen text.0 text.1 in
    let t = taken contents (outer v) (outer w) o.is_strict old behind flushed new seen text.0 text.1 in
    record {
      named = named;
      kept = r;
      written = t.written;
      run = run_over outer contents o names input v w old t.written r run t.took;
      flushed = t.kept;
      strict = λ e. unless_known contents GrowsQuietly old behind t.written t.known (λ unknown. (nothing (contents old) (contents t.written) text.0 unknown).1)
          (quiet_if seen.name seen.is o.is_strict seen.on seen.written seen.seen (contents old) (contents behind) text.0 whole none e);
    }

-- a run in which the watcher saw a refusal
pub refused : {V W : Type 0} (outer : V → Option (List ℕ)) (contents : W → Option (List ℕ)) (o : BenchOptions) (input : Option (List ℕ)) (v w : V) (old behind flushed new : W) (r : Kept)
    → AreNames (names_in o.bus.names.now) → (seen : Watching contents (outer v) (outer w) o.is_strict old behind flushed new) → (seen.on ≡ true) × (seen.seen ≡ 9)
    → IsRunAsAsked outer o (names_in o.bus.names.now) input v r w → MeetsRefusal contents o input old new
refused outer contents o input v w old behind flushed new r named seen some run =
    let names = names_in o.bus.names.now in
    let text = text_in outer no_verdicts input (begun run.plan o names) v w r run.ends in
    let whole = seen_whole contents (outer v) (outer w) o.is_strict old behind flushed new seen text.0 text.1 in
    let t = taken contents (outer v) (outer w) o.is_strict old behind flushed new seen text.0 text.1 in
    record {
      named = named;
      kept = r;
      written = t.written;
      run = run_over outer contents o names input v w old t.written r run t.took;
      flushed = t.kept;
      refused = unless_known contents (GrowsByRefusal o.is_strict) old behind t.written t.known (λ unknown. unknown_refusal o.is_strict (contents old) (contents t.written) unknown)
          (loudly seen.name seen.is o.is_strict seen.written seen.seen (contents old) (contents behind) text.0 (subst (λ b. Appends (told seen.name o.is_strict 0 0 (contents old)) (told seen.is b seen.written seen.seen (contents behind)) text.0) some.0 whole) some.1);
    }

-- a run with a watcher that ended with an error
pub record Stopped {W : Type 0} (P : W → Type 0) (contents : W → Option (List ℕ)) (new : W) : Type 0 where
  pub written : W
  pub stops : P written
  pub kept : Keeps (contents written) (contents new)

carried_over : {V W : Type 0} (outer : V → Option (List ℕ)) (contents : W → Option (List ℕ)) (verdicts : VerdictMap) (lines : List (List ℕ)) (b after : BenchState) (v w : V) (strict : Bool) (old behind flushed new : W)
    → Watching contents (outer v) (outer w) strict old behind flushed new → Ran outer verdicts lines b v after w → Stopped (Ran contents verdicts lines b old after) contents new
carried_over outer contents verdicts lines b after v w strict old behind flushed new seen ran =
    let t = taken contents (outer v) (outer w) strict old behind flushed new seen ran.text ran.wrote in
    record { written = t.written; stops = record { text = ran.text; short = ran.short; carried = ran.carried; wrote = t.took }; kept = t.kept }

stopped_over : {V W : Type 0} (outer : V → Option (List ℕ)) (contents : W → Option (List ℕ)) (verdicts : VerdictMap) (input : Option (List ℕ)) (b : BenchState) (v w : V) (strict : Bool) (old behind flushed new : W) (why : BenchFault)
    → Watching contents (outer v) (outer w) strict old behind flushed new → EndsOver outer verdicts input b v (Err why) w → Stopped (λ x. EndsOver contents verdicts input b old (Err why) x) contents new
stopped_over outer contents verdicts input b v w strict old behind flushed new (BadLine n) seen (now, (lines, after, come, ran, number)) =
    let s = carried_over outer contents verdicts lines b after v w strict old behind flushed new seen ran in
    record { written = s.written; stops = (now, (lines, after, come, s.stops, number)); kept = s.kept }
stopped_over outer contents verdicts input b v w strict old behind flushed new TooLong seen (now, (lines, after, come, ran)) =
    let s = carried_over outer contents verdicts lines b after v w strict old behind flushed new seen ran in
    record { written = s.written; stops = (now, (lines, after, come, s.stops)); kept = s.kept }
stopped_over outer contents verdicts input b v w strict old behind flushed new Read seen (now, (lines, after, come, ran)) =
    let s = carried_over outer contents verdicts lines b after v w strict old behind flushed new seen ran in
    record { written = s.written; stops = (now, (lines, after, come, s.stops)); kept = s.kept }
stopped_over outer contents verdicts input b v w strict old behind flushed new NoMemory seen (now, (lines, after, come, ran)) =
    let s = carried_over outer contents verdicts lines b after v w strict old behind flushed new seen ran in
    record { written = s.written; stops = (now, (lines, after, come, s.stops)); kept = s.kept }
stopped_over outer contents verdicts input b v w strict old behind flushed new Write seen (now, end) = record { written = new; stops = (now, tt); kept = Keeps-refl (contents new) }
stopped_over outer contents verdicts input b v w strict old behind flushed new BadConfig seen (now, end) = absurd end

-- a watcher that wrote nothing leaves its writer unchanged
untouched : {W : Type 0} (contents : W → Option (List ℕ)) (before after : Option (List ℕ)) (strict : Bool) (old behind flushed new : W) (seen : Watching contents before after strict old behind flushed new)
    → (seen.is ≡ seen.name) × (behind ≡ old) → Keeps (contents old) (contents new)
untouched contents before after strict old behind flushed new seen (is, same) =
    subst (λ x. Keeps (contents old) (contents x)) (sym (seen.back is)) (subst (λ x. Keeps (contents x) (contents flushed)) same seen.kept)

fails_so : {V W : Type 0} (outer : V → Option (List ℕ)) (contents : W → Option (List ℕ)) (o : BenchOptions) (names : List (List ℕ)) (plan : PlanSeen) (input : Option (List ℕ)) (v w : V) (old behind flushed new : W) (why : ProgramError)
    → (seen : Watching contents (outer v) (outer w) o.is_strict old behind flushed new) → (w ≡ v → (seen.is ≡ seen.name) × (behind ≡ old))
    → StopsBy outer o names plan input v why w → Stopped (λ x. StopsBy contents o names plan input old why x) contents new
fails_so outer contents o names plan input v w old behind flushed new (fault.Bench BadConfig) seen same (bad, is) =
    record { written = old; stops = (bad, refl); kept = untouched contents (outer v) (outer w) o.is_strict old behind flushed new seen (same is) }
fails_so outer contents o names plan input v w old behind flushed new (fault.Bench (BadLine n)) seen same ends = stopped_over outer contents no_verdicts input (begun plan o names) v w o.is_strict old behind flushed new (BadLine n) seen ends
fails_so outer contents o names plan input v w old behind flushed new (fault.Bench TooLong) seen same ends = stopped_over outer contents no_verdicts input (begun plan o names) v w o.is_strict old behind flushed new TooLong seen ends
fails_so outer contents o names plan input v w old behind flushed new (fault.Bench Read) seen same ends = stopped_over outer contents no_verdicts input (begun plan o names) v w o.is_strict old behind flushed new Read seen ends
fails_so outer contents o names plan input v w old behind flushed new (fault.Bench NoMemory) seen same ends = stopped_over outer contents no_verdicts input (begun plan o names) v w o.is_strict old behind flushed new NoMemory seen ends
fails_so outer contents o names plan input v w old behind flushed new (fault.Bench Write) seen same ends = stopped_over outer contents no_verdicts input (begun plan o names) v w o.is_strict old behind flushed new Write seen ends
fails_so outer contents o names plan input v w old behind flushed new _ seen same stops = absurd stops

-- a run with a watcher whose writer failed
pub failed : {V W : Type 0} (outer : V → Option (List ℕ)) (contents : W → Option (List ℕ)) (o : BenchOptions) (input : Option (List ℕ)) (v w : V) (old behind flushed new : W) (why : ProgramError)
    → AreNames (names_in o.bus.names.now) → (seen : Watching contents (outer v) (outer w) o.is_strict old behind flushed new) → (w ≡ v → (seen.is ≡ seen.name) × (behind ≡ old))
    → FailsBy outer o (names_in o.bus.names.now) input v why w → IsStopped contents o input old why new
failed outer contents o input v w old behind flushed new why named seen same (inl (source, is)) =
    inr (inr (named, old, inl (source, refl), untouched contents (outer v) (outer w) o.is_strict old behind flushed new seen (same is)))
failed outer contents o input v w old behind flushed new why named seen same (inr (plan, scripted, stops)) =
    let s = fails_so outer contents o (names_in o.bus.names.now) plan input v w old behind flushed new why seen same stops in
    inr (inr (named, s.written, inr (plan, scripted, s.stops), s.kept))

-- a complete run, whether the watcher saw a refusal or not
pub by_refusal : {A : Type 0} (r : Option A) (N P S R : Type 0) (Q : A → Type 0) → IfNone r N → IfSome r Q → (IsSome r → S) → (N → P) → (S → R) → MatchOption r P (λ a. Q a × R)
by_refusal None N P S R Q none some seen f g = f none
by_refusal (Some a) N P S R Q none some seen f g = (some, g (seen (search rules)))

-- the run is complete, whether a refusal was seen or not
pub has_ended : {A : Type 0} (r : Option A) (P R : Type 0) (Q : A → Type 0) → MatchOption r P (λ a. Q a × R) → P ⊎ R
has_ended None P R Q has = inl has
has_ended (Some a) P R Q has = inr has.1

pub if_err : {A E : Type 0} (r : Result A E) (P Q : E → Type 0) → IfErr r P → ((e : E) → P e → Q e) → IfErr r Q
if_err (Ok a) P Q p f = tt
if_err (Err e) P Q p f = f e p

-- a property of an error holds for the error that is passed on to the caller
pub passed_on : {T F : Type 0} (P : F → Type 0) (e : F) (r : Result T F) → IsErrAnd r (λ x. x ≡ e) → P e → IfErr r P
passed_on P e (Ok t) same holds = tt
passed_on P e (Err x) same holds = subst P (sym same) holds
