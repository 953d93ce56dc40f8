-- Either a bench is created from its parts, or the returned code gives the reason.
use Rattle.std.proofs.Common.{◌≡◌, ◌⊎◌, inl, inr, ℕ, Bool, List, length, Option, Ok, ap, subst, sym, ◌∙◌}
use Rattle.can_frame.specs.Names.{names_in, AreNames}
use Rattle.can_rules.specs.Plans.{PlanSeen, ReadsPlan}
use Rattle.can_event.specs.declared.bus_config.BusConfig.{BusConfig}
use Rattle.can_wire.specs.Timings.{BusTiming}
use Rattle.can_session.specs.declared.bench_run.BenchFault.{BenchFault}
use Rattle.can_session.specs.declared.bench_run.BenchFault.TheVariants as fault
use Rattle.can_session.specs.Runs.{IsBench}
use Rattle.canbusd_c.specs.Benching.{KeptBench, IsBenchOf, IsNoBench, fault_code, fault_line, kept_at_start}
use Rattle.canbusd_c.specs.Making.{HasRates, IsConfigIn, timing_of_numbers}
use Rattle.canbusd_c.specs.declared.shapes.CConfig.{CConfig}

pub bench_of : (text : List ℕ) (c : CConfig) (capacity : ℕ) (shows : Bool) (faults : List ℕ) (names : List (List ℕ)) (timing : Option BusTiming) (n : ℕ) (config : BusConfig) (plan : PlanSeen) (b : KeptBench)
    → names ≡ names_in text → AreNames (names_in text) → timing ≡ timing_of_numbers c.bitrate c.data_bitrate → HasRates c → n ≡ length names → IsConfigIn n c config → ReadsPlan names faults (Ok plan) → IsBench names config capacity
    → b ≡ kept_at_start shows plan timing names config capacity → IsBenchOf text c capacity shows faults b
bench_of text c capacity shows faults names timing n config plan b named good timed rates counted read planned fits made = record {
  config = config;
  plan = plan;
  config_is = subst (λ (k : ℕ). IsConfigIn k c config) (counted ∙ ap (λ (x : List (List ℕ)). length x) named) read;
  plan_is = subst (λ (x : List (List ℕ)). ReadsPlan x faults (Ok plan)) named planned;
  fits = subst (λ (x : List (List ℕ)). IsBench x config capacity) named fits;
  named = good;
  rates = rates;
  made = made ∙ ap (λ (x : List (List ℕ)). kept_at_start shows plan timing x config capacity) named ∙ ap (λ (t : Option BusTiming). kept_at_start shows plan t (names_in text) config capacity) timed;
}

pub no_bench : (text : List ℕ) (c : CConfig) (capacity : ℕ) (faults : List ℕ) (names : List (List ℕ)) (n : ℕ) (config : BusConfig) (why : BenchFault) (before kept code line : ℕ)
    → names ≡ names_in text → n ≡ length names → IsConfigIn n c config → kept ≡ before → (why ≡ fault.BadConfig) ⊎ (why ≡ fault.NoMemory) → (why ≡ fault.BadConfig → IsBench names config capacity → ⊥)
    → code ≡ fault_code why → line ≡ fault_line kept why → IsNoBench text c capacity faults before code line
no_bench text c capacity faults names n config why before kept code line named counted read same (inl bad) misfits is at =
    inr (inr (inl (
      is ∙ ap fault_code bad,
      at ∙ ap (λ (f : BenchFault). fault_line kept f) bad ∙ same,
      config,
      subst (λ (k : ℕ). IsConfigIn k c config) (counted ∙ ap (λ (x : List (List ℕ)). length x) named) read,
      λ fits. misfits bad (subst (λ (x : List (List ℕ)). IsBench x config capacity) (sym named) fits),
    )))
no_bench text c capacity faults names n config why before kept code line named counted read same (inr none) misfits is at =
    inr (inr (inr (is ∙ ap fault_code none, at ∙ ap (λ (f : BenchFault). fault_line kept f) none ∙ same)))
