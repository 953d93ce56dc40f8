use Rattle.std.specs.Prelude.{◌≡◌, ◌≢◌, ℕ, Result, Ok, Err}
use Rattle.can_event.specs.declared.refusal.Refusal.{Refusal}
use Rattle.can_event.specs.declared.refusal.Refusal.TheVariants as refusal
use Rattle.can_rules.specs.declared.rules.RuleRefusal.{RuleRefusal}
use Rattle.can_rules.specs.declared.rules.RuleRefusal.TheVariants as rule
use Rattle.canbusd_c.specs.declared.local_bus.RunFault.{RunFault}
use Rattle.canbusd_c.specs.declared.local_bus.RunFault.TheVariants as run

-- The codes that calls return (own choice; canbusd.h defines their names).

-- the code of a refusal
abbrev pub refusal_code : Refusal → ℕ
refusal_code refusal.RecordFull = 1
refusal_code refusal.NoInterface = 2
refusal_code refusal.BadCapacity = 3
refusal_code refusal.TooManySockets = 4
refusal_code refusal.NoSocket = 5
refusal_code refusal.FdOff = 6
refusal_code refusal.BusOff = 7
refusal_code refusal.NoBuffers = 8
refusal_code refusal.NotBusOff = 9
refusal_code refusal.NoMemory = 10
refusal_code refusal.Down = 11

-- the code for the reason why a rule is refused
abbrev pub rule_code : RuleRefusal → ℕ
rule_code rule.UnknownInterface = 2
rule_code rule.NoMemory = 10
rule_code rule.BadRule = 18
rule_code rule.TooManyRules = 19

-- the code for the reason why a run failed
abbrev pub run_code : RunFault → ℕ
run_code run.RecordFull = 1
run_code run.BadRun = 23

-- the result of a call: it was done and its value was written, or the code is that of the refusal
abbrev pub IsTold : {A E : Type 0} → (E → ℕ) → Result A E → ℕ → A → Type 0
IsTold code_of (Ok a) code value = (code ≡ 0) × (value ≡ a)
IsTold code_of (Err why) code value = code ≡ code_of why

-- a call that is refused does not change its output value
abbrev pub IsUntouched : {A : Type 0} → ℕ → A → A → Type 0
IsUntouched code before after = code ≢ 0 → after ≡ before
