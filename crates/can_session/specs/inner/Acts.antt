use Rattle.std.specs.Prelude.{◌≡◌, ℕ, List, ◌++◌}
use Rattle.can_dialog.specs.Sessions.{SessionState}
use Rattle.can_session.specs.BusSteps.{NamedBus}
use Rattle.can_session.specs.declared.turns.Act.{Act}
use Rattle.can_session.specs.declared.turns.Act.TheVariants.{Feed, Drain, End}
use Rattle.can_session.specs.declared.ignored_input.IgnoredInput.{IgnoredInput}
use Rattle.can_session.specs.IgnoredInput.{ignored_then}
use Rattle.can_session.specs.Benches.{BenchState, IsFed, IsDrained, IsEnded}

-- What a line makes a session do (own choice).

-- what a session does at a moment, including its output
abbrev pub done_by : Act → ℕ → SessionState → NamedBus → List ℕ → SessionState → NamedBus → Type 0
done_by (Feed bytes) moment = IsFed moment bytes.now
done_by Drain moment = IsDrained
done_by End moment = IsEnded

-- the record of ignored input after an act of session `s`
abbrev pub noted_by : Act → ℕ → IgnoredInput → IgnoredInput
noted_by (Feed bytes) s u = ignored_then u s bytes.now
noted_by _ s u = u

-- the bench after it recorded the input of an act of session `s`
abbrev pub noted : Act → ℕ → BenchState → BenchState
noted act s b = record b { ignored = noted_by act s b.ignored }

-- a session performs this step, and its output is appended to the output so far
abbrev pub Adds : (SessionState → NamedBus → List ℕ → SessionState → NamedBus → Type 0) → SessionState → NamedBus
    → List ℕ → SessionState → NamedBus → List ℕ → Type 0
Adds does old p said new q after = (text : List ℕ) × does old p text new q × (after ≡ said ++ text)

-- a bench performs this step, and its output is appended to the output so far
abbrev pub Puts : (BenchState → List ℕ → BenchState → Type 0) → BenchState → List ℕ → BenchState → List ℕ → Type 0
Puts does b said after new = (text : List ℕ) × does b text after × (new ≡ said ++ text)
