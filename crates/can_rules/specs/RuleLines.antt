use Rattle.std.specs.Prelude.{◌≡◌, ◌⊎◌, ℕ, Bool, true, false, if◌then◌else◌, List, [], ◌∷◌, ◌++◌, Option, Some, None}
use Rattle.std.specs.Prelude.{codes, decimal}
use Rattle.can_rules.specs.declared.run_faults.Later.{Later}
use Rattle.can_rules.specs.RunFaults.{RunSeen}

-- Changes to the rules of a running bus, written as the lines of a run's faults (own choice).

-- The lines that wait to be taken, the attempt before which all rules ended (if they ended after those lines), and
-- whether new lines are kept.
pub record LinesSeen : Type 0 where
  pub text : List ℕ
  pub ended : Option ℕ
  pub kept : Bool

-- No lines are waiting yet, and new lines are kept.
abbrev pub no_lines : LinesSeen
no_lines = record { text = []; ended = None; kept = true }

-- No lines are waiting, and new lines are not kept.
abbrev pub never_lines : LinesSeen
never_lines = record { text = []; ended = None; kept = false }

-- The line, without its line feed, for a rule that was given before the attempt with this number.
abbrev pub given_words : ℕ → List ℕ → List ℕ
given_words attempt words = codes "at " ++ decimal attempt ++ codes " " ++ words

-- The line, with its line feed, for a rule that was given before the attempt with this number.
abbrev pub given_line : ℕ → List ℕ → List ℕ
given_line attempt words = given_words attempt words ++ 10 ∷ []

-- The line, without its line feed, for the end of all rules before the attempt with this number.
abbrev pub nofaults_words : ℕ → List ℕ
nofaults_words attempt = codes "at " ++ decimal attempt ++ codes " nofaults"

-- The line, with its line feed, for the end of all rules before an attempt. It is empty if the rules did not end.
abbrev pub nofaults_line : Option ℕ → List ℕ
nofaults_line None = []
nofaults_line (Some attempt) = nofaults_words attempt ++ 10 ∷ []

-- The text of all waiting lines.
abbrev pub text_of_lines : LinesSeen → List ℕ
text_of_lines known = known.text ++ nofaults_line known.ended

-- The waiting lines after the line of one more rule is appended. Nothing is appended if lines are not kept.
abbrev pub with_given : ℕ → List ℕ → LinesSeen → LinesSeen
with_given attempt words known =
    if known.kept then record known { text = text_of_lines known ++ given_line attempt words; ended = None } else known

-- The attempt before which all rules ended. An earlier end counts if no rule was given after it.
abbrev pub first_end : Option ℕ → ℕ → ℕ
first_end None attempt = attempt
first_end (Some earlier) attempt = earlier

-- The waiting lines after a line for the end of all rules is appended. Nothing is appended if lines are not kept.
abbrev pub with_end : ℕ → LinesSeen → LinesSeen
with_end attempt known = if known.kept then record known { ended = Some (first_end known.ended attempt) } else known

-- The waiting lines after all of them are taken: there are none.
abbrev pub with_none_left : LinesSeen → LinesSeen
with_none_left known = record known { text = []; ended = None }

-- Texts that consist of whole lines, and how they are read.

-- The text is empty or ends in a line feed.
abbrev pub IsOfLines : List ℕ → Type 0
IsOfLines text = (text ≡ []) ⊎ ((front : List ℕ) × (text ≡ front ++ 10 ∷ []))

-- The run after one more change is appended to the pending changes.
abbrev pub with_change : Later → RunSeen → RunSeen
with_change next run = record run { later = run.later ++ next ∷ [] }
