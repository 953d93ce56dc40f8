use Rattle.std.specs.Prelude.{ℕ, ◌+◌, ◌==◌, Bool, true, false, if◌then◌else◌, List, [], ◌∷◌, ◌++◌}
use Rattle.std.specs.Prelude.{slice_get, slice_range, codes, Option, Some, None, Result, Ok, Err}
use Rattle.std.specs.Fmt.{decimal}
use Rattle.std.specs.List.{join_with_byte}
use Rattle.can_frame.specs.Sets.{is_in}
use Rattle.can_frame.specs.Moments.{moment_text}
use Rattle.can_frame.specs.declared.iface.IfaceSet.{IfaceSet}
use Rattle.can_attempt.specs.Words.{class_word}
use Rattle.can_fault.specs.Grammar.{kind_word}
use Rattle.can_fault.specs.declared.verdict.GlobalKind.TheVariants as global
use Rattle.can_fault.specs.declared.verdict.Verdict.{Verdict}
use Rattle.can_fault.specs.declared.verdict.Verdict.TheVariants.{Good, Global, Local, LastBit}
use Rattle.can_rules.specs.declared.rule.Decision.{Decision}
use Rattle.can_event.specs.declared.attempt.Attempt.{Attempt}
use Rattle.can_event.specs.declared.attempt.Attempt.TheVariants as attempt
use Rattle.can_event.specs.declared.refusal.Refusal.{Refusal}
use Rattle.can_event.specs.declared.attempt.Tried.{Tried}

-- The lines that the bench prints for attempts (own choice).

-- the names of the interfaces in a set, in ascending order of interface number; the first name in the list is for
-- interface `i`
abbrev pub names_from : ℕ → List (List ℕ) → IfaceSet → List (List ℕ)
names_from i [] set = []
names_from i (name ∷ names) set =
    if is_in i set then name ∷ names_from (i + 1) names set else names_from (i + 1) names set

-- the names, each with a comma before it
abbrev pub after_commas : List (List ℕ) → List ℕ
after_commas [] = []
after_commas (name ∷ names) = 44 ∷ name ++ after_commas names

-- one more name in a list, with a comma before it unless it is the first name
abbrev pub member_text : Bool → List ℕ → List ℕ
member_text true name = name
member_text false name = 44 ∷ name

-- the names with indices from `first` to below `end`, joined by commas, with a comma before them unless they begin the
-- list
abbrev pub run_text : Bool → List (List ℕ) → ℕ → ℕ → List ℕ
run_text is_first names first end = member_text is_first (join_with_byte 44 (slice_range names first end))

-- the names joined by commas, or a dash if there are no names
abbrev pub joined_by_commas : List (List ℕ) → List ℕ
joined_by_commas [] = codes "-"
joined_by_commas (name ∷ names) = name ++ after_commas names

-- the string for a set of interfaces: their names, or a dash if the set is empty
abbrev pub set_text : List (List ℕ) → IfaceSet → List ℕ
set_text names set = joined_by_commas (names_from 0 names set)

-- the string for an interface: its name, or `?` if it has no name
abbrev pub name_text : Option (List ℕ) → List ℕ
name_text None = codes "?"
name_text (Some name) = name

-- the interface whose frame was tried, and the number of the frame on that interface
abbrev pub whose_text : List (List ℕ) → Tried → List ℕ
whose_text names t = codes "tried " ++ name_text (slice_get names t.winner) ++ codes " " ++ decimal t.number

-- the outcome of the attempt, the interfaces that accepted the frame, and the interfaces that went bus off
abbrev pub ending_text : List (List ℕ) → Tried → List ℕ
ending_text names t =
    codes " " ++ class_word t.class ++ codes " " ++ set_text names t.accepted ++ codes " " ++ set_text names t.off

-- the interfaces that were restarted, if any
abbrev pub restarted_text : List (List ℕ) → IfaceSet → List ℕ
restarted_text names set = if set.0 == 0 then [] else codes " restarted " ++ set_text names set

-- the moment of the attempt, if the line shows it
abbrev pub when_text : Option ℕ → List ℕ
when_text None = []
when_text (Some moment) = codes " at " ++ moment_text moment

-- the interfaces that were restarted, and the moment of the attempt
abbrev pub after_text : List (List ℕ) → Option ℕ → IfaceSet → List ℕ
after_text names when restarted = restarted_text names restarted ++ when_text when

-- a verdict in the words of a script; the interfaces with a local fault are named in ascending order of interface
-- number
abbrev pub verdict_text : List (List ℕ) → Verdict → List ℕ
verdict_text names Good = codes "good"
verdict_text names (Global global.Bit) = codes "global bit"
verdict_text names (Global global.Form) = codes "global form"
verdict_text names (Local set kind) = codes "local " ++ kind_word kind ++ codes " " ++ set_text names set
verdict_text names LastBit = codes "lastbit"

-- the fault of an attempt, if there is one
abbrev pub fault_text : List (List ℕ) → Verdict → List ℕ
fault_text names Good = []
fault_text names fault = codes "; fault " ++ verdict_text names fault

-- the number of the rule that decided the verdict, if a rule decided it; a rule may also decide that a verdict is good
abbrev pub rule_text : Option ℕ → List ℕ
rule_text None = []
rule_text (Some number) = codes "; rule " ++ decimal number

-- the fault of an attempt and the rule that decided its verdict, if the line shows them
abbrev pub decision_text : List (List ℕ) → Option Decision → List ℕ
decision_text names None = []
decision_text names (Some decision) = fault_text names decision.verdict ++ rule_text decision.rule

-- the end of an attempt's line: the restarted interfaces, the moment, the fault and the rule
abbrev pub end_text : List (List ℕ) → Option ℕ → Option Decision → IfaceSet → List ℕ
end_text names when decision restarted =
    after_text names when restarted ++ decision_text names decision ++ codes "\n"

-- the line of an attempt that tried a frame
abbrev pub tried_line : List (List ℕ) → Option ℕ → Option Decision → Tried → List ℕ
tried_line names when decision t = whose_text names t ++ ending_text names t ++ end_text names when decision t.restarted

-- the line of an attempt that tried no frame
abbrev pub idle_line : List (List ℕ) → Option ℕ → IfaceSet → List ℕ
idle_line names when restarted = codes "idle" ++ end_text names when None restarted

-- the line of an attempt, with its moment, fault and rule if they are to be shown. A full record is the only refusal,
-- and the line for it has none of these.
abbrev pub bench_attempt_line : List (List ℕ) → Option ℕ → Option Decision → Result Attempt Refusal → List ℕ
bench_attempt_line names when decision (Ok (attempt.Tried t)) = tried_line names when decision t
bench_attempt_line names when decision (Ok (attempt.Idle restarted)) = idle_line names when restarted
bench_attempt_line names when decision (Err why) = codes "record full\n"
