use Rattle.std.proofs.Common.{◌≡◌, ℕ, ◌+◌, ◌-◌, Bool, true, false, List, [], ◌∷◌, length, take, drop, Option, Some, None, if◌then◌else◌, ap, sym, ◌∙◌, arith}
use Rattle.std.specs.Prelude.{nat_le}
use Rattle.std.proofs.lemmas.List.{drop-drop, length-drop, take_all}
use Rattle.can_rules.specs.declared.run_faults.Later.{Later}
use Rattle.can_rules.specs.Plans.{PlanSeen}
use Rattle.can_rules.specs.RunFaults.{RunSeen, after_change, after_next, due_of}

-- Facts about the changes of a run that are made one at a time.

-- The run after its next change, which is due.
first-made : (attempt : ℕ) (run : RunSeen) (later : List Later) (next : Later) → due_of attempt later ≡ Some next
    → after_next attempt run later ≡ record run { plan = after_change next.change run.plan; later = drop 1 later }
first-made attempt run [] next due = absurd (cc due)
first-made attempt run (first ∷ later) next due = by_time (nat_le first.attempt attempt) due
  where
    by_time : (b : Bool) → (if b then Some first else None) ≡ Some next
        → (if b then record run { plan = after_change first.change run.plan; later = later } else run) ≡ record run { plan = after_change next.change run.plan; later = later }
    by_time true is = let same : first ≡ next = cc in ap (λ (n : Later). record run { plan = after_change n.change run.plan; later = later }) same
    by_time false is = absurd (cc is)

-- The rest of a slice after its first `made` items.
rest-of : (items all : List Later) (made : ℕ) → all ≡ items → take (length all - made) (drop made all) ≡ drop made items
rest-of items all made is = take_all (length all - made) (drop made all) (omega (arith, length-drop made all)) ∙ ap (drop made) is

pub next-made : (attempt : ℕ) (run : RunSeen) (items all : List Later) (made : ℕ) (next : Later) (plan : PlanSeen) → all ≡ items → due_of attempt (take (length all - made) (drop made all)) ≡ Some next → plan ≡ after_change next.change run.plan
    → record run { plan = plan; later = drop (made + 1) items } ≡ after_next attempt run (drop made items)
next-made attempt run items all made next plan is due after =
    ap (λ (p : PlanSeen). record run { plan = p; later = drop (made + 1) items }) after
    ∙ ap (λ (later : List Later). record run { plan = after_change next.change run.plan; later = later }) (sym (drop-drop 1 made items))
    ∙ sym (first-made attempt run (drop made items) next (sym (ap (due_of attempt) (rest-of items all made is)) ∙ due))
