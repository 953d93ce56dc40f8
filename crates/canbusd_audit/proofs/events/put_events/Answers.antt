use Rattle.std.proofs.Common.{◌≡◌, ◌≢◌, ◌==◌, ◌++◌, ◌∙◌, [], ℕ, List, Option, Some, None, Bool, true, false, ap, append-nil, eqb-true, length, refl, subst, sym}
use Rattle.std.specs.Io.KnownBytes.{Appends}
use Rattle.std.proofs.KnownBytes.{Appends-nil}
use Rattle.std.proofs.lemmas.List.{nil_from_length}
use Rattle.can_replay.specs.declared.events_text.EventsText.{EventsText}
use Rattle.can_replay.specs.EventTexts.{HasWritten, has_events, held_events}
use Rattle.canbusd_io.specs.declared.program_error.ProgramError.{ProgramError}
use Rattle.canbusd_io.specs.declared.program_error.ProgramError.TheVariants as fault
use Rattle.canbusd_audit.specs.Audited.{Puts, StopsEvents}
use Rattle.canbusd_audit.proofs.Underway.{some_of}
use Rattle.canbusd_audit.proofs.events.put_events.Goals as goal

puts_nothing : {W : Type 0} (has : Bool) (contents : W → Option (List ℕ)) (out : W) (held : List ℕ) → held ≡ [] → Puts has contents out out held
puts_nothing false contents out held none = refl
puts_nothing true contents out held none = subst (Appends (contents out) (contents out)) (sym none) (Appends-nil (contents out))

puts_held : {W : Type 0} (held : Option EventsText) (contents : W → Option (List ℕ)) (out new : W) → held_events held ≢ [] → Appends (contents out) (contents new) (held_events held) → Puts (has_events held) contents out new (held_events held)
puts_held None contents out new some wrote = absurd (some refl)
puts_held (Some e) contents out new some wrote = wrote

stops_held : (held : Option EventsText) (why : ProgramError) → held_events held ≢ [] → why ≡ fault.Write → StopsEvents (has_events held) why
stops_held None why some is = absurd (some refl)
stops_held (Some e) why some is = is

nothing : (xs held : List ℕ) → xs ≡ held → true ≡ (length xs == 0) → held ≡ []
nothing xs held is none = sym is ∙ nil_from_length xs (eqb-true (length xs) 0 (sym none))

something : (xs held : List ℕ) → xs ≡ held → false ≡ (length xs == 0) → held ≢ []
something xs held is some none = some_of xs some (is ∙ none)

pub returns-then-is_empty-clause-written : goal.returns-then-is_empty-clause-written
returns-then-is_empty-clause-written g c = λ v text events w.
    let held = held_events c.args.audit.now.events in
    let none = nothing c.events.result.now held c.events.ensures c.if-is_empty.ensures in
    subst (λ (xs : List ℕ). HasWritten v text xs c.args.audit.now) (sym (ap (λ (xs : List ℕ). events ++ xs) none ∙ append-nil events)) w

pub returns-then-is_empty-clause-none : goal.returns-then-is_empty-clause-none
returns-then-is_empty-clause-none g c = nothing c.events.result.now (held_events c.args.audit.now.events) c.events.ensures c.if-is_empty.ensures

pub returns-then-is_empty-clause-put : goal.returns-then-is_empty-clause-put
returns-then-is_empty-clause-put g c =
    let held = held_events c.args.audit.now.events in
    puts_nothing (has_events c.args.audit.now.events) g.W.Write.contents c.args.output.now held (nothing c.events.result.now held c.events.ensures c.if-is_empty.ensures)

pub returns-in-Ok-clause-put : goal.returns-in-Ok-clause-put
returns-in-Ok-clause-put g c =
    let held = held_events c.args.audit.now.events in
    puts_held c.args.audit.now.events g.W.Write.contents c.args.output.now c.write_out.new.output (something c.events.result.now held c.events.ensures c.if-is_empty.ensures)
    (subst (Appends (g.W.Write.contents c.args.output.now) (g.W.Write.contents c.write_out.new.output)) c.events-2.ensures c.in-Ok.ensures)

pub returns-in-Err-clause-fault : goal.returns-in-Err-clause-fault
returns-in-Err-clause-fault g c =
    let held = held_events c.args.audit.now.events in
    stops_held c.args.audit.now.events c.write_failure.result.error (something c.events.result.now held c.events.ensures c.if-is_empty.ensures) c.write_failure.ensures
