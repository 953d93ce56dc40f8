-- A refused message: its turn reports the refusal.
use Rattle.std.proofs.Common.{◌≡◌, ℕ, Bool, true, false, IsTrue, List, Result, Ok, Err, refl, sym, ap, subst, ◌∙◌}
use Rattle.can_proto.specs.declared.message.Incoming.TheVariants.{Message}
use Rattle.can_proto.specs.declared.command.Command.{Command}
use Rattle.can_proto.specs.declared.command.Command.TheVariants as command
use Rattle.can_proto.specs.declared.fault.ProtoFault.{ProtoFault}
use Rattle.can_proto.specs.declared.fault.ProtoFault.TheVariants.{NoMemory, InvalidFilter, TooManyFilters, EmptyMessage, UnknownCommand, WrongState, ModeNotSupported, BadCount, BadId, BadLength, BadByte, BadNumber}
use Rattle.can_proto.specs.declared.answer.Answer.TheVariants as answer
use Rattle.can_proto.specs.Words.{words_of}
use Rattle.can_proto.specs.Commands.{GivesBut, reading, keeps_on_heap}
use Rattle.can_proto.specs.Causes.{cause_of_fault}
use Rattle.can_proto.specs.Spelling.{answer_text}
use Rattle.can_dialog.specs.declared.stage.Stage.{Stage}
use Rattle.can_dialog.specs.declared.stage.Stage.TheVariants.{NoBus, Opened, Raw, Ended}
use Rattle.can_dialog.specs.declared.stage.Dialog.{Dialog}
use Rattle.can_dialog.specs.Calls.{Call, Reply}
use Rattle.can_dialog.specs.Plans.{Plan, Plays}
use Rattle.can_dialog.specs.Turns.{mode_of, may_lack_memory, without_memory, read_as, answering, heard, unless_over, turn}

-- a command that needs the heap may lack memory
lacking : (c : Command) → IsTrue (keeps_on_heap c) → may_lack_memory c ≡ true
lacking (command.Open name) h = refl
lacking (command.SetFilters filters) h = refl
lacking (command.Fault rule) h = refl
lacking c h = absurd cc

lost : (r : Result Command ProtoFault) → GivesBut keeps_on_heap (Err NoMemory) r → without_memory r ≡ Err NoMemory
lost (Ok c) h = rw (lacking c h) refl
lost (Err e) h = absurd h

-- a fault is the message's own fault, or `NoMemory` for a command that needs the heap
pub reads : (r : Result Command ProtoFault) (e : ProtoFault) → GivesBut keeps_on_heap (Err e) r → (forgot : Bool) × (read_as forgot r ≡ Err e)
reads r NoMemory h = (true, lost r h)
reads r InvalidFilter h = (false, h)
reads r TooManyFilters h = (false, h)
reads r EmptyMessage h = (false, h)
reads r UnknownCommand h = (false, h)
reads r WrongState h = (false, h)
reads r ModeNotSupported h = (false, h)
reads r BadCount h = (false, h)
reads r BadId h = (false, h)
reads r BadLength h = (false, h)
reads r BadByte h = (false, h)
reads r BadNumber h = (false, h)

pub not_over : (stage : Stage) (plan : Plan Dialog) (d : Dialog) → (stage ≡ Ended → ⊥) → unless_over stage plan d ≡ plan
not_over NoBus plan d h = refl
not_over (Opened iface) plan d h = refl
not_over (Raw raw) plan d h = refl
not_over Ended plan d h = absurd (h refl)

pub faulted : {P : Type 0} (step : P → (call : Call) → Reply call → P → Type 0) (moment : ℕ) (d : Dialog) (inside : List ℕ) (p : P) (e : ProtoFault)
    → GivesBut keeps_on_heap (Err e) (reading (mode_of d.stage) (words_of inside)) → (d.stage ≡ Ended → ⊥)
    → (forgot : Bool) × Plays step (turn forgot moment d (Message inside)) p p (answer_text (answer.Refused (cause_of_fault e))) d
faulted {P} step moment d inside p e h over =
    let r = reads (reading (mode_of d.stage) (words_of inside)) e h in
    let plan : turn r.0 moment d (Message inside) ≡ answering moment d (Err e) = not_over d.stage (heard r.0 moment d (Message inside)) d over ∙ ap (answering moment d) r.1 in
    (r.0, subst (λ (x : Plan Dialog). Plays step x p p (answer_text (answer.Refused (cause_of_fault e))) d) (sym plan) (refl, refl, refl))
