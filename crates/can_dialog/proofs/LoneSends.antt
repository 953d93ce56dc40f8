-- A piece that is a single `send` makes one turn, which sends the frame.
use Rattle.std.proofs.Common.{◌≡◌, ℕ, List, [], ◌∷◌, Option, Result, Ok, Err, false, refl, sym, ap, subst, ◌∙◌}
use Rattle.std.specs.Prelude.{OnOk}
use Rattle.std.proofs.lemmas.List.{append-nil}
use Rattle.can_frame.specs.Frames.{CanFrame}
use Rattle.can_proto.specs.declared.message.Incoming.{Incoming}
use Rattle.can_proto.specs.declared.message.Incoming.TheVariants.{Message}
use Rattle.can_proto.specs.declared.command.Mode.TheVariants as mode
use Rattle.can_proto.specs.declared.command.Command.TheVariants as command
use Rattle.can_proto.specs.Words.{words_of}
use Rattle.can_proto.specs.Messages.{messages_of}
use Rattle.can_proto.specs.Commands.{reading, IsLoneSend}
use Rattle.can_dialog.specs.declared.stage.Stage.{Stage}
use Rattle.can_dialog.specs.declared.stage.Stage.TheVariants.{Raw}
use Rattle.can_dialog.specs.declared.stage.RawSocket.{RawSocket}
use Rattle.can_dialog.specs.declared.stage.Dialog.{Dialog}
use Rattle.can_dialog.specs.Calls.{Call, Reply}
use Rattle.can_dialog.specs.Plans.{Plan, Plays}
use Rattle.can_dialog.specs.Turns.{mode_of, answering, doing, unless_over, sending_frame, turn}
use Rattle.can_dialog.specs.Sessions.{Turns, Wrote, Says}

sends : (moment : ℕ) (d : Dialog) (raw : RawSocket) (inside : List ℕ) (frame : CanFrame) → d.stage ≡ Raw raw → reading mode.Raw (words_of inside) ≡ Ok (command.Send frame) → turn false moment d (Message inside) ≡ sending_frame d raw frame
sends moment d raw inside frame at reads =
    ap (λ (s : Stage). unless_over s (answering moment d (reading (mode_of s) (words_of inside))) d) at
    ∙ ap (answering moment d) reads
    ∙ ap (λ (s : Stage). doing moment d s (command.Send frame)) at

-- the turns of the piece
pub lone_turns : {P : Type 0} (step : P → (call : Call) → Reply call → P → Type 0) (moment : ℕ) (d : Dialog) (raw : RawSocket) (frame : CanFrame) (stream : List ℕ) (p q : P) (text : List ℕ) (after : Dialog)
    → d.stage ≡ Raw raw → IsLoneSend stream frame → Plays step (sending_frame d raw frame) p q text after → Turns step moment d (false ∷ []) (messages_of stream) p q text after
lone_turns {P} step moment d raw frame stream p q text after at lone played =
    let turned : Plays step (turn false moment d (Message lone.0)) p q text after = subst (λ (plan : Plan Dialog). Plays step plan p q text after) (sym (sends moment d raw lone.0 frame at lone.3)) played in
    subst (λ (items : List Incoming). Turns step moment d (false ∷ []) items p q text after) (sym lone.1) (text, after, q, [], turned, (refl, refl, refl), sym (append-nil text))

pub lone_said : {P W T E : Type 0} (step : P → (call : Call) → Reply call → P → Type 0) (contents : W → Option (List ℕ)) (moment : ℕ) (d : Dialog) (raw : RawSocket) (frame : CanFrame) (stream : List ℕ) (p q : P) (out new : W) (after : Dialog) (r : Result T E)
    → d.stage ≡ Raw raw → IsLoneSend stream frame → OnOk r ((text : List ℕ) × Plays step (sending_frame d raw frame) p q text after × Wrote contents out text new) → OnOk r (Says step contents moment d (messages_of stream) p q out new after)
lone_said {P} {W} {T} {E} step contents moment d raw frame stream p q out new after (Ok x) at lone h =
    record { forgotten = false ∷ []; text = h.0; turns = lone_turns step moment d raw frame stream p q h.0 after at lone h.1; wrote = h.2 }
lone_said {P} {W} {T} {E} step contents moment d raw frame stream p q out new after (Err e) at lone h = h
