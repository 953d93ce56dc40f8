-- Lines whose event is known from their first words.
use Rattle.std.proofs.Common.{◌≡◌, ◌++◌, ◌∙◌, List, Option, Some, None, ap, sym}
use Rattle.std.specs.Prelude.{ℕ, codes, IfSome}
use Rattle.std.proofs.lemmas.Option.{none-some, same_Some}
use Rattle.can_frame.specs.Frames.{CanFrame}
use Rattle.can_fault.specs.declared.verdict.Verdict.{Verdict}
use Rattle.can_event.specs.declared.socket_id.SocketId.{SocketId}
use Rattle.can_event.specs.declared.event.Event.{Event}
use Rattle.can_event.specs.declared.event.Event.TheVariants.{Attempt, Receive, Send}
use Rattle.can_record_text.specs.inner.Words.{word, after}
use Rattle.can_record_text.specs.inner.Reading.{◌>>=◌, SeemsToBe, attempted_in, event_at, plain_at, frame_at, moment_at, sent_in, socket_at, verdict_at}

pub received_at : (text rest more : List ℕ) (id : SocketId) → text ≡ codes "receive " ++ rest → socket_at rest ≡ Some (id, more) → event_at text ≡ Some (Receive id, more)
unfolding event_at plain_at word after
received_at text rest more id is found = ap event_at is ∙ ap (λ (o : Option (SocketId × List ℕ)). o >>= λ s. Some (Receive s.0, s.1)) found

-- the event that is made of two values that were read
abbrev both : {A B : Type 0} → A × List ℕ → B × List ℕ → Option (A × B)
both a b = Some (a.0, b.0)

abbrev made : {A B : Type 0} → (A → B → Event) → A × List ℕ → B × List ℕ → Option (Event × List ℕ)
made make a b = Some (make a.0 b.0, b.1)

-- the two values that were read, one after the other, are the two parts of the event
parts : {A B : Type 0} (make : A → B → Event) (o : Option (A × List ℕ)) (f : List ℕ → Option (B × List ℕ)) (x : A × B) → (o >>= λ a. f a.1 >>= λ b. both a b) ≡ Some x
    → (more : List ℕ) × ((o >>= λ a. f a.1 >>= λ b. made make a b) ≡ Some (make x.0 x.1, more))
parts make None f x h = absurd (none-some x h)
parts {A} {B} make (Some a) f x h = second (f a.1) h
  where
    second : (p : Option (B × List ℕ)) → (p >>= λ b. both a b) ≡ Some x → (more : List ℕ) × ((p >>= λ b. made make a b) ≡ Some (make x.0 x.1, more))
    second None k = absurd (none-some x k)
    second (Some b) k = (b.1, ap (λ (y : A × B). Some (make y.0 y.1, b.1)) (same_Some (a.0, b.0) x k))

pub attempted_at : (text rest : List ℕ) (r : Option (ℕ × Verdict)) → text ≡ codes "attempt " ++ rest → r ≡ attempted_in rest → IfSome r (λ x. SeemsToBe text (Attempt x.0 x.1))
unfolding event_at plain_at word after attempted_in
attempted_at text rest None is found = tt
attempted_at text rest (Some x) is found = let whole = parts Attempt (moment_at rest) verdict_at x (sym found) in (whole.0, ap event_at is ∙ whole.1)

pub sent_at : (text rest : List ℕ) (r : Option (SocketId × CanFrame)) → text ≡ codes "send " ++ rest → r ≡ sent_in rest → IfSome r (λ x. SeemsToBe text (Send x.0 x.1))
unfolding event_at plain_at word after sent_in
sent_at text rest None is found = tt
sent_at text rest (Some x) is found = let whole = parts Send (socket_at rest) frame_at x (sym found) in (whole.0, ap event_at is ∙ whole.1)
