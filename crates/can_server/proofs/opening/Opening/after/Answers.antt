use Rattle.std.proofs.Common.{◌≡◌, List, [], ◌∷◌, ℕ, false, refl, sym, ◌∙◌}
use Rattle.can_server.specs.declared.opening.Opening.{Opening}
use Rattle.can_server.specs.declared.opening.Opening.TheVariants.{Blank, Word, Client, Stranger}
use Rattle.can_server.specs.Openings.{is_undecided, after_bytes}
use Rattle.can_server.proofs.opening.Opening.after.Goals as goal

-- after a decision, the state does not change
stays : (o : Opening) (bs : List ℕ) → is_undecided o ≡ false → after_bytes o bs ≡ o
stays o [] closed = refl
stays Blank (b ∷ bs) closed = cc
stays Word (b ∷ bs) closed = cc
stays Client (b ∷ bs) closed = stays Client bs closed
stays Stranger (b ∷ bs) closed = stays Stranger bs closed

pub returns-then-not-is_open : goal.returns-then-not-is_open
returns-then-not-is_open c = sym (stays c.args.self c.args.bytes.now (sym c.is_open.ensures ∙ c.if-not-is_open.true))
