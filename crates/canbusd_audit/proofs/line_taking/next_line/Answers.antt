use Rattle.std.proofs.Common.{◌≡◌, ◌≢◌, ◌-◌, IsTrue, List, Some, false, length, slice_get, subst, ℕ}
use Rattle.canbusd_audit.proofs.Underway.{next_is}
use Rattle.canbusd_audit.proofs.line_taking.next_line.Goals as goal

pub returns-in-Ok-clause-read : goal.returns-in-Ok-clause-read
returns-in-Ok-clause-read g c =
    let ends = c.has_end.result in
    next_is ends (g.R.Read.remaining c.args.input.now) (g.R.Read.remaining c.read_until.new.self) c.clear.new.self.items c.read_until.new.buf.items c.clear.ensures.items
    c.read_until.ensures.stops c.in-Ok.ensures.bytes c.read_until.ensures.none_lost
    (subst (λ (l : List ℕ). IsTrue ends → slice_get l (length l - 1) ≡ Some 10) c.deref.ensures.value c.has_end.ensures.yes)
    (subst (λ (l : List ℕ). ends ≡ false → slice_get l (length l - 1) ≢ Some 10) c.deref.ensures.value c.has_end.ensures.no)
