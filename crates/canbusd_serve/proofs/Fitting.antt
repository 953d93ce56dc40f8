use Rattle.std.proofs.Common.{◌∷◌, [], ℕ, suc, List, All, drop, arith, sym, subst}
use Rattle.std.specs.Prelude.{reverse}
use Rattle.std.proofs.lemmas.List.{reverse-append}
use Rattle.std.proofs.lemmas.List.Elements.{All-cons, All-drop, All-nil, All-push}
use Rattle.can_event.specs.declared.bus_config.BusConfig.{BusConfig}
use Rattle.can_event.specs.declared.entry.Entry.{Entry}
use Rattle.can_bus.specs.Legal.{IsLegal}
use Rattle.can_bus.proofs.Fitting.{legal_is_spelled}
use Rattle.can_record_text.specs.inner.StoredLines.{HasFittingReply}
use Rattle.can_server.specs.Keeping.{AreLegalLast}

-- The entries of a legal history can be written as lines.

legal_fit : (c : BusConfig) (past : List Entry) → IsLegal c past → All HasFittingReply past
legal_fit c [] legal = All-nil HasFittingReply
legal_fit c (e ∷ past) legal = All-cons HasFittingReply e past (legal_is_spelled c past e.event e.reply legal.1) (legal_fit c past legal.2)

reversed : (entries : List Entry) → All HasFittingReply entries → All HasFittingReply (reverse entries)
reversed [] all = all
reversed (e ∷ entries) all =
    subst (All HasFittingReply) (sym (reverse-append (e ∷ []) entries)) (All-push HasFittingReply (reverse entries) e (reversed entries (λ k d low. all (suc k) d (omega (arith, low)))) (all 0 e (omega arith)))

-- the last entries of a legal history can also be written as lines
pub rest_fit : (c : BusConfig) (past : List Entry) (start : ℕ) → IsLegal c past → All HasFittingReply (drop start (reverse past))
rest_fit c past start legal = All-drop HasFittingReply start (reverse past) (reversed past (legal_fit c past legal))

pub last_fit : (entries : List Entry) → AreLegalLast entries → All HasFittingReply entries
last_fit entries last = subst (All HasFittingReply) (sym last.4.rest) (rest_fit last.0 last.1 last.2 last.3)
