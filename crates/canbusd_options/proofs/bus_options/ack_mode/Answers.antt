use Rattle.std.proofs.Common.{◌≡◌, ℕ, List, [], codes, unwrap_or, rules, ap, sym, subst, ◌∙◌}
use Rattle.can_attempt.specs.declared.ack_mode.AckMode.TheVariants as ack
use Rattle.clap.specs.Words.{first_value, found_of}
use Rattle.canbusd_options.specs.Options.{IsMode}
use Rattle.canbusd_options.proofs.Rules.{text_in_rows}
use Rattle.canbusd_options.proofs.bus_options.ack_mode.Goals as goal

pub returns-then-eq-clause-given : goal.returns-then-eq-clause-given
returns-then-eq-clause-given c =
    let given : c.unwrap_or-text.result.now ≡ unwrap_or (first_value (found_of c.args.matches.now) (codes "ack")) [] = search rules in
    let same : c.unwrap_or-text.result.now ≡ codes "always" = search rules in
    ap (λ o. unwrap_or o []) (sym (text_in_rows c.args.matches.now (codes "ack"))) ∙ sym given ∙ same

pub returns-then-eq-2-clause-given : goal.returns-then-eq-2-clause-given
returns-then-eq-2-clause-given c =
    let given : c.unwrap_or-text.result.now ≡ unwrap_or (first_value (found_of c.args.matches.now) (codes "ack")) [] = search rules in
    let same : c.unwrap_or-text.result.now ≡ codes "peers" = search rules in
    ap (λ o. unwrap_or o []) (sym (text_in_rows c.args.matches.now (codes "ack"))) ∙ sym given ∙ same

-- a text other than these two is the word of no mode
neither : (text : List ℕ) → (text ≡ codes "always" → ⊥) → (text ≡ codes "peers" → ⊥) → IsMode text → ⊥
neither text always peers (ack.Always, is) = always is
neither text always peers (ack.Peers, is) = peers is

pub returns-clause-taken : goal.returns-clause-taken
returns-clause-taken c = λ is.
    let same : c.unwrap_or-text.result.now ≡ unwrap_or (first_value (found_of c.args.matches.now) (codes "ack")) [] = search rules in
    let always : c.unwrap_or-text.result.now ≡ codes "always" → ⊥ = λ e. absurd (search (rules, e)) in
    let peers : c.unwrap_or-text.result.now ≡ codes "peers" → ⊥ = λ e. absurd (search (rules, e)) in
    absurd (neither _ always peers (subst IsMode (ap (λ o. unwrap_or o []) (sym (text_in_rows c.args.matches.now (codes "ack"))) ∙ sym same) is))
