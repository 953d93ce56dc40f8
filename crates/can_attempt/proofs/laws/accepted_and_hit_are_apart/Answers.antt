use Rattle.std.proofs.Common.{◌≡◌, ℕ, Bool, true, false, not, nat_lt, ◌&&◌, sym, arith, refl, ◌∙◌}
use Rattle.std.proofs.lemmas.Bool.{false≢true}
use Rattle.can_attempt.specs.declared.class.Class.{Class}
use Rattle.can_attempt.specs.declared.class.Class.TheVariants.{Done, LastBit, Destroyed, NoAck}
use Rattle.can_attempt.specs.Attempts.{Transmission, is_among, unhurt, can_hear, is_struck, class_of, accepted_in}
use Rattle.can_attempt.proofs.Places.{is_among-hit, is_among-unhurt}
use Rattle.can_attempt.proofs.laws.accepted_and_hit_are_apart.Goals as goal

-- a receiver that accepts the frame was not hit
accepted_unhurt : (k : Class) (t : Transmission) (i : ℕ) → is_among i (accepted_in k t) ≡ true → is_among i (unhurt t) ≡ true
accepted_unhurt Done t i among = among
accepted_unhurt LastBit t i among = among
accepted_unhurt Destroyed t i among = absurd (false≢true among)
accepted_unhurt NoAck t i among = absurd (false≢true among)

apart : (n h : Bool) → (not n && h) ≡ true → (n && h) ≡ false
apart true h both = absurd (false≢true both)
apart false h both = refl

pub returns-clause-apart : goal.returns-clause-apart
returns-clause-apart c t i among = is_among-hit t i ∙ apart (is_struck t.verdict i) (can_hear t i && nat_lt i t.count) (sym (is_among-unhurt t i) ∙ accepted_unhurt (class_of t) t i among)

-- the winner does not hear itself
deaf : (t : Transmission) → can_hear t t.winner ≡ false
deaf t = grind arith

not_both : (n : Bool) → (n && false) ≡ false
not_both n = grind arith

unhurt_winner : (t : Transmission) → is_among t.winner (unhurt t) ≡ false
unhurt_winner t = is_among-unhurt t t.winner ∙ rw (deaf t) (not_both (not (is_struck t.verdict t.winner)))

accepted_winner : (k : Class) (t : Transmission) → is_among t.winner (accepted_in k t) ≡ false
accepted_winner Done t = unhurt_winner t
accepted_winner LastBit t = unhurt_winner t
accepted_winner Destroyed t = refl
accepted_winner NoAck t = refl

pub returns-clause-accepted : goal.returns-clause-accepted
returns-clause-accepted c t = accepted_winner (class_of t) t

pub returns-clause-hit : goal.returns-clause-hit
returns-clause-hit c t = is_among-hit t t.winner ∙ rw (deaf t) (not_both (is_struck t.verdict t.winner))
