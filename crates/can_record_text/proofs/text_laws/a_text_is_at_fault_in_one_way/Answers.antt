use Rattle.can_record_text.proofs.Whole.{has_version, nothing_wrong, not_both, one_first}
use Rattle.can_record_text.proofs.text_laws.a_text_is_at_fault_in_one_way.Goals as goal

pub returns-clause-whole : goal.returns-clause-whole
returns-clause-whole c = λ text n is wrong. nothing_wrong text n is.0 is.1 is.2 wrong

pub returns-clause-first : goal.returns-clause-first
returns-clause-first c = λ text is none. has_version text is.0 is.1 is.2 none

pub returns-clause-version : goal.returns-clause-version
returns-clause-version c = not_both

pub returns-clause-line : goal.returns-clause-line
returns-clause-line c = one_first
