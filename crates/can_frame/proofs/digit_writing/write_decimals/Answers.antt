use Rattle.can_frame.proofs.DigitTables.{decimal_pairs}
use Rattle.can_frame.proofs.digit_writing.write_decimals.Goals as goal

pub write_digits-requires-clause-table : goal.write_digits-requires-clause-table
write_digits-requires-clause-table c = decimal_pairs
