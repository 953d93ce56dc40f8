use Rattle.can_frame.proofs.DigitTables.{hexadecimal_pairs}
use Rattle.can_frame.proofs.digit_writing.write_hexadecimals.Goals as goal

pub write_digits-requires-clause-table : goal.write_digits-requires-clause-table
write_digits-requires-clause-table c = hexadecimal_pairs
