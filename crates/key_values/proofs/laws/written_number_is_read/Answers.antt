use Rattle.key_values.proofs.Digits.{number_of_decimal}
use Rattle.key_values.proofs.laws.written_number_is_read.Goals as goal

pub returns : goal.returns
returns c = number_of_decimal
