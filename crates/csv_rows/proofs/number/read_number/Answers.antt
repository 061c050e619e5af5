use Rattle.std.proofs.Common.{arith}
use Rattle.csv_rows.proofs.Digits.{power_small}
use Rattle.csv_rows.proofs.number.read_number.Goals as goal

pub overflow_mul-number : goal.overflow_mul-number
overflow_mul-number c = grind (arith, power_small)

pub overflow_add-number : goal.overflow_add-number
overflow_add-number c = grind (arith, power_small)
