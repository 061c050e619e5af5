use Rattle.cell_config.proofs.Names.{arith, ints}
use Rattle.cell_config.proofs.sections.raw_within.Goals as goal

pub overflow_sub-from : goal.overflow_sub-from
overflow_sub-from c = omega (arith, ints)
