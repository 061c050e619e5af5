use Rattle.cell_types.proofs.NumberLemmas as numbers
use Rattle.cell_types.proofs.laws.numbers_of_refusals.Goals as goal

pub returns : goal.returns
returns c = numbers.numbers_of_refusals
