use Rattle.cell_types.proofs.WayLemmas as ways
use Rattle.cell_types.proofs.laws.one_row_each.Goals as goal

pub returns : goal.returns
returns c = ways.one_row_each
