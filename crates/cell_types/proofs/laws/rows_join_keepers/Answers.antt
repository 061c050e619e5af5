use Rattle.cell_types.proofs.WayLemmas as ways
use Rattle.cell_types.proofs.laws.rows_join_keepers.Goals as goal

pub returns : goal.returns
returns c = ways.joins_keepers
