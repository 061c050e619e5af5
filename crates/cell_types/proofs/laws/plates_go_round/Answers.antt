use Rattle.cell_types.proofs.WayLemmas as ways
use Rattle.cell_types.proofs.laws.plates_go_round.Goals as goal

pub returns : goal.returns
returns c = ways.goes_round
