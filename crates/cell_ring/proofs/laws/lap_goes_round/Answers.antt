use Rattle.cell_ring.proofs.Ring as ring
use Rattle.cell_ring.proofs.laws.lap_goes_round.Goals as goal

pub returns : goal.returns
returns c = ring.lap_goes_round
