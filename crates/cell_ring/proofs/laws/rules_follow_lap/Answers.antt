use Rattle.cell_ring.proofs.Calls as calls
use Rattle.cell_ring.proofs.laws.rules_follow_lap.Goals as goal

pub returns : goal.returns
returns c = calls.rules_follow_lap
