use Rattle.plan_app.proofs.SimulatedRows.{simulation_rows}
use Rattle.plan_app.proofs.laws.simulations_are_met.Goals as goal

pub returns : goal.returns
returns c = simulation_rows
