use Rattle.plan_cell_motors.proofs.Demanding.{by_rows}
use Rattle.plan_cell_motors.proofs.rows_say_demands.Goals as goal

pub returns : goal.returns
returns c = by_rows
