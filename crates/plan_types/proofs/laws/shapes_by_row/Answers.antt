use Rattle.plan_types.proofs.Shapes.{shapes_by_row}
use Rattle.plan_types.proofs.laws.shapes_by_row.Goals as goal

pub returns : goal.returns
returns c = shapes_by_row
