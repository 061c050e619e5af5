use Rattle.std.proofs.Common.{refl}
use Rattle.plan_types.proofs.lemmas.Checked.{is_plan}
use Rattle.plan_cell.specs.CellPlan.{cell_table}
use Rattle.plan_cell.proofs.laws.cell_is_plan.Goals as goal

pub returns : goal.returns
returns c = is_plan cell_table refl
