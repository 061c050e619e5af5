use Rattle.plan_types.proofs.RowRights.{rights_by_row}
use Rattle.plan_types.proofs.laws.rights_by_row.Goals as goal

pub returns : goal.returns
returns c = rights_by_row
