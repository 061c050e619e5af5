use Rattle.plan_types.proofs.lemmas.Spaces.{spaces_by_row}
use Rattle.plan_types.proofs.laws.spaces_by_row.Goals as goal

pub returns : goal.returns
returns c = spaces_by_row
