use Rattle.plan_cell.proofs.Refusing.{inquiries_are_alike}
use Rattle.plan_cell.proofs.laws.inquiries_are_alike.Goals as goal

pub returns : goal.returns
returns c = inquiries_are_alike
