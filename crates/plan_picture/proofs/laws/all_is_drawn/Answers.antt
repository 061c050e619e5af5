use Rattle.plan_picture.proofs.Drawn.{all-is-drawn}
use Rattle.plan_picture.proofs.laws.all_is_drawn.Goals as goal

pub returns : goal.returns
returns c = all-is-drawn
