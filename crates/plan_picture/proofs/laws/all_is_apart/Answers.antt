use Rattle.plan_picture.proofs.Apart.{all-is-apart}
use Rattle.plan_picture.proofs.laws.all_is_apart.Goals as goal

pub returns : goal.returns
returns c = all-is-apart
