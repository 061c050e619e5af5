use Rattle.explore_app.proofs.Numbers.{starts-all}
use Rattle.explore_app.proofs.laws.starts_are_all.Goals as goal

pub returns : goal.returns
returns c = starts-all
