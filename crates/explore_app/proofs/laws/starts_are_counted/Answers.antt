use Rattle.explore_app.proofs.Counted.{counted}
use Rattle.explore_app.proofs.laws.starts_are_counted.Goals as goal

pub returns : goal.returns
returns c = counted
