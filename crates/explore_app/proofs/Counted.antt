-- How many starts there are.
use Rattle.std.proofs.Common.{refl}
use Rattle.explore_app.specs.Starts.{StartsAreCounted}

pub counted : StartsAreCounted
unfolding Rattle.explore_app.specs.Starts.starts_with
counted = record { none = refl; one = refl; two = refl; three = refl; four = refl; five = refl; six = refl }
