-- With each step fewer are left.
use Rattle.std.proofs.Common.{length}
use Rattle.toml_places.proofs.places.+begin_with.Given as goal

abbrev pub decreases-begin_with : goal.decreases-begin_with
decreases-begin_with l = length l.steps.now
