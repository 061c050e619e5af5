-- After some rounds no place was found for the steps and for them without the last ones.
use Rattle.std.proofs.Common.{◌≤◌, ◌-◌, length}
use Rattle.toml_places.specs.Leading as leading
use Rattle.toml_places.proofs.places.nearest_place.Given as goal

abbrev pub invariant-loop-left : goal.invariant-loop-left
invariant-loop-left l = (l.left ≤ length l.steps) × leading.NoMoreLead (length l.steps - l.left) l.places l.steps
