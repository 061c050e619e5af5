use Rattle.std.proofs.Common.{◌≡◌, length}
use Rattle.cell_picture.specs.Spots.{nth_there}
use Rattle.cell_picture.proofs.plates.nth_there.Given as goal

abbrev pub invariant-loop-stage : goal.invariant-loop-stage
invariant-loop-stage l = nth_there l.rest l.left ≡ nth_there l.stages l.fn.number

abbrev pub decreases-loop-stage : goal.decreases-loop-stage
decreases-loop-stage l = length l.rest
