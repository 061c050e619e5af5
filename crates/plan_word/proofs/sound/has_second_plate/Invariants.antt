use Rattle.std.proofs.Common.{◌≡◌}
use Rattle.plan_types.specs.Below.{any_below}
use Rattle.plan_word.specs.Spaces.{second_plate}
use Rattle.plan_word.proofs.sound.has_second_plate.Given as goal

abbrev pub invariant-loop-other : goal.invariant-loop-other
invariant-loop-other l = l.found ≡ any_below (second_plate l.plan l.state l.zone) l.other
