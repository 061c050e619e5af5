use Rattle.std.proofs.Common.{◌≡◌}
use Rattle.plan_types.specs.Below.{any_below}
use Rattle.plan_word.specs.Spaces.{second_plate}
use Rattle.plan_word.proofs.sound.has_second_plates.Given as goal

abbrev pub invariant-loop-zone : goal.invariant-loop-zone
invariant-loop-zone l = l.found ≡ any_below (λ z. any_below (second_plate l.plan l.state z) z) l.zone
