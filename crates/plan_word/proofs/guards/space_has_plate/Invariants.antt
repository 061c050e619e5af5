use Rattle.std.proofs.Common.{◌≡◌, ◌&&◌}
use Rattle.plan_types.specs.Below.{any_below}
use Rattle.plan_types.specs.Table.{same_space}
use Rattle.plan_rules.specs.State as states
use Rattle.plan_word.specs.Reading.{state_told}
use Rattle.plan_word.proofs.guards.space_has_plate.Given as goal

abbrev pub invariant-loop-other : goal.invariant-loop-other
invariant-loop-other l = l.found ≡ any_below (λ y. same_space l.plan y l.zone && (states.zone_at (state_told l.plan l.word) y).flag) l.other
