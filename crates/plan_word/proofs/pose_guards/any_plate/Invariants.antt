use Rattle.std.proofs.Common.{◌≡◌, None}
use Rattle.plan_types.specs.Below.{first_below}
use Rattle.plan_rules.specs.Refusals as refusals
use Rattle.plan_word.specs.Reading.{state_told}
use Rattle.plan_word.proofs.pose_guards.any_plate.Given as goal

abbrev pub invariant-loop-zone : goal.invariant-loop-zone
invariant-loop-zone l = first_below (refusals.plate_under_pose l.plan (state_told l.plan l.word) l.machine l.pose) l.zone ≡ None
