use Rattle.std.proofs.Common.{◌≡◌, None}
use Rattle.plan_types.specs.Below.{first_below}
use Rattle.plan_rules.specs.Refusals as refusals
use Rattle.plan_word.specs.Reading.{state_told}
use Rattle.plan_word.proofs.pose_guards.any_opens_onto_plate.Given as goal

abbrev pub invariant-loop-zone : goal.invariant-loop-zone
invariant-loop-zone l = first_below (refusals.opens_onto_plate l.plan (state_told l.plan l.word) l.pose) l.zone ≡ None
