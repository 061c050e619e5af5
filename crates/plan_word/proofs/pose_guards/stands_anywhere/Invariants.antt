use Rattle.std.proofs.Common.{◌≡◌, false}
use Rattle.plan_types.specs.Below.{any_below}
use Rattle.plan_rules.specs.Refusals as refusals
use Rattle.plan_word.specs.Reading.{state_told}
use Rattle.plan_word.proofs.pose_guards.stands_anywhere.Given as goal

abbrev pub invariant-loop-zone : goal.invariant-loop-zone
invariant-loop-zone l = any_below (refusals.stands_at l.plan (state_told l.plan l.word) l.machine) l.zone ≡ false
