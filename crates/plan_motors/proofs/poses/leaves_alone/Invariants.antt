use Rattle.std.proofs.Common.{ℕ, ◌<◌, IsTrue, is_none}
use Rattle.plan_types.specs.Table.{posture_of}
use Rattle.plan_rules.specs.Sound.{implies}
use Rattle.plan_motors.specs.Poses.{matters}
use Rattle.plan_motors.proofs.poses.leaves_alone.Given as goal

abbrev pub invariant-loop-zone : goal.invariant-loop-zone
invariant-loop-zone l = (z : ℕ) → z < l.zone → IsTrue (implies (matters l.plan l.host l.any z) (is_none (posture_of l.plan l.pose z)))
