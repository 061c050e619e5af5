use Rattle.std.proofs.Common.{ℕ, ◌<◌, IsTrue}
use Rattle.plan_types.specs.Table.{posture_of}
use Rattle.plan_rules.specs.Sound.{implies}
use Rattle.plan_motors.specs.Poses.{matters, given_leads_on}
use Rattle.plan_motors.proofs.poses.gives_well.Given as goal

abbrev pub invariant-loop-zone : goal.invariant-loop-zone
invariant-loop-zone l = (z : ℕ) → z < l.zone → IsTrue (implies (matters l.plan l.host l.any z) (given_leads_on l.plan l.first l.second l.moving z (posture_of l.plan l.pose z)))
