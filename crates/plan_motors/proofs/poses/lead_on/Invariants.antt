use Rattle.std.proofs.Common.{ℕ, ◌<◌, IsTrue}
use Rattle.plan_rules.specs.State.{posture_at}
use Rattle.plan_rules.specs.Sound.{implies}
use Rattle.plan_motors.specs.Poses.{matters, leads_on}
use Rattle.plan_motors.proofs.poses.lead_on.Given as goal

abbrev pub invariant-loop-zone : goal.invariant-loop-zone
invariant-loop-zone l = (z : ℕ) → z < l.zone → IsTrue (implies (matters l.plan l.host l.any z) (leads_on l.plan l.first l.second l.moving z (posture_at l.state z)))
