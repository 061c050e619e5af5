use Rattle.std.proofs.Common.{ℕ, ◌<◌, IsTrue, false}
use Rattle.plan_types.specs.declared.posture.Posture.TheVariants.{Moving}
use Rattle.plan_rules.specs.Sound.{implies}
use Rattle.plan_motors.specs.Poses.{matters, leads_on, posture_after}
use Rattle.plan_motors.proofs.poses.moving_leads.Given as goal

abbrev pub invariant-loop-zone : goal.invariant-loop-zone
invariant-loop-zone l = (z : ℕ) → z < l.zone → IsTrue (implies (matters l.plan l.host l.any z) (leads_on l.plan l.first l.second false z (posture_after l.plan l.pose z Moving)))
