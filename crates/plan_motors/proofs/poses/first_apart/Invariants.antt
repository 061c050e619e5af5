use Rattle.std.proofs.Common.{ℕ, ◌<◌}
use Rattle.plan_rules.specs.State.{posture_at}
use Rattle.plan_motors.specs.Poses.{LeadToDanger}
use Rattle.plan_motors.proofs.poses.first_apart.Given as goal

abbrev pub invariant-loop-host : goal.invariant-loop-host
invariant-loop-host l = (m : ℕ) → m < l.host → LeadToDanger l.plan l.first l.second m (λ z. posture_at l.opening z)
