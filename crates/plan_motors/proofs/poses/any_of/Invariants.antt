use Rattle.std.proofs.Common.{ℕ, ◌≤◌, get_or, false}
use Rattle.plan_types.specs.declared.posture.Posture.{Posture}
use Rattle.plan_motors.specs.Poses.{LeadOn, PosesLead}
use Rattle.plan_motors.proofs.Leading.{count}
use Rattle.plan_motors.proofs.poses.any_of.Given as goal

abbrev pub invariant-loop-found : goal.invariant-loop-found
invariant-loop-found l = record {
  lead : (q : ℕ → Posture) → LeadOn l.plan l.first l.second l.host l.any l.moving q → PosesLead l.plan l.first l.second l.host l.moving q;
  many : l.found ≤ count (λ z. get_or l.any z false) 10;
}
