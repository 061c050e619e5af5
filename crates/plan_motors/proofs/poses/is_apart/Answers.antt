use Rattle.std.proofs.Common.{◌≡◌, Bool, true, false, not, refl, IsTrue, ◌↔◌}
use Rattle.plan_motors.proofs.Posing.{apart}
use Rattle.plan_motors.proofs.Leading.{to_danger}
use Rattle.plan_motors.proofs.poses.is_apart.Goals as goal

-- what isn't led anywhere, and what is
nowhere : {A : Type 0} (led : Bool) → (IsTrue led ↔ A) → not led ≡ true → ¬ A
nowhere true k e = cc
nowhere false k e = λ x. absurd (no (k.1 x))
  where
    no : false ≡ true → ⊥
    no e = cc

somewhere : {A : Type 0} (led : Bool) → (IsTrue led ↔ A) → not led ≡ false → A
somewhere true k e = k.0 refl
somewhere false k e = cc

pub returns-clause-apart : goal.returns-clause-apart
returns-clause-apart c = λ e. apart c.lawful_histories.ensures c.args.plan.now c.args.first.now c.args.second.now c.args.host c.leads_of-leads.result c.args.opening.now c.machines.ensures.plan c.leads_of-leads.ensures (nowhere c.lead_somewhere-led.result c.lead_somewhere-led.ensures e)

pub returns-clause-danger : goal.returns-clause-danger
returns-clause-danger c = λ e. to_danger c.args.plan.now c.args.first.now c.args.second.now c.args.host c.leads_of-leads.result _ c.leads_of-leads.ensures (somewhere c.lead_somewhere-led.result c.lead_somewhere-led.ensures e)
