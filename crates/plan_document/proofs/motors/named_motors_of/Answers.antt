use Rattle.std.proofs.Common.{◌∙◌, ap, subst}
use Rattle.std.specs.List.{AllZip}
use Rattle.plan_motors.specs.OfPlan.{AreMotorsOf}
use Rattle.plan_document.specs.Motors.{IsHazardOf, IsMotorOf}
use Rattle.plan_document.specs.Names.{hazard_names, motor_names}
use Rattle.plan_document.proofs.motors.named_motors_of.Goals as goal

pub returns : goal.returns
returns c =
    let named = c.args.named.now in
    let motors = c.in_ok-motors.motors.items in
    let hazards = c.in_ok-hazards.hazards.items in
    record {
      spelled_motors = c.in_ok-add_motor_names.ensures.spelled;
      spelled_hazards = c.in_ok-add_hazard_names.ensures.spelled;
      distinct_motors = c.in_ok-add_motor_names.ensures.distinct;
      distinct_hazards = c.in_ok-add_hazard_names.ensures.distinct;
      named_motors = c.in_ok-add_motor_names.ensures.names ∙ ap motor_names c.deref.ensures.value;
      named_hazards = c.in_ok-add_hazard_names.ensures.names ∙ ap hazard_names c.deref-3.ensures.value;
      motors = subst (λ rows. AllZip (IsMotorOf named) rows motors) c.deref-2.ensures.value c.in_ok-motors.ensures;
      hazards = subst (λ rows. AllZip (IsHazardOf c.add_motor_names.new.names) rows hazards) c.deref-4.ensures.value c.in_ok-hazards.ensures;
      fit =
          subst (λ ms. AreMotorsOf named.plan ms hazards) c.deref-5.ensures.value
          (subst (λ hs. AreMotorsOf named.plan c.deref-5.result.now hs) c.deref-6.ensures.value c.in_ok-check_fit.ensures);
    }
