use Rattle.std.proofs.Common.{◌≡◌, ◌++◌, string_bytes, flat_map}
use Rattle.std.specs.List.{range_with_len}
use Rattle.plan_app.specs.Hazards as spec
use Rattle.plan_app.proofs.hazards.push_hazards.Given as goal

abbrev pub invariant-hazards : goal.invariant-hazards
invariant-hazards l =
    string_bytes l.text ≡ string_bytes l.initial.text ++ flat_map (spec.hazard_line l.plan.named l.plan.programs l.plan.motors.hazard_names l.start l.findings) (range_with_len 0 l.hazard)
