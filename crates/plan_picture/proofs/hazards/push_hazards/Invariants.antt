use Rattle.std.proofs.Common.{◌≡◌, ◌++◌, flat_map, string_bytes}
use Rattle.std.specs.List.{range_with_len}
use Rattle.plan_picture.specs.Pictures as spec
use Rattle.plan_picture.proofs.hazards.push_hazards.Given as goal

abbrev pub invariant-hazards : goal.invariant-hazards
invariant-hazards l =
    string_bytes l.text ≡ string_bytes l.initial.text ++ flat_map (spec.hazard_part l.shown l.found) (range_with_len 0 l.hazard)
