use Rattle.std.proofs.Common.{◌≡◌, ◌++◌, string_bytes, flat_map, map}
use Rattle.std.specs.List.{range_with_len}
use Rattle.plan_app.specs.PlantRunTexts as spec
use Rattle.plan_app.proofs.plant_run_text.push_parts.Given as goal

abbrev pub invariant-words : goal.invariant-words
invariant-words l =
    string_bytes l.text
    ≡ string_bytes l.initial.text ++ flat_map (spec.part_on l.plans l.starts (map (λ h. h.items) l.histories)) (range_with_len 0 l.word)
