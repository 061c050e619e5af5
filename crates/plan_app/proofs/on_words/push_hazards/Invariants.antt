use Rattle.std.proofs.Common.{◌≡◌, ◌++◌, string_bytes, flat_map}
use Rattle.std.specs.List.{range_with_len}
use Rattle.plan_app.specs.OnWords as spec
use Rattle.plan_app.proofs.on_words.push_hazards.Given as goal

abbrev pub invariant-hazards : goal.invariant-hazards
invariant-hazards l =
    string_bytes l.text
    ≡ string_bytes l.initial.text ++ flat_map (spec.hazard_line l.plans l.titles l.keepers) (range_with_len 0 l.hazard)
