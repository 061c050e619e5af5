use Rattle.std.proofs.Common.{◌≡◌, ◌++◌, string_bytes, flat_map}
use Rattle.std.specs.List.{range_with_len}
use Rattle.plan_app.specs.Hazards as spec
use Rattle.plan_app.proofs.hazards.push_digits.Given as goal

abbrev pub invariant-places : goal.invariant-places
invariant-places l =
    string_bytes l.text
    ≡ string_bytes l.initial.text ++ flat_map (spec.digit_of l.opening) (range_with_len 0 l.place)
