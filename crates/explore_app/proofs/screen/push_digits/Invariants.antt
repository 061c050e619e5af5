use Rattle.std.proofs.Common.{◌≡◌, ◌++◌, map, take, string_bytes, if◌then◌else◌}
use Rattle.cell_rules.specs.Types.{all_places}
use Rattle.cell_rules.specs.Names.{is_full}
use Rattle.explore_app.proofs.screen.push_digits.Given as goal

abbrev pub invariant-places : goal.invariant-places
invariant-places l = string_bytes l.text ≡ string_bytes l.initial.text ++ map (λ place. if is_full l.start place then 49 else 48) (take l.place-index all_places)
