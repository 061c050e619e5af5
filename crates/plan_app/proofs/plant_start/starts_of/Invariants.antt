use Rattle.std.proofs.Common.{◌≡◌, map, Ok}
use Rattle.std.specs.List.{range_with_len}
use Rattle.csv.specs.Records.{fields_of}
use Rattle.plan_app.specs.PlantStarts.{start_on, tables_of}
use Rattle.plan_app.proofs.plant_start.starts_of.Given as goal

abbrev pub invariant-loop-word : goal.invariant-loop-word
invariant-loop-word l =
    map (start_on l.plant.words (tables_of l.plant.plans.items) (fields_of l.row)) (range_with_len 0 l.word) ≡ map Ok l.starts.items
