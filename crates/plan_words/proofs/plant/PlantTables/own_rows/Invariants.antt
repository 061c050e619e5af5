use Rattle.std.proofs.Common.{◌≡◌, map}
use Rattle.std.specs.List.{range_with_len}
use Rattle.plan_words.specs.CutTable.{place_cut}
use Rattle.plan_words.proofs.plant.PlantTables.own_rows.Given as goal

abbrev pub invariant-loop-place : goal.invariant-loop-place
invariant-loop-place l = l.rows.items ≡ map (place_cut l.self l.exits l.entries) (range_with_len 0 l.place)
