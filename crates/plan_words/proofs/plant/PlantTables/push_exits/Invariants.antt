use Rattle.std.proofs.Common.{◌≡◌, ◌++◌, map, take}
use Rattle.plan_words.specs.CutTable.{exit_row}
use Rattle.plan_words.proofs.plant.PlantTables.push_exits.Given as goal

abbrev pub invariant-loop-exit : goal.invariant-loop-exit
invariant-loop-exit l = l.rows.items ≡ l.initial.rows.items ++ map (exit_row l.self) (take l.exit-index l.exits)
