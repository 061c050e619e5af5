use Rattle.std.proofs.Common.{◌≡◌, ◌++◌, map, take}
use Rattle.plan_words.specs.CutTable.{entry_row}
use Rattle.plan_words.proofs.plant.PlantTables.push_entries.Given as goal

abbrev pub invariant-loop-entry : goal.invariant-loop-entry
invariant-loop-entry l = l.rows.items ≡ l.initial.rows.items ++ map (entry_row l.self) (take l.entry-index l.entries)
