use Rattle.std.proofs.Common.{◌≡◌, ◌++◌, drop}
use Rattle.plan_words.specs.CutTable.{entries_of}
use Rattle.plan_words.specs.PlantCut.{cuts_at}
use Rattle.plan_words.proofs.plant.PlantTables.entries.Given as goal

abbrev pub invariant-loop-zone : goal.invariant-loop-zone
invariant-loop-zone l =
    l.entries.items ++ entries_of (cuts_at l.self l.places) (drop l.zone l.self.zones) ≡ entries_of (cuts_at l.self l.places) l.self.zones
