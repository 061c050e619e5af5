use Rattle.std.proofs.Common.{◌≡◌, ◌++◌, drop}
use Rattle.plan_words.specs.CutTable.{exits_of}
use Rattle.plan_words.specs.PlantCut.{cuts_at}
use Rattle.plan_words.proofs.plant.PlantTables.exits.Given as goal

abbrev pub invariant-loop-zone : goal.invariant-loop-zone
invariant-loop-zone l =
    l.exits.items ++ exits_of (cuts_at l.self l.places) (drop l.zone l.self.zones) ≡ exits_of (cuts_at l.self l.places) l.self.zones
