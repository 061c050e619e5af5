use Rattle.std.proofs.Common.{◌≡◌, ◌++◌, ◌+◌, ◌*◌, ◌≤◌, drop}
use Rattle.plan_words.specs.CutTable.{zones_cut}
use Rattle.plan_words.specs.PlantCut.{cuts_at}
use Rattle.plan_words.proofs.plant.PlantTables.zones_cut.Given as goal

abbrev pub invariant-loop-zone : goal.invariant-loop-zone
invariant-loop-zone l =
    (l.rows.items ++ zones_cut (cuts_at l.self l.places) l.next.exit l.next.entry (drop l.zone l.self.zones)
    ≡ zones_cut (cuts_at l.self l.places) l.fn.first.exit l.fn.first.entry l.self.zones)
    × (l.next.exit ≤ l.fn.first.exit + 2 * l.zone) × (l.next.entry ≤ l.fn.first.entry + 2 * l.zone)
