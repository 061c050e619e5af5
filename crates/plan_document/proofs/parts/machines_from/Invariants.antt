use Rattle.std.proofs.Common.{◌≡◌, ◌++◌, map, drop}
use Rattle.plan_document.specs.OnWord.{machines_from}
use Rattle.plan_document.specs.Texts.{machine_texts}
use Rattle.plan_document.proofs.parts.machines_from.Given as goal

abbrev pub invariant-machines : goal.invariant-machines
invariant-machines l =
    map machine_texts l.made.items ++ machines_from l.zones l.places l.poses l.first (map machine_texts (drop l.i l.rows))
    ≡ machines_from l.zones l.places l.poses 0 (map machine_texts l.rows)
