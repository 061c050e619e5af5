use Rattle.std.proofs.Common.{◌≡◌, map, take}
use Rattle.plan_app.specs.PlantPictures.{found_on}
use Rattle.plan_app.proofs.plant_picture.findings_by.Given as goal

abbrev pub invariant-keepers : goal.invariant-keepers
invariant-keepers l = l.found.items ≡ map (found_on l.plans) (take l.i l.keepers)
