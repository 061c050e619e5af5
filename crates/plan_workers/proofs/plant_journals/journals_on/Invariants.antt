use Rattle.std.proofs.Common.{◌≡◌, map, take}
use Rattle.plan_workers.specs.PlantRecording.{noted_on}
use Rattle.plan_workers.proofs.plant_journals.journals_on.Given as goal

abbrev pub invariant-loop-back : goal.invariant-loop-back
invariant-loop-back g l = map (λ j. j.items) l.journals.items ≡ noted_on l.word (take l.back-index l.backs)
