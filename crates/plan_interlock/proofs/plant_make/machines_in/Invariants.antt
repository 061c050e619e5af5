use Rattle.std.proofs.Common.{◌≡◌, All, take}
use Rattle.plan_interlock.specs.PlantMake.{machines_of}
use Rattle.plan_interlock.proofs.plant_make.machines_in.Given as goal

abbrev pub invariant-loop-word : goal.invariant-loop-word
invariant-loop-word l = All (λ w. machines_of w ≡ l.machines) (take l.word-index l.words)
