use Rattle.std.proofs.Common.{◌≡◌, nat_eq}
use Rattle.plan_types.specs.Below.{any_below}
use Rattle.plan_words.specs.Groups.{label_of}
use Rattle.plan_words.proofs.plant.PlantTables.is_first.Given as goal

abbrev pub invariant-loop-other : goal.invariant-loop-other
invariant-loop-other l = l.again ≡ any_below (λ y. nat_eq (label_of l.labels y) (label_of l.labels l.zone)) l.other
