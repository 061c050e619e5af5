use Rattle.std.proofs.Common.{◌≡◌, map, take}
use Rattle.plan_app.specs.PlantStarts.{tables_of}
use Rattle.plan_app.proofs.plant_apart.tables_of.Given as goal

abbrev pub invariant-loop-word : goal.invariant-loop-word
invariant-loop-word l = map (λ table. table.now) l.tables.items ≡ tables_of (take l.word l.plans)
