use Rattle.std.proofs.Common.{◌≡◌, All, map, take}
use Rattle.plan_interlock.specs.Book.{plan_of}
use Rattle.plan_interlock.specs.PlantMake.{OpensSoundly}
use Rattle.plan_app.specs.PlantStarts.{tables_of}
use Rattle.plan_app.proofs.plant_run.openings_of.Given as goal

abbrev pub invariant-loop-word : goal.invariant-loop-word
invariant-loop-word l = record {
  sound : All OpensSoundly l.openings.items;
  rules : map (λ opening. plan_of opening.rules) l.openings.items ≡ tables_of (take l.word l.plans);
  states : map (λ opening. opening.state) l.openings.items ≡ take l.word l.starts;
}
