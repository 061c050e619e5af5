use Rattle.std.proofs.Common.{◌≡◌, map, take}
use Rattle.plan_app.specs.PlantRunTexts as spec
use Rattle.plan_app.proofs.plant_run_text.all_of.Given as goal

abbrev pub invariant-words : goal.invariant-words
invariant-words l = l.events.items ≡ spec.all_of (map (λ h. h.items) (take l.word l.histories))
