use Rattle.std.proofs.Common.{map}
use Rattle.plan_workers.proofs.PlantExplaining.{AreExplained}
use Rattle.plan_workers.proofs.plant_audit.audit_plant.Given as goal

abbrev pub invariant-loop-word : goal.invariant-loop-word
invariant-loop-word l = AreExplained l.words (map (λ history. history.items) l.histories.items) l.word
