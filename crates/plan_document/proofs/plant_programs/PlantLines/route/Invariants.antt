use Rattle.std.proofs.Common.{ℕ, ◌<◌, None}
use Rattle.plan_document.specs.PlantPrograms.{AsksOnWord}
use Rattle.plan_document.proofs.plant_programs.PlantLines.route.Given as goal

abbrev pub invariant-words : goal.invariant-words
invariant-words l = (w : ℕ) → w < l.word → AsksOnWord l.self.document.now l.self.words.now l.self.made.now.plans.items w l.machine l.line None
