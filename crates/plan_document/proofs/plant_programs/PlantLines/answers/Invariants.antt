use Rattle.std.proofs.Common.{map, take, string_bytes}
use Rattle.std.specs.List.{AllZip}
use Rattle.plan_document.specs.PlantPrograms.{IsRouted}
use Rattle.plan_document.proofs.plant_programs.PlantLines.answers.Given as goal

abbrev pub invariant-loop-item : goal.invariant-loop-item
invariant-loop-item l = AllZip (IsRouted l.self.document.now l.self.words.now l.self.made.now.plans.items l.machine) (map string_bytes (take l.item l.lines)) l.answers.items
