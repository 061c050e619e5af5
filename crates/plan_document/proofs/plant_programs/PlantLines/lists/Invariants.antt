use Rattle.std.proofs.Common.{map, take}
use Rattle.std.specs.List.{AllZip}
use Rattle.plan_document.specs.Names.{numbered}
use Rattle.plan_document.specs.PlantPrograms.{IsRoutedProgram}
use Rattle.plan_document.proofs.plant_programs.PlantLines.lists.Given as goal

abbrev pub invariant-loop-i : goal.invariant-loop-i
invariant-loop-i l = AllZip (IsRoutedProgram l.self.document.now l.self.words.now l.self.made.now.plans.items) (numbered (take l.i l.self.document.now.machines.items)) (map (λ list. list.items) l.lists.items)
