use Rattle.std.proofs.Common.{◌≡◌, List, map, take}
use Rattle.plan_controller.specs.declared.step.Step.{Step}
use Rattle.plan_c.specs.Lines.{row_of}
use Rattle.plan_c.proofs.resume.are_steps.Given as goal

abbrev pub invariant-loop-line : goal.invariant-loop-line
invariant-loop-line l = (steps : List Step) × (take l.line l.program ≡ map row_of steps)
