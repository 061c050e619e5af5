use Rattle.std.proofs.Common.{◌≡◌, List, map}
use Rattle.plan_drives.specs.Facts.{facts_at}
use Rattle.plan_controller.specs.declared.step.Step.{Step}
use Rattle.plan_controller.specs.Steps.{line_of}
use Rattle.plan_c.specs.Lines.{row_of}
use Rattle.plan_c.proofs.resume.known_at.Given as goal

abbrev pub invariant-loop-before : goal.invariant-loop-before
invariant-loop-before l =
    (steps : List Step) → l.program ≡ map row_of steps → l.known ≡ facts_at l.plan l.machine (map line_of steps) l.before
