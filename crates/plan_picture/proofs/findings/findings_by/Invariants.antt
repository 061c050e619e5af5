use Rattle.std.proofs.Common.{◌≡◌, map, take}
use Rattle.plan_picture.specs.Pictures.{found_by}
use Rattle.plan_picture.proofs.findings.findings_by.Given as goal

abbrev pub invariant-verdicts : goal.invariant-verdicts
invariant-verdicts l = l.found.items ≡ map (found_by l.named) (take l.i l.verdicts)
