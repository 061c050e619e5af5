use Rattle.std.proofs.Common.{string_bytes}
use Rattle.plan_app.specs.Apart as spec
use Rattle.plan_app.proofs.apart.parts_of.Given as goal

abbrev pub invariant-machines : goal.invariant-machines
invariant-machines l =
    spec.TellsParts (spec.told_of l.plan.named.now l.plan.programs.now l.opening) l.groups l.machine l.well
    (string_bytes l.text)
