use Rattle.std.proofs.Common.{◌≡◌}
use Rattle.plan_types.specs.Below.{first_below}
use Rattle.plan_text.specs.Names.{number_if}
use Rattle.plan_text.proofs.names.Names.number_of.Given as goal

abbrev pub invariant-loop-number : goal.invariant-loop-number
invariant-loop-number l = l.found ≡ first_below (number_if l.self l.name) l.number
