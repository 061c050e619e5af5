use Rattle.std.proofs.Common.{◌≡◌}
use Rattle.plan_types.specs.Below.{any_below}
use Rattle.plan_types.specs.Table.{gives}
use Rattle.plan_types.proofs.sheet.Sheet.any_gives.Given as goal

abbrev pub invariant-loop-pose : goal.invariant-loop-pose
invariant-loop-pose l = l.given ≡ any_below (gives l.self l.zone l.posture) l.pose
