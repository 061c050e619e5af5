use Rattle.std.proofs.Common.{◌≡◌}
use Rattle.plan_types.specs.Below.{any_below}
use Rattle.plan_drives.specs.Facts.{gives}
use Rattle.plan_drives.proofs.facts.some_gives.Given as goal

abbrev pub invariant-loop-pose : goal.invariant-loop-pose
invariant-loop-pose l = l.some ≡ any_below (gives l.plan l.zone l.posture) l.pose
