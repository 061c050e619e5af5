use Rattle.std.proofs.Common.{ℕ, ◌<◌, IsTrue}
use Rattle.plan_rules.specs.State.{posture_at}
use Rattle.plan_rules.specs.Sound.{is_open}
use Rattle.plan_drives.specs.Facts.{some_gives}
use Rattle.plan_drives.proofs.in_step.opens_by_poses.Given as goal

abbrev pub invariant-loop-zone : goal.invariant-loop-zone
invariant-loop-zone l =
    (z : ℕ) → z < l.zone → IsTrue (is_open (posture_at l.state z)) → IsTrue (some_gives l.plan z (posture_at l.state z))
