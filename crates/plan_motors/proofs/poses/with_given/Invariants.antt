use Rattle.std.proofs.Common.{◌≡◌, ℕ, ◌<◌, length, get_or, false}
use Rattle.plan_motors.specs.Poses.{is_any_before}
use Rattle.plan_motors.proofs.poses.with_given.Given as goal

abbrev pub invariant-loop-zone : goal.invariant-loop-zone
invariant-loop-zone l = (length l.more ≡ 10) × ((k : ℕ) → k < l.zone → get_or l.more k false ≡ is_any_before l.plan l.any l.pose k)
