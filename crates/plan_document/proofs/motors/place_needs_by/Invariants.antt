use Rattle.std.proofs.Common.{◌≡◌, ◌<◌, ℕ, None, false, length, get_or}
use Rattle.plan_document.specs.Motors.{full_or_empty}
use Rattle.plan_document.proofs.motors.place_needs_by.Given as goal

abbrev pub invariant-loop-place : goal.invariant-loop-place
invariant-loop-place l = (length l.needs ≡ 16) × ((k : ℕ) → k < l.place → get_or l.needs k None ≡ full_or_empty (get_or l.full k false) (get_or l.empty k false))
