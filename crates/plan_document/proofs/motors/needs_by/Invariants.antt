use Rattle.std.proofs.Common.{◌≡◌, ◌<◌, ℕ, None, length, get_or}
use Rattle.plan_motors.specs.Motor.{no_need}
use Rattle.plan_document.specs.Motors.{need}
use Rattle.plan_document.proofs.motors.needs_by.Given as goal

abbrev pub invariant-loop-zone : goal.invariant-loop-zone
invariant-loop-zone l = (length l.needs ≡ 10) × ((k : ℕ) → k < l.zone → get_or l.needs k no_need ≡ need (get_or l.holds k None) (get_or l.stands k None))
