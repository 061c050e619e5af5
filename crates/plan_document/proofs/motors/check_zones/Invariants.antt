use Rattle.std.proofs.Common.{◌<◌, ℕ, None, get_or, IsTrue}
use Rattle.plan_document.specs.Motors.{is_under_one}
use Rattle.plan_document.proofs.motors.check_zones.Given as goal

abbrev pub invariant-loop-zone : goal.invariant-loop-zone
invariant-loop-zone l = (k : ℕ) → k < l.zone → IsTrue (is_under_one (get_or l.holds k None) (get_or l.stands k None))
