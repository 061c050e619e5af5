use Rattle.std.proofs.Common.{◌<◌, ◌&&◌, ℕ, false, not, get_or, IsTrue}
use Rattle.plan_document.proofs.motors.check_places.Given as goal

abbrev pub invariant-loop-place : goal.invariant-loop-place
invariant-loop-place l = (k : ℕ) → k < l.place → IsTrue (not (get_or l.full k false && get_or l.empty k false))
