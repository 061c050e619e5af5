use Rattle.std.proofs.Common.{◌≡◌, ℕ, ◌<◌, length, get_or, false}
use Rattle.plan_motors.specs.Exclusion.{place_in}
use Rattle.plan_motors.proofs.exclusion.places_for.Given as goal

abbrev pub invariant-loop-place : goal.invariant-loop-place
invariant-loop-place l = (length l.places ≡ 16) × ((k : ℕ) → k < l.place → get_or l.places k false ≡ place_in l.plan l.first l.second k)
