use Rattle.std.proofs.Common.{◌≡◌, ℕ, ◌<◌, length, get_or, false}
use Rattle.plan_c.specs.Starts.{is_full_in}
use Rattle.plan_c.proofs.places.places_of.Given as goal

abbrev pub invariant-loop-place : goal.invariant-loop-place
invariant-loop-place l = (length l.full ≡ 16) × ((k : ℕ) → k < l.place → get_or l.full k false ≡ is_full_in l.digits k)
