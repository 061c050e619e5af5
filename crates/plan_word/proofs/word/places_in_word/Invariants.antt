use Rattle.std.proofs.Common.{◌≡◌, ℕ, ◌<◌, length, get_or, false}
use Rattle.plan_word.specs.Reading.{place_told}
use Rattle.plan_word.proofs.word.places_in_word.Given as goal

abbrev pub invariant-loop-place : goal.invariant-loop-place
invariant-loop-place l = (length l.places ≡ 16) × ((k : ℕ) → k < l.place → get_or l.places k false ≡ place_told l.plan l.word k)
