use Rattle.std.proofs.Common.{ℕ, ◌<◌, ◌≤◌}
use Rattle.plan_rules.specs.State.{plates_for}
use Rattle.plan_word.proofs.sound.has_one_plate_a_place.Given as goal

abbrev pub invariant-loop-place : goal.invariant-loop-place
invariant-loop-place l = (p : ℕ) → p < l.place → plates_for l.plan l.state p ≤ 1
