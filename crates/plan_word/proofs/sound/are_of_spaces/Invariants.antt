use Rattle.std.proofs.Common.{ℕ, ◌<◌}
use Rattle.plan_rules.specs.Sound.{IsOfSpace}
use Rattle.plan_word.proofs.sound.are_of_spaces.Given as goal

abbrev pub invariant-loop-zone : goal.invariant-loop-zone
invariant-loop-zone l = (z : ℕ) → z < l.zone → IsOfSpace l.plan l.state z
