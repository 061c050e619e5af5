use Rattle.std.proofs.Common.{◌≡◌}
use Rattle.plan_word.specs.Reading.{state_told}
use Rattle.plan_word.proofs.Guarding.{coming_below}
use Rattle.plan_word.proofs.guards.is_taken.Given as goal

abbrev pub invariant-loop-zone : goal.invariant-loop-zone
invariant-loop-zone l = coming_below l.plan (state_told l.plan l.word) l.place l.zone ≡ 0
