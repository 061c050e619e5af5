use Rattle.std.proofs.Common.{ℕ, ◌<◌}
use Rattle.plan_compiled.specs.Complete.{HasBit, MatchesAt}
use Rattle.plan_compiled.proofs.covering.matching.Given as goal

abbrev pub invariant-loop-at : goal.invariant-loop-at
invariant-loop-at l = (k : ℕ) → k < l.at → HasBit l.set k → MatchesAt l.layout l.rows l.span l.field l.number k
