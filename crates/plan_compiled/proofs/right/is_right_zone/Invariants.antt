use Rattle.std.proofs.Common.{ℕ, ◌<◌}
use Rattle.plan_compiled.specs.Right.{IsRightCode}
use Rattle.plan_compiled.proofs.right.is_right_zone.Given as goal

abbrev pub invariant-loop-code : goal.invariant-loop-code
invariant-loop-code l = (n : ℕ) → n < l.code → IsRightCode l.plan l.asked l.part l.zone n
