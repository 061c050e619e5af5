use Rattle.std.proofs.Common.{◌≡◌, ◌+◌, filter}
use Rattle.std.specs.List.{range_with_len}
use Rattle.plan_document.specs.OnWord.{has_number}
use Rattle.plan_document.proofs.parts.pose_numbers.Given as goal

abbrev pub invariant-loop-nth : goal.invariant-loop-nth
invariant-loop-nth l = l.own.items ≡ filter (λ k. has_number l.numbers (l.first + k)) (range_with_len 0 l.nth)
