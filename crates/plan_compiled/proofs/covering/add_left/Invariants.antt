use Rattle.std.proofs.Common.{ℕ, ◌<◌, ◌≡◌, length}
use Rattle.std.specs.Prelude.{bit_and}
use Rattle.plan_compiled.specs.Complete.{HasSet}
use Rattle.plan_compiled.proofs.covering.add_left.Given as goal

abbrev pub invariant-loop-set : goal.invariant-loop-set
invariant-loop-set l = record {
  all : length l.next ≡ 256;
  kept : (x : ℕ) → HasSet l.fn.next x → HasSet l.next x;
  left : (x : ℕ) → x < l.set → HasSet l.sets x → HasSet l.next (bit_and x l.matching);
}
