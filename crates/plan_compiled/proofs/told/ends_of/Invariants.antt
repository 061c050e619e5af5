use Rattle.std.proofs.Common.{ℕ, ◌≡◌, ◌<◌, length, get_or}
use Rattle.plan_compiled.specs.Ends.{IsEnd}
use Rattle.plan_compiled.proofs.told.ends_of.Given as goal

abbrev pub invariant-loop-code : goal.invariant-loop-code
invariant-loop-code l = record {
  all : length l.ends ≡ 32;
  ends : (n : ℕ) → n < l.code → IsEnd l.plan l.zone n (get_or l.ends n 0);
}
