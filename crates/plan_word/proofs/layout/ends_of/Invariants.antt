use Rattle.std.proofs.Common.{◌≡◌, ℕ, ◌*◌, ◌≤◌, length, get_or}
use Rattle.plan_word.specs.Kept.{ends_in}
use Rattle.plan_word.proofs.layout.ends_of.Given as goal

abbrev pub invariant-loop-zone : goal.invariant-loop-zone
invariant-loop-zone l = record {
  long : length l.ends ≡ 11;
  ends : (k : ℕ) → k ≤ l.zone → get_or l.ends k 0 ≡ ends_in l.shapes k;
  few : get_or l.ends l.zone 0 ≤ 7 * l.zone;
}
