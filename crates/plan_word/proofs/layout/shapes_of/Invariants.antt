use Rattle.std.proofs.Common.{◌≡◌, ℕ, ◌<◌, length, get_or}
use Rattle.plan_types.specs.Table.{zone_shape, no_shape}
use Rattle.plan_word.proofs.layout.shapes_of.Given as goal

abbrev pub invariant-loop-zone : goal.invariant-loop-zone
invariant-loop-zone l = (length l.shapes ≡ 10) × ((k : ℕ) → k < l.zone → get_or l.shapes k no_shape ≡ zone_shape l.plan k)
