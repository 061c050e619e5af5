use Rattle.std.proofs.Common.{◌≡◌, ℕ, ◌<◌, length, get_or, None}
use Rattle.plan_types.specs.Bytes as bytes
use Rattle.plan_types.proofs.rows.gives_with.Given as goal

abbrev pub invariant-loop-zone : goal.invariant-loop-zone
invariant-loop-zone l =
    (length l.gives ≡ 10) × ((k : ℕ) → k < l.zone → bytes.posture_byte (get_or l.gives k None) ≡ get_or l.row k 0)
