-- A position between two pairs is what the curve reads.
use Rattle.std.proofs.Common.{ℕ, ◌+◌, ◌-◌, ◌<◌, ◌≤◌, ℤ, pos, ◌+ℤ◌, List, length}
use Rattle.std.specs.Int.Signed.{le_z, lt_z, le_z_yes, lt_z_yes}
use Rattle.std.specs.Prelude.{T}
use Rattle.cell_sensors.specs.Names.{height_of, line_height, Pair, pair_at, raw_at, IsRising, IsOnCurve, line_through}
use Rattle.cell_sensors.specs.CurveExamples.{Reads}
use Rattle.cell_sensors.proofs.CurveReadings.{one_on_curve}

-- a position between the i-th pair and the next
pub reads : (pairs : List Pair) (i raw : ℕ) (v : ℤ) → IsRising pairs → i < length pairs - 1 → raw_at pairs i ≤ raw → raw ≤ raw_at pairs (i + 1)
    → T (le_z (height_of (line_through (pair_at pairs i) (pair_at pairs (i + 1))) v) (line_height (line_through (pair_at pairs i) (pair_at pairs (i + 1))) raw))
    → T (lt_z (line_height (line_through (pair_at pairs i) (pair_at pairs (i + 1))) raw) (height_of (line_through (pair_at pairs i) (pair_at pairs (i + 1))) (v +ℤ pos 1)))
    → Reads pairs raw v
reads pairs i raw v rising within from to low high =
    let is : IsOnCurve pairs raw v = record {
      left = i;
      neighbours = record { within = within; from = from; to = to };
      rounded = record { not_above = le_z_yes low; next_above = lt_z_yes high };
    } in
    (is, λ other also. one_on_curve pairs raw v other rising is also)
