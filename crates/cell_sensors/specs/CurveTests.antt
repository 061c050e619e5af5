-- Whether pairs make a curve, as tests that compute.
use Rattle.std.specs.Prelude.{ℕ, ◌-◌, ℤ, pos, ◌+ℤ◌, ◌-ℤ◌, ◌*ℤ◌, Bool, true, ◌&&◌, ◌==◌, nat_le, nat_lt, int_le, List}
use Rattle.std.specs.Prelude.{[], ◌∷◌, length}
use Rattle.std.specs.List.{list_all}
use Rattle.cell_sensors.specs.Scale.{Scale}
use Rattle.cell_sensors.specs.Line.{raw_width, height_of, line_height}
use Rattle.cell_sensors.specs.Curve.{Pair, raw_at}

abbrev pub is_line_near : Scale → ℕ → ℤ → ℤ → Bool
is_line_near s raw v d =
    int_le (height_of s v) (line_height s raw +ℤ d *ℤ raw_width s)
    && int_le (line_height s raw) (height_of s v +ℤ d *ℤ raw_width s)

abbrev pub is_near_pair : Scale → Pair → Bool
is_near_pair s pair = is_line_near s pair.0 pair.1 (s.tol -ℤ pos 1) && (int_le s.at_lo pair.1 && int_le pair.1 s.at_hi)

abbrev pub is_rising : List Pair → Bool
is_rising [] = true
is_rising (pair ∷ []) = true
is_rising (pair ∷ next ∷ more) = nat_lt pair.0 next.0 && is_rising (next ∷ more)

abbrev pub has_count : List Pair → Bool
has_count pairs = nat_le 2 (length pairs) && nat_le (length pairs) 32

abbrev pub has_ends : Scale → List Pair → Bool
has_ends s pairs = (raw_at pairs 0 == s.raw_lo) && (raw_at pairs (length pairs - 1) == s.raw_hi)

abbrev pub is_curve : Scale → List Pair → Bool
is_curve s pairs = has_count pairs && (has_ends s pairs && (is_rising pairs && list_all (is_near_pair s) pairs))
