-- Axes stay within their ends.
use Rattle.cell_plant.proofs.Names.{ℤ, pos, ◌≤ℤ◌, arith, ints, clamps, Motor, Off, Plus, Minus, IsWithin, moved_to, moved_axis, Axis}

-- an axis that moves stays within its ends
moved_by : (end p : ℤ) (motor : Motor) → pos 0 ≤ℤ end → IsWithin end p → IsWithin end (moved_to end p motor)
moved_by end p Off some k = k
moved_by end p Plus some k = omega (arith, ints, clamps)
moved_by end p Minus some k = omega (arith, ints, clamps)

pub moved_within : (end : ℤ) (a : Axis) → pos 0 ≤ℤ end → IsWithin end a.position → IsWithin end (moved_axis end a).position
moved_within end a some k = moved_by end a.position a.motor some k
