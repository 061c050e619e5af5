-- The press's step by its number, and the step that is in step with a state.
use Rattle.std.specs.Prelude.{ℕ, ◌/◌, ◌%◌, nat_eq, if◌then◌else◌, Option, option_map, slice_get}
use Rattle.cell_rules.specs.Types.{PressIn, PressOut}
use Rattle.cell_devices.specs.declared.motor.Direction.{Direction}
use Rattle.cell_devices.specs.declared.motor.Direction.TheVariants.{Plus as Upward, Minus as Downward}
use Rattle.cell_rules.specs.Names.{ModelState, is_full}
use Rattle.cell_table_press.specs.declared.press.PressProgress.{PressProgress}
use Rattle.cell_table_press.specs.declared.press.PressStep.{PressStep}
pub use Rattle.cell_table_press.specs.PressProgram.{in_step, steps}

-- the last direction of its motor, which the state doesn't tell
abbrev pub bit_of : Direction → ℕ
bit_of Upward = 1
bit_of Downward = 0

abbrev pub direction_of : ℕ → Direction
direction_of number = if nat_eq (number % 2) 1 then Upward else Downward

-- a step, with its notes by the state, but for the direction
abbrev pub standing : ℕ → ModelState → PressStep → PressProgress
standing number s step =
    record { step = step; loaded = is_full s PressIn; forged = is_full s PressOut; direction = direction_of number }

-- the step with this number
abbrev pub progress_at : ℕ → ModelState → Option PressProgress
progress_at number s =
    option_map (standing number s)
    (slice_get steps (number / 2))
