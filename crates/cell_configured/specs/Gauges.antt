-- The five potentiometers' gauges.
use Rattle.std.specs.Prelude.{ℕ, ℤ}
use Rattle.cell_plant.specs.Machines.{CellGauges}

-- what five gauges may give
abbrev pub gauges_by : (arm1 arm2 rotation turn gripper : ℕ → ℤ → Type 0) → CellGauges
gauges_by arm1 arm2 rotation turn gripper =
    record { arm1 = arm1; arm2 = arm2; rotation = rotation; turn = turn; gripper = gripper }
