-- The answer to a configuration.
use Rattle.std.specs.Prelude.{◌≡◌, ℕ, List, [], ◌∷◌, map, Result, Ok, Err, ⊤}
use Rattle.cell_sensors.specs.Names.{Scale, Curved, pairs_of}
use Rattle.cell_parts.specs.Axes.{AreCellScales, CellScales}
use Rattle.cell_config.specs.Settings.{Settings, settings_of}
use Rattle.cell_config.specs.declared.configuration.Config.{Config}
use Rattle.cell_config.specs.declared.fault.ConfigFault.{ConfigFault}
use Rattle.cell_config.specs.declared.fault.ConfigFault.TheVariants.{Read, Memory}

-- the settings that a configuration holds
abbrev pub shown : Config → Settings
shown config = record {
  start = config.start;
  schedule = config.schedule.items;
  points = config.points;
  curves = map pairs_of config.curves;
}

-- An error is the first fault of the bytes, a failed read and out of memory apart.
abbrev pub Refuses : List ℕ → ConfigFault → Type 0
Refuses bytes Read = ⊤
Refuses bytes Memory = ⊤
Refuses bytes fault = settings_of bytes ≡ Err fault

-- The answer is what the bytes say.
abbrev pub Says : List ℕ → Result Config ConfigFault → Type 0
Says bytes (Ok config) = settings_of bytes ≡ Ok (shown config)
Says bytes (Err fault) = Refuses bytes fault

-- the scales of a cell, in the order of their keys
abbrev pub in_order : CellScales → List Scale
in_order cell = cell.arm1 ∷ cell.arm2 ∷ cell.rotation ∷ cell.turn ∷ cell.gripper ∷ []

-- the five scales fit the axes of a cell
abbrev pub AreAxisScales : List Scale → Type 0
AreAxisScales points = (cell : CellScales) × (points ≡ in_order cell) × AreCellScales cell

-- each curve is near the line of the points in its place
abbrev pub AreCurvesOf : List Scale → List Curved → Type 0
AreCurvesOf points curves = map (λ curve. curve.scale) curves ≡ points
