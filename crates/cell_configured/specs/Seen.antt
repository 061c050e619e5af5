-- What is seen of a run of a configured cell.
use Rattle.std.specs.Prelude.{◌≡◌, List, Result, map}
use Rattle.cell_sensors.specs.Curve.{pairs_of}
use Rattle.cell_notes.specs.declared.run_record.RunRecord.{RunRecord}
use Rattle.cell_notes.specs.declared.schedule.Turn.{Turn}
use Rattle.cell_parts.specs.Axes.{CellScales}
use Rattle.cell_plant.specs.Names.{SeesBeginning, SeesRun, on_curves}
use Rattle.cell_plant.specs.declared.frame.Frame.{Frame}
use Rattle.cell_plant.specs.declared.observer.SeenFault.{SeenFault}
use Rattle.cell_config.specs.Configured.{in_order}
use Rattle.cell_config.specs.declared.configuration.Config.{Config}

-- an observer has seen the whole run of a schedule by scales with the configuration's points: each reading is the one
-- on its curve
abbrev pub SeesConfigured : {W E : Type 0} → (W → Frame → Result (Unit {0}) E → W → Type 0) → Config → List Turn → W
    → W → RunRecord → Type 0
SeesConfigured sees config turns w v run = (c : CellScales) × ((config.points ≡ in_order c)
    × SeesRun sees c (on_curves (map pairs_of config.curves)) config.start turns w v run)

-- or its beginning, up to a fault
abbrev pub SeesItsBeginning : {W E : Type 0} → (W → Frame → Result (Unit {0}) E → W → Type 0) → Config → List Turn → W
    → W → SeenFault E → Type 0
SeesItsBeginning sees config turns w v fault = (c : CellScales) × ((config.points ≡ in_order c)
    × SeesBeginning sees c (on_curves (map pairs_of config.curves)) config.start turns w v fault)
