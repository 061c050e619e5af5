-- The calibration of the table's program: of its rotation.
use Rattle.cell_sensors.specs.declared.calibration.Calibration.{Calibration}
use Rattle.cell_sensors.specs.declared.gauge.Gauge.{Ghosts}
use Rattle.cell_table_press.specs.declared.table.TableProgram.{TableProgram}

module _ {F : Type 0} {g : Ghosts F} where
  abbrev pub turn_in : TableProgram F g → Calibration F g
  turn_in program = program.turn
