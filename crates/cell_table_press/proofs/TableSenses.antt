-- A gauge's value is near its line, so a turn is also one of the program that knows only that.
use Rattle.std.proofs.Common.{ℕ, ℤ, Result, Ok, Err}
use Rattle.cell_sensors.specs.Names.{Scale, IsReading}
use Rattle.cell_sensors.specs.declared.sense.TableSense.{TableSense}
use Rattle.cell_sensors.specs.declared.sense.SensorFault.{SensorFault}
use Rattle.cell_sensors.specs.declared.sense.SensorFault.TheVariants.{Low, High, Clash}
use Rattle.cell_table_press.specs.Names.{Senses}
use Rattle.cell_table_press.specs.declared.table.TableReading.{TableReading}

pub senses_near : (points : Scale) (gives : ℕ → ℤ → Type 0) (s : TableSense) (r : Result TableReading SensorFault) → Senses points gives s r → Senses points (IsReading points) s r
senses_near points gives s (Ok r) k = record { no_clash = k.no_clash; first = k.first; last = k.last; near = k.near; given = k.near; switches = k.switches }
senses_near points gives s (Err Clash) k = k
senses_near points gives s (Err Low) k = k
senses_near points gives s (Err High) k = k
