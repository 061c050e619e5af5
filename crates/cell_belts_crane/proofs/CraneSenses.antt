-- A gauge's value is near its line, so a turn is also one of the program that knows only that.
use Rattle.std.proofs.Common.{ℕ, ℤ, Result, Ok, Err}
use Rattle.cell_sensors.specs.Names.{Scale, IsReading}
use Rattle.cell_sensors.specs.declared.sense.CraneSense.{CraneSense}
use Rattle.cell_sensors.specs.declared.sense.SensorFault.{SensorFault}
use Rattle.cell_sensors.specs.declared.sense.SensorFault.TheVariants.{Low, High, Clash}
use Rattle.cell_belts_crane.specs.Names.{Senses}
use Rattle.cell_belts_crane.specs.declared.crane.CraneReading.{CraneReading}

pub senses_near : (points : Scale) (gives : ℕ → ℤ → Type 0) (s : CraneSense) (r : Result CraneReading SensorFault) → Senses points gives s r → Senses points (IsReading points) s r
senses_near points gives s (Ok r) k = record { no_clash = k.no_clash; at_least = k.at_least; at_most = k.at_most; near = k.near; given = k.near; switches = k.switches; high = k.high }
senses_near points gives s (Err Clash) k = k
senses_near points gives s (Err _) k = k
