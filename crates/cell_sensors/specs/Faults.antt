-- What is wrong with a machine's sensors, in words.
use Rattle.std.specs.Prelude.{ℕ, List, codes}
use Rattle.cell_sensors.specs.declared.sense.SensorFault.{SensorFault}
use Rattle.cell_sensors.specs.declared.sense.SensorFault.TheVariants.{Low, High, Clash}

abbrev pub sensor_fault_text : SensorFault → List ℕ
sensor_fault_text Low = codes "a raw value is below the least of its calibration"
sensor_fault_text High = codes "a raw value is above the greatest of its calibration"
sensor_fault_text Clash = codes "two switches are on that exclude each other"
