-- Why pairs make no curve.
use Rattle.std.specs.Prelude.{List}
use Rattle.cell_sensors.specs.Scale.{Scale}
use Rattle.cell_sensors.specs.Curve.{Pair, HasCount, HasEnds, IsRising, AreNearLine}
use Rattle.cell_sensors.specs.declared.curve.CurveFault.{CurveFault}
use Rattle.cell_sensors.specs.declared.curve.CurveFault.TheVariants.{Count, Ends, Order, OffLine}

-- the pairs have this fault, and none before it
abbrev pub IsFirstFault : Scale → List Pair → CurveFault → Type 0
IsFirstFault s pairs Count = ¬ (HasCount pairs)
IsFirstFault s pairs Ends = HasCount pairs × (¬ (HasEnds s pairs))
IsFirstFault s pairs Order = HasCount pairs × HasEnds s pairs × (¬ (IsRising pairs))
IsFirstFault s pairs OffLine = HasCount pairs × HasEnds s pairs × IsRising pairs × (¬ (AreNearLine s pairs))
