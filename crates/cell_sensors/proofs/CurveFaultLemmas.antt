-- Pairs have one first fault.
use Rattle.std.proofs.Common.{◌≡◌, List, refl}
use Rattle.cell_sensors.specs.Names.{Scale, Pair}
use Rattle.cell_sensors.specs.declared.curve.CurveFault.{CurveFault}
use Rattle.cell_sensors.specs.declared.curve.CurveFault.TheVariants.{Count}
use Rattle.cell_sensors.specs.CurveFaults.{IsFirstFault}
use Rattle.cell_sensors.specs.declared.curve.CurveFault.TheVariants.{Ends, Order, OffLine}

pub one_fault : (s : Scale) (pairs : List Pair) (f g : CurveFault) → IsFirstFault s pairs f → IsFirstFault s pairs g → g ≡ f
one_fault s pairs Count Count one other = refl
one_fault s pairs Count g one other = absurd (one other.0)
one_fault s pairs f Count one other = absurd (other one.0)
one_fault s pairs Ends Ends one other = refl
one_fault s pairs Ends g one other = absurd (one.1 other.1)
one_fault s pairs f Ends one other = absurd (other.1 one.1)
one_fault s pairs Order OffLine one other = absurd (one.2 other.2)
one_fault s pairs OffLine Order one other = absurd (other.2 one.2)
one_fault s pairs f g one other = refl
