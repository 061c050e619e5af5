-- Examples of directions and drives in figures.
use Rattle.std.specs.Prelude.{◌≡◌, ℤ, pos, neg_ℤ, ◌*ℤ◌, ◌+ℤ◌, Some, None}
use Rattle.cell_sensors.specs.Scale.{Scale, IsScale, scale_by}
use Rattle.cell_devices.specs.Drives.{DrivesTo, MovesLine, ReadsLine, coarsest_tol, narrowest_half}
use Rattle.cell_devices.specs.Limits.{retracted_to, travel_from}
use Rattle.cell_devices.specs.Motors.{latest, motor_of}
use Rattle.cell_devices.specs.declared.motor.Direction.TheVariants.{Plus as Upward, Minus as Downward}
use Rattle.cell_devices.specs.declared.motor.Motor.{Motor}
use Rattle.cell_devices.specs.declared.motor.Motor.TheVariants.{Off, Plus, Minus}

-- a motor that is off leaves the last direction as it is
pub record DirectionExamples : Type 0 where
  pub up_then_off : latest Upward Off ≡ Upward
  pub up_then_up : latest Upward Plus ≡ Upward
  pub up_then_down : latest Upward Minus ≡ Downward
  pub down_then_off : latest Downward Off ≡ Downward
  pub down_then_up : latest Downward Plus ≡ Upward
  pub down_then_down : latest Downward Minus ≡ Downward
  pub goes_up : motor_of Upward ≡ Plus
  pub goes_down : motor_of Downward ≡ Minus

-- a scale whose raw values are its positions, with a tolerance of 5
abbrev pub scale : Scale
scale = scale_by 0 1000 (pos 0) (pos 1000) (pos 5)

-- it may read 5 more or less than the position
pub record ReadingExamples : Type 0 where
  pub too_much : ReadsLine scale 341 (pos 5) (pos 346)
  pub too_little : ReadsLine scale 341 (pos 5) (pos 336)
  pub far_too_much : ¬ ReadsLine scale 341 (pos 5) (pos 347)
  pub far_too_little : ¬ ReadsLine scale 341 (pos 5) (pos 335)
  pub other_tolerance : ¬ ReadsLine scale 341 (pos 6) (pos 341)
  pub no_scale : ¬ ReadsLine (scale_by 0 1000 (pos 0) (pos 1000) (pos 11)) 341 (pos 11) (pos 341)
  pub below_0 : ReadsLine (scale_by 10 110 (neg_ℤ (pos 1000)) (neg_ℤ (pos 900)) (pos 2)) 60 (pos 2) (neg_ℤ (pos 948))

-- a drive to 300, which is off within 40 of it
abbrev pub Goes : ℤ → Motor → Type 0
Goes read motor = MovesLine (pos 300) (pos 40) (pos 5) read motor

-- off where the position may be 341 or 259; up where it may be 300 already, and down likewise
pub record LineExamples : Type 0 where
  pub off_above : ¬ Goes (pos 336) Off
  pub off_below : ¬ Goes (pos 264) Off
  pub up_there : ¬ Goes (pos 295) Plus
  pub down_there : ¬ Goes (pos 305) Minus
  pub off_in_time : Goes (pos 335) Off
  pub up_in_time : Goes (pos 294) Plus
  pub down_in_time : Goes (pos 306) Minus
  pub off_below_0 : ¬ MovesLine (neg_ℤ (pos 500)) (pos 40) (pos 5) (neg_ℤ (pos 464)) Off
  pub up_below_0 : ¬ MovesLine (neg_ℤ (pos 500)) (pos 40) (pos 5) (neg_ℤ (pos 505)) Plus

-- the motor of a drive to 300, which is off within 40 of it less the tolerance, by the tolerance and the reading
abbrev pub Stops : ℤ → ℤ → Motor → Type 0
Stops tol read motor = DrivesTo (Some (record { target = pos 300; half = 40 })) tol read motor

pub record StopExamples : Type 0 where
  pub up : Stops (pos 10) (pos 269) Plus
  pub lowest : Stops (pos 10) (pos 270) Off
  pub highest : Stops (pos 10) (pos 330) Off
  pub down : Stops (pos 10) (pos 331) Minus
  pub not_off : ¬ Stops (pos 10) (pos 331) Off
  pub not_up : ¬ Stops (pos 10) (pos 270) Plus
  pub not_down : ¬ Stops (pos 10) (pos 330) Minus
  pub lowest_by_1 : Stops (pos 1) (pos 261) Off
  pub up_by_1 : Stops (pos 1) (pos 260) Plus
  pub highest_by_1 : Stops (pos 1) (pos 339) Off
  pub down_by_1 : Stops (pos 1) (pos 340) Minus
  pub below_0 : DrivesTo (Some (record { target = neg_ℤ (pos 100); half = 20 })) (pos 5) (neg_ℤ (pos 116)) Plus
  pub no_stop : DrivesTo None (pos 1) (pos 340) Off
  pub no_stop_up : ¬ DrivesTo None (pos 1) (pos 0) Plus
  pub no_stop_down : ¬ DrivesTo None (pos 1) (pos 340) Minus

-- an arm is retracted up to 5 millimetres, and the crane travels from 80 millimetres; the window of the narrowest stop
-- is twice the coarsest tolerance of a scale
pub record LimitExamples : Type 0 where
  pub retracted : retracted_to ≡ pos 10 *ℤ pos 5
  pub travels : travel_from ≡ pos 10 *ℤ pos 80
  pub window : pos narrowest_half ≡ pos 2 *ℤ coarsest_tol
  pub coarsest : IsScale (scale_by 0 1 (pos 0) (pos 1) coarsest_tol)
  pub coarser : ¬ IsScale (scale_by 0 1 (pos 0) (pos 1) (coarsest_tol +ℤ pos 1))

pub record DevicesAreMet : Type 0 where
  pub directions : DirectionExamples
  pub readings : ReadingExamples
  pub lines : LineExamples
  pub stops : StopExamples
  pub limits : LimitExamples
