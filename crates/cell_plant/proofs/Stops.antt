-- An axis that is driven to stops by its potentiometer: the reading is near the position, the axis is at the stop once
-- its motor is off there, and it isn't driven on past an end.
use Rattle.cell_plant.proofs.Names.{◌≡◌, ◌≢◌, ℕ, ℤ, pos, ◌+ℤ◌, ◌-ℤ◌, ◌<ℤ◌, ◌≤ℤ◌, Bool, true, inl, inr, Option, Some, None, refl, arith, ⊤, ints, Scale, raw_width, IsNear, IsReading, near_position_lem, DrivesTo, Motor, Off, IsAxisScale, IsWithin, Span, IsIn, set_axis, ShowsRaw, DrivesPast, Axis}
use Rattle.cell_devices.specs.declared.stops.Stop.{Stop}

-- a reading is within the tolerance of the axis's position
pub reading_near : (end : ℤ) (points : Scale) (position : ℤ) (raw : ℕ) (read : ℤ) → IsAxisScale end points → IsWithin end position → ShowsRaw points position raw → IsReading points raw read → IsNear read position points.tol
reading_near end points position raw read k within shows near =
    let first : points.at_lo ≡ pos 0 = k.from in
    let last : points.at_hi ≡ end = k.to in
    let many : end ≤ℤ raw_width points = k.wide in
    let wide : (points.at_hi -ℤ points.at_lo) ≤ℤ raw_width points = omega (arith, ints) in
    near_position_lem points position read raw k.scale wide (shows.between (rw k.from within.first) (rw k.to within.last)) near.near

-- where the drive to a stop ends
abbrev pub span_of : Stop → Span
span_of stop = record { first = stop.target -ℤ pos stop.half; last = stop.target +ℤ pos stop.half }

at_stop_by : (target half tol read position : ℤ) → IsNear read position tol → IsNear read target (half -ℤ tol) → ((target -ℤ half) ≤ℤ position) × (position ≤ℤ (target +ℤ half))
at_stop_by target half tol read position near off = (omega (arith, ints), omega (arith, ints))

pub at_stop : (stop : Stop) (tol read position : ℤ) → IsNear read position tol → IsNear read stop.target (pos stop.half -ℤ tol) → IsIn (span_of stop) position
at_stop stop tol read position near off = at_stop_by stop.target (pos stop.half) tol read position near off

-- a stop between the ends, wide enough
abbrev pub StopsWithin : ℤ → Option Stop → Type 0
StopsWithin end None = ⊤
StopsWithin end (Some stop) = (pos 0 ≤ℤ stop.target) × (stop.target ≤ℤ end) × (pos 20 ≤ℤ pos stop.half)

below_first : (position target half tol read : ℤ) → pos 0 ≤ℤ target → pos 20 ≤ℤ half → tol ≤ℤ pos 10 → IsNear read position tol → (target +ℤ (half -ℤ tol)) <ℤ read → position ≡ pos 0 → ⊥
below_first position target half tol read a w b near over e = absurd (omega (arith, ints))

above_last : (end position target half tol read : ℤ) → target ≤ℤ end → pos 20 ≤ℤ half → tol ≤ℤ pos 10 → IsNear read position tol → read <ℤ (target -ℤ (half -ℤ tol)) → position ≡ end → ⊥
above_last end position target half tol read a w b near under e = absurd (omega (arith, ints))

-- a motor that is off isn't on
pub not_on : (b : Bool) → Off ≢ Off → b ≡ true
not_on b on = absurd (on refl)

pub off_within : (end : ℤ) (a : Axis) → a.motor ≡ Off → ¬ DrivesPast end a
off_within end a e (inl past) = let minus = past.1 in cc
off_within end a e (inr past) = let plus = past.1 in cc

pub driven_within : (end : ℤ) (points : Scale) (a : Axis) (stop : Option Stop) (read : ℤ) (m : Motor) → IsAxisScale end points → IsNear read a.position points.tol → StopsWithin end stop → DrivesTo stop points.tol read m → ¬ DrivesPast end (set_axis a m)
driven_within end points a None read m k near within drives past = off_within end (set_axis a m) drives past
driven_within end points a (Some stop) read m k near within drives (inl past) = below_first a.position stop.target (pos stop.half) points.tol read within.0 within.2 k.scale.coarsest near (drives.minus.0 past.1) past.0
driven_within end points a (Some stop) read m k near within drives (inr past) = above_last end a.position stop.target (pos stop.half) points.tol read within.1 within.2 k.scale.coarsest near (drives.plus.0 past.1) past.0
