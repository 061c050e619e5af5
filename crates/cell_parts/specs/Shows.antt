-- What the sensors of the plant show.
use Rattle.std.specs.Prelude.{◌≡◌, ℕ, ℤ, pos, ◌≤ℤ◌, ◌<ℤ◌, ◌↔◌, ◌⊎◌, IsTrue, Option, IsSomeAnd}
use Rattle.cell_sensors.specs.Names.{Scale, IsRawAt, RobotScales}
use Rattle.cell_sensors.specs.declared.sense.FeedSense.{FeedSense}
use Rattle.cell_sensors.specs.declared.sense.TableSense.{TableSense}
use Rattle.cell_sensors.specs.declared.sense.RobotSense.{RobotSense}
use Rattle.cell_sensors.specs.declared.sense.PressSense.{PressSense}
use Rattle.cell_sensors.specs.declared.sense.DepositSense.{DepositSense}
use Rattle.cell_sensors.specs.declared.sense.CraneSense.{CraneSense}
use Rattle.cell_parts.specs.declared.axis.Axis.{Axis}
use Rattle.cell_parts.specs.declared.belt.Belt.{Belt}
use Rattle.cell_parts.specs.Axes.{Span, IsIn}
use Rattle.cell_parts.specs.declared.plant.TablePlant.{TablePlant}
use Rattle.cell_parts.specs.declared.plant.RobotPlant.{RobotPlant}
use Rattle.cell_parts.specs.declared.plant.CranePlant.{CranePlant}

-- the positions of the switches
abbrev pub press_bottom_to : ℤ
press_bottom_to = pos 10

abbrev pub press_middle : Span
press_middle = record { first = pos 490; last = pos 510 }

abbrev pub press_top_from : ℤ
press_top_from = pos 990

abbrev pub table_bottom_to : ℤ
table_bottom_to = pos 10

abbrev pub table_top_from : ℤ
table_top_from = pos 590

abbrev pub crane_deposit_to : ℤ
crane_deposit_to = pos 10

abbrev pub crane_feed_from : ℤ
crane_feed_from = pos 1990

abbrev pub IsPressBottom : ℤ → Type 0
IsPressBottom p = p ≤ℤ press_bottom_to

abbrev pub IsPressMiddle : ℤ → Type 0
IsPressMiddle p = IsIn press_middle p

abbrev pub IsPressTop : ℤ → Type 0
IsPressTop p = press_top_from ≤ℤ p

abbrev pub IsTableBottom : ℤ → Type 0
IsTableBottom p = p ≤ℤ table_bottom_to

abbrev pub IsTableTop : ℤ → Type 0
IsTableTop p = table_top_from ≤ℤ p

abbrev pub IsCraneAtDeposit : ℤ → Type 0
IsCraneAtDeposit p = p ≤ℤ crane_deposit_to

abbrev pub IsCraneAtFeed : ℤ → Type 0
IsCraneAtFeed p = crane_feed_from ≤ℤ p

-- a plate is in the barrier
abbrev pub barrier : Span
barrier = record { first = pos 900; last = pos 999 }

abbrev pub IsInBarrier : Option ℤ → Type 0
IsInBarrier plate = IsSomeAnd plate (λ p. IsIn barrier p)

-- what a potentiometer shows: the raw value of the position, rounded down; beyond its points, the nearer point's
pub record ShowsRaw (scale : Scale) (position : ℤ) (raw : ℕ) : Type 0 where
  pub between : scale.at_lo ≤ℤ position → position ≤ℤ scale.at_hi → IsRawAt scale position raw
  pub below : position <ℤ scale.at_lo → raw ≡ scale.raw_lo
  pub above : scale.at_hi <ℤ position → raw ≡ scale.raw_hi

pub record PressShows (a : Axis) (s : PressSense) : Type 0 where
  pub bottom : IsTrue s.bottom ↔ IsPressBottom a.position
  pub middle : IsTrue s.middle ↔ IsPressMiddle a.position
  pub top : IsTrue s.top ↔ IsPressTop a.position

pub record TableShows (scale : Scale) (t : TablePlant) (s : TableSense) : Type 0 where
  pub bottom : IsTrue s.bottom ↔ IsTableBottom t.lift.position
  pub top : IsTrue s.top ↔ IsTableTop t.lift.position
  pub raw : ShowsRaw scale t.turn.position s.turn

pub record RobotShows (scales : RobotScales) (r : RobotPlant) (s : RobotSense) : Type 0 where
  pub arm1 : ShowsRaw scales.arm1 r.arm1.position s.arm1
  pub arm2 : ShowsRaw scales.arm2 r.arm2.position s.arm2
  pub rotation : ShowsRaw scales.rotation r.rotation.position s.rotation

pub record CraneShows (scale : Scale) (c : CranePlant) (s : CraneSense) : Type 0 where
  pub deposit : IsTrue s.deposit ↔ IsCraneAtDeposit c.travel.position
  pub feed : IsTrue s.feed ↔ IsCraneAtFeed c.travel.position
  pub raw : ShowsRaw scale c.gripper.position s.gripper

-- the barrier sees a plate of its belt, either one
abbrev pub SeesPlate : Belt → Type 0
SeesPlate b = IsInBarrier b.entry ⊎ IsInBarrier b.last

pub record FeedShows (b : Belt) (s : FeedSense) : Type 0 where
  pub barrier : IsTrue s.barrier ↔ SeesPlate b

pub record DepositShows (b : Belt) (s : DepositSense) : Type 0 where
  pub barrier : IsTrue s.barrier ↔ SeesPlate b
