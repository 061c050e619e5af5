-- The invariant of each machine's side; it holds in every state of a run of the cell.
use Rattle.cell_plant.proofs.Names.{refl, sym, ap, Machine, Feed, Table, Robot, Press, Deposit, Crane, Watch, ModelState, IsStartState, deposit_steps, feed_steps, press_steps, table_steps, table_at_start, feed_rig, table_rig, press_rig, deposit_rig, AreCellScales, Keeping, With, demands_kept, ProgressOf, PartOf, robot_points, steps_of, rig_of, side_in, sides_at_start}
use Rattle.cell_sensors.specs.Line.{IsReading}
use Rattle.cell_parts.specs.Names.{CellScales}
use Rattle.cell_plant.proofs.CraneKeeps.{CraneInv, CraneTold, crane-start, crane-keeping}
use Rattle.cell_plant.proofs.BeltKeeps.{FeedInv, FeedRuns, feed-start, feed-keeping, feed-demanding}
use Rattle.cell_plant.proofs.BeltKeeps.{DepositInv, DepositRuns, deposit-start, deposit-keeping, deposit-demanding}
use Rattle.cell_plant.proofs.PressKeeps.{PressInv, PressMoves, press-start, press-keeping, press-demanding}
use Rattle.cell_plant.proofs.TableKeeps.{TableInv, TableDrives, off_stands, table-start, table-keeping, table-demanding}
use Rattle.cell_plant.proofs.RobotKeeps.{RobotInv, robot-start, robot-keeping}
use Rattle.cell_plant.proofs.WatchKeeps.{WatchInv, watch-keeping}

abbrev pub InvOf : (m : Machine) → ModelState → ProgressOf m → PartOf m → Type 0
InvOf Feed = With FeedInv FeedRuns
InvOf Table = With TableInv TableDrives
InvOf Robot = RobotInv
InvOf Press = With PressInv PressMoves
InvOf Deposit = With DepositInv DepositRuns
InvOf Crane = CraneInv
InvOf Watch = WatchInv

-- after their motors' commands; only for the crane more is known then: where its axes will stay
abbrev pub ToldOf : (m : Machine) → ModelState → ProgressOf m → PartOf m → Type 0
ToldOf Crane = CraneTold
ToldOf m = InvOf m

pub keeping_of : (c : CellScales) → AreCellScales c → (m : Machine) → Keeping (steps_of c m) (rig_of c m) (InvOf m) (ToldOf m)
keeping_of c k Feed = demands_kept feed_steps feed_rig FeedInv FeedInv FeedRuns feed-keeping feed-demanding
keeping_of c k Table = demands_kept (table_steps c.turn (IsReading c.turn)) (table_rig c.turn) TableInv TableInv TableDrives (table-keeping c.turn k.turn) (table-demanding c.turn)
keeping_of c k Robot = robot-keeping (robot_points c) (record { arm1 = k.arm1; arm2 = k.arm2; rotation = k.rotation })
keeping_of c k Press = demands_kept press_steps press_rig PressInv PressInv PressMoves press-keeping press-demanding
keeping_of c k Deposit = demands_kept deposit_steps deposit_rig DepositInv DepositInv DepositRuns deposit-keeping deposit-demanding
keeping_of c k Crane = crane-keeping c.gripper k.gripper
keeping_of c k Watch = watch-keeping

pub starts : (s : ModelState) → IsStartState s → (m : Machine) → InvOf m s (side_in (sides_at_start s) m).progress (side_in (sides_at_start s) m).part
starts s k Feed = (feed-start s, λ runs. cc)
starts s k Table = (table-start s k, λ on. absurd (off_stands table_at_start refl refl on))
starts s k Robot = robot-start s
starts s k Press = (press-start s k, λ on. absurd (on refl))
starts s k Deposit = (deposit-start s, λ runs. cc)
starts s k Crane = crane-start s
starts s k Watch = sym (ap (λ (z : ModelState). z.stopped) k.same)
