-- A run by what gauges may give is one by what others may give that give as much. So it is a run by readings near the
-- lines.
use Rattle.cell_plant.proofs.Names.{ℕ, ℤ, Bool, true, false, List, [], ◌∷◌, Result, Ok, Err, Machine, Table, Robot, Crane, Scale, IsReading, CraneSense, RobotSense, SensorFault, Clash, TableSense, crane_steps, CraneReading, RobotGauges, RobotScales, robot_steps, RobotReading, table_steps, TableReading, TurnCall, RunRecord, Turn, acts_still, table_rig, robot_rig, crane_rig, TellsRun, CellGauges, any_near, robot_gauges}
use Rattle.cell_plant.proofs.Names.{robot_points, steps_by, rig_of, SideOf, CellState, cell_at_start, SeesRun, SeesBeginning, Step, TakesTurnBy, LeadsIfBy, goes_on, IsRun, IsRunBy, Frame, SeenFault, RunsAreByGauges}
use Rattle.cell_belts_crane.specs.CraneProgram.{Senses as CraneSenses}
use Rattle.cell_robot.specs.RobotProgram.{Senses as RobotSenses}
use Rattle.cell_table_press.specs.TableProgram.{Senses as TableSenses}
use Rattle.cell_rules.specs.ModelState.{ModelState}
use Rattle.cell_unit.specs.UnitTurns.{Takes}
use Rattle.cell_parts.specs.Names.{CellScales}

-- near a line, what one gauge gives another gives
abbrev pub Gives : Scale → (ℕ → ℤ → Type 0) → (ℕ → ℤ → Type 0) → Type 0
Gives s gives other = (raw : ℕ) (v : ℤ) → IsReading s raw v → gives raw v → other raw v

pub record GiveAsMuch (c : CellScales) (gives other : CellGauges) : Type 0 where
  pub arm1 : Gives c.arm1 gives.arm1 other.arm1
  pub arm2 : Gives c.arm2 gives.arm2 other.arm2
  pub rotation : Gives c.rotation gives.rotation other.rotation
  pub turn : Gives c.turn gives.turn other.turn
  pub gripper : Gives c.gripper gives.gripper other.gripper

pub table_as : (points : Scale) (gives other : ℕ → ℤ → Type 0) → Gives points gives other → (s : TableSense) (r : Result TableReading SensorFault) → TableSenses points gives s r → TableSenses points other s r
table_as points gives other f s (Ok r) k = record { no_clash = k.no_clash; first = k.first; last = k.last; near = k.near; given = f s.turn r.turn k.near k.given; switches = k.switches }
table_as points gives other f s (Err Clash) k = k
table_as points gives other f s (Err _) k = k

pub crane_as : (points : Scale) (gives other : ℕ → ℤ → Type 0) → Gives points gives other → (s : CraneSense) (r : Result CraneReading SensorFault) → CraneSenses points gives s r → CraneSenses points other s r
crane_as points gives other f s (Ok r) k = record { no_clash = k.no_clash; at_least = k.at_least; at_most = k.at_most; near = k.near; given = f s.gripper r.gripper k.near k.given; switches = k.switches; high = k.high }
crane_as points gives other f s (Err Clash) k = k
crane_as points gives other f s (Err _) k = k

pub robot_as : (points : RobotScales) (gives other : RobotGauges) → Gives points.arm1 gives.arm1 other.arm1 → Gives points.arm2 gives.arm2 other.arm2 → Gives points.rotation gives.rotation other.rotation
    → (s : RobotSense) (r : Result RobotReading SensorFault) → RobotSenses points gives s r → RobotSenses points other s r
robot_as points gives other f h e s (Ok r) k =
    record {
      arm1 = (k.arm1.0, (k.arm1.1.0, f s.arm1 r.arm1 k.arm1.1.0 k.arm1.1.1));
      arm2 = (k.arm2.0, (k.arm2.1.0, h s.arm2 r.arm2 k.arm2.1.0 k.arm2.1.1));
      rotation = (k.rotation.0, (k.rotation.1.0, e s.rotation r.rotation k.rotation.1.0 k.rotation.1.1));
      retracted = k.retracted;
    }
robot_as points gives other f h e s (Err fault) k = k

module _ (c : CellScales) (gives other : CellGauges) (f : GiveAsMuch c gives other) where
  takes_as : (m : Machine) (busy : Bool) (z y : ModelState) (before set : SideOf m) (asked : TurnCall)
      → Takes (steps_by c gives m) (rig_of c m) busy z before asked y set → Takes (steps_by c other m) (rig_of c m) busy z before asked y set
  takes_as Table busy z y before set asked k =
      acts_still (table_steps c.turn gives.turn) (table_rig c.turn) (TableSenses c.turn other.turn) (table_as c.turn gives.turn other.turn f.turn) _ _ before set asked k
  takes_as Robot busy z y before set asked k =
      acts_still (robot_steps (robot_points c) (robot_gauges gives)) (robot_rig (robot_points c)) (RobotSenses (robot_points c) (robot_gauges other))
      (robot_as (robot_points c) (robot_gauges gives) (robot_gauges other) f.arm1 f.arm2 f.rotation) _ _ before set asked k
  takes_as Crane busy z y before set asked k =
      acts_still (crane_steps c.gripper gives.gripper) (crane_rig c.gripper) (CraneSenses c.gripper other.gripper) (crane_as c.gripper gives.gripper other.gripper f.gripper) _ _ before set asked k
  takes_as m busy z y before set asked k = k

  turn_as : (m : Machine) (busy : Bool) (w : CellState) (s : Step) → TakesTurnBy c gives m busy w s → TakesTurnBy c other m busy w s
  turn_as m busy w s k = assumption (takes_as m busy w.interlock s.set.interlock (w.side m) (s.set.side m) s.asked k.takes)

  leads_as : (b : Bool) (m : Machine) (busy : Bool) (w : CellState) (s : Step) → LeadsIfBy b c gives m busy w s → LeadsIfBy b c other m busy w s
  leads_as true m busy w s k = turn_as m busy w s k
  leads_as false m busy w s k = k

  pub run_as : (w : CellState) (ts : List Turn) (ss : List Step) → IsRunBy c gives w ts ss → IsRunBy c other w ts ss
  run_as w [] [] r = tt
  run_as w (t ∷ ts) (s ∷ ss) r = (r.0, (leads_as (goes_on w t.machine) t.machine t.busy w s r.1.0, run_as s.moved ts ss r.1.1))
  run_as w _ _ r = absurd r

  pub tells_as : (opening : ModelState) (turns : List Turn) (r : RunRecord) → TellsRun c gives opening turns r → TellsRun c other opening turns r
  tells_as opening turns r k = record { steps = k.steps; run = run_as (cell_at_start opening) turns k.steps k.run; told = k.told; safe = k.safe; legal = k.legal; reached = k.reached }

pub run_near : (c : CellScales) (gives : CellGauges) (w : CellState) (ts : List Turn) (ss : List Step) → IsRunBy c gives w ts ss → IsRun c w ts ss
run_near c gives = run_as c gives (any_near c) (record { arm1 = λ raw v near given. near; arm2 = λ raw v near given. near; rotation = λ raw v near given. near; turn = λ raw v near given. near; gripper = λ raw v near given. near })

-- likewise for what an observer sees
module _ {W E : Type 0} (sees : W → Frame → Result (Unit {0}) E → W → Type 0) (c : CellScales) (gives other : CellGauges) (f : GiveAsMuch c gives other) (opening : ModelState) (turns : List Turn) (w v : W) where
  pub sees_as : (r : RunRecord) → SeesRun sees c gives opening turns w v r → SeesRun sees c other opening turns w v r
  unfolding tells_as
  sees_as r k = record { tells = tells_as c gives other f opening turns r k.tells; seen = k.seen }

  pub beginning_as : (fault : SeenFault E) → SeesBeginning sees c gives opening turns w v fault → SeesBeginning sees c other opening turns w v fault
  beginning_as fault k =
      record { taken = k.taken; rest = k.rest; begins = k.begins; cut = k.cut; steps = k.steps; run = run_as c gives other f (cell_at_start opening) k.taken k.steps k.run; seen = k.seen }

pub by_gauges : (c : CellScales) (gives : CellGauges) → RunsAreByGauges c gives
by_gauges c gives =
    record {
      reads = record { turn = λ s r k. k.given; gripper = λ s r k. k.given; arm1 = λ s r k. k.arm1.1.1; arm2 = λ s r k. k.arm2.1.1; rotation = λ s r k. k.rotation.1.1 };
      curves = λ arm1 arm2 rotation turn gripper raw v. record { first = (λ k. k, λ k. k); second = (λ k. k, λ k. k); third = (λ k. k, λ k. k); fourth = (λ k. k, λ k. k); fifth = (λ k. k, λ k. k) };
      near = run_near c gives;
    }
