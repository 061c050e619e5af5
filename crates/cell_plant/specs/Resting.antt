-- A turn that an error ends leaves its machine at rest.
use Rattle.std.specs.Prelude.{◌≡◌, false, Bool, Some, ⊤}
use Rattle.cell_rules.specs.Types.{Machine, Feed, Table, Robot, Press, Deposit, Crane, Watch}
use Rattle.cell_devices.specs.declared.motor.Motor.TheVariants.{Off}
use Rattle.cell_control.specs.declared.fault.CtlFault.{CtlFault}
use Rattle.cell_robot.specs.declared.robot.RobotMagnets.{RobotMagnets}
use Rattle.cell_parts.specs.Names.{CellScales}
use Rattle.cell_parts.specs.declared.plant.TablePlant.{TablePlant}
use Rattle.cell_parts.specs.declared.plant.RobotPlant.{RobotPlant}
use Rattle.cell_parts.specs.declared.plant.CranePlant.{CranePlant}
use Rattle.cell_plant.specs.CellStates.{CellState}
use Rattle.cell_plant.specs.Machines.{ProgressOf, PartOf}
use Rattle.cell_plant.specs.Runs.{Step, TakesTurn}

pub record TableRests (t : TablePlant) : Type 0 where
  pub lift : t.lift.motor ≡ Off
  pub turn : t.turn.motor ≡ Off

-- the magnets stay as they were switched last
pub record RobotRests (magnets : RobotMagnets) (r : RobotPlant) : Type 0 where
  pub arm1 : r.arm1.motor ≡ Off
  pub arm2 : r.arm2.motor ≡ Off
  pub rotation : r.rotation.motor ≡ Off
  pub magnet1 : r.magnet1 ≡ magnets.arm1
  pub magnet2 : r.magnet2 ≡ magnets.arm2

pub record CraneRests (on : Bool) (c : CranePlant) : Type 0 where
  pub travel : c.travel.motor ≡ Off
  pub gripper : c.gripper.motor ≡ Off
  pub magnet : c.magnet ≡ on

-- a machine's motors are off, or its belt; its magnets are as its notes say
abbrev pub IsAtRest : (m : Machine) → ProgressOf m → PartOf m → Type 0
IsAtRest Feed p b = b.runs ≡ false
IsAtRest Table p t = TableRests t
IsAtRest Robot p r = RobotRests p.magnets r
IsAtRest Press p a = a.motor ≡ Off
IsAtRest Deposit p b = b.runs ≡ false
IsAtRest Crane p c = CraneRests p.magnet c
IsAtRest Watch p b = ⊤

-- after a turn that stops a machine, once its actuators are set, and once its part has moved
pub record StoppedMachinesRest (c : CellScales) : Type 0 where
  pub set : (m : Machine) (busy : Bool) (w : CellState) (s : Step) (fault : CtlFault) → TakesTurn c m busy w s
      → (s.set.side m).stopped ≡ Some fault → IsAtRest m (w.side m).progress (s.set.side m).part
  pub moved : (m : Machine) (busy : Bool) (w : CellState) (s : Step) (fault : CtlFault) → TakesTurn c m busy w s
      → (s.moved.side m).stopped ≡ Some fault → IsAtRest m (w.side m).progress (s.moved.side m).part
