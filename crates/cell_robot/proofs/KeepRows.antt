-- What the robot keeps at each step is what the examples say.
use Rattle.std.proofs.Common.{◌≡◌, Bool, true, false, ◌&&◌, refl, ap}
use Rattle.cell_rules.specs.Types.{Robot, Z2, Z3, Z4, OpenIn, OpenOut}
use Rattle.cell_rules.specs.Names.{ModelState, zone_at}
use Rattle.cell_control.specs.Keeping.{are_kept}
use Rattle.cell_robot.specs.declared.robot.RobotStep.{RobotStep}
use Rattle.cell_robot.specs.declared.robot.RobotStep.TheVariants.{TurnToTable, AwaitPlate, ReachTable, GripPlate}
use Rattle.cell_robot.specs.declared.robot.RobotStep.TheVariants.{LeaveTable, TakePlate, ReleaseTable, TurnToLoad}
use Rattle.cell_robot.specs.declared.robot.RobotStep.TheVariants.{ClaimPress, InspectPress, ReleasePress, ReachToLoad}
use Rattle.cell_robot.specs.declared.robot.RobotStep.TheVariants.{DropInPress, LeaveLoaded, GiveToPress, TurnToUnload}
use Rattle.cell_robot.specs.declared.robot.RobotStep.TheVariants.{AwaitForged, ReachToUnload, GripForged}
use Rattle.cell_robot.specs.declared.robot.RobotStep.TheVariants.{LeaveUnloaded, TakeForged, ReleaseUnloaded}
use Rattle.cell_robot.specs.declared.robot.RobotStep.TheVariants.{TurnToDeposit, ClaimDeposit, ReachDeposit}
use Rattle.cell_robot.specs.declared.robot.RobotStep.TheVariants.{DropOnDeposit, LeaveDeposit, GiveToDeposit}
use Rattle.cell_robot.specs.RobotExamples.{at, magnets, noted}
use Rattle.cell_robot.specs.RobotKeeps.{in_step, zones_at}
use Rattle.cell_robot.specs.KeepExamples.{has, has_empty, has_loaded, lends, stands, zones_are_at, plates_are_at, magnets_are_at, notes_are, KeepsAreMet}

-- two zones, each in a posture or in any; and three
uu : (a b : Bool) → ((a && true) && ((b && true) && true)) ≡ (a && b)
uu true true = refl
uu true false = refl
uu false b = refl

pu : (a b : Bool) → (a && ((b && true) && true)) ≡ (a && b)
pu true b = uu true b
pu false b = refl

up : (a b : Bool) → ((a && true) && (b && true)) ≡ (a && b)
up true true = refl
up true false = refl
up false b = refl

t : (a b c : Bool) → (a && ((b && true) && ((c && true) && true))) ≡ (a && (b && c))
t true b c = uu b c
t false b c = refl

zones_keep : (z : ModelState) (step : RobotStep) → are_kept (zones_at step) Robot z ≡ zones_are_at step (zone_at z Z2) (zone_at z Z3) (zone_at z Z4)
zones_keep z TurnToTable = uu (lends (zone_at z Z3)) (lends (zone_at z Z4))
zones_keep z AwaitPlate = uu (lends (zone_at z Z3)) (lends (zone_at z Z4))
zones_keep z ReachTable = t (has_loaded (zone_at z Z2) && stands (zone_at z Z2) OpenOut) (lends (zone_at z Z3)) (lends (zone_at z Z4))
zones_keep z GripPlate = t (has_loaded (zone_at z Z2) && stands (zone_at z Z2) OpenOut) (lends (zone_at z Z3)) (lends (zone_at z Z4))
zones_keep z LeaveTable = t (has_loaded (zone_at z Z2) && stands (zone_at z Z2) OpenOut) (lends (zone_at z Z3)) (lends (zone_at z Z4))
zones_keep z TakePlate = t (has_loaded (zone_at z Z2) && stands (zone_at z Z2) OpenOut) (lends (zone_at z Z3)) (lends (zone_at z Z4))
zones_keep z ReleaseTable = t (has_empty (zone_at z Z2) && stands (zone_at z Z2) OpenOut) (lends (zone_at z Z3)) (lends (zone_at z Z4))
zones_keep z TurnToLoad = uu (lends (zone_at z Z3)) (lends (zone_at z Z4))
zones_keep z ClaimPress = uu (lends (zone_at z Z3)) (lends (zone_at z Z4))
zones_keep z InspectPress = uu (has (zone_at z Z3)) (lends (zone_at z Z4))
zones_keep z ReleasePress = uu (has (zone_at z Z3)) (lends (zone_at z Z4))
zones_keep z ReachToLoad = pu (has (zone_at z Z3) && stands (zone_at z Z3) OpenIn) (lends (zone_at z Z4))
zones_keep z DropInPress = pu (has (zone_at z Z3) && stands (zone_at z Z3) OpenIn) (lends (zone_at z Z4))
zones_keep z LeaveLoaded = pu (has (zone_at z Z3) && stands (zone_at z Z3) OpenIn) (lends (zone_at z Z4))
zones_keep z GiveToPress = pu (has (zone_at z Z3) && stands (zone_at z Z3) OpenIn) (lends (zone_at z Z4))
zones_keep z TurnToUnload = uu (lends (zone_at z Z3)) (lends (zone_at z Z4))
zones_keep z AwaitForged = uu (lends (zone_at z Z3)) (lends (zone_at z Z4))
zones_keep z ReachToUnload = pu (has_loaded (zone_at z Z3) && stands (zone_at z Z3) OpenOut) (lends (zone_at z Z4))
zones_keep z GripForged = pu (has_loaded (zone_at z Z3) && stands (zone_at z Z3) OpenOut) (lends (zone_at z Z4))
zones_keep z LeaveUnloaded = pu (has_loaded (zone_at z Z3) && stands (zone_at z Z3) OpenOut) (lends (zone_at z Z4))
zones_keep z TakeForged = pu (has_loaded (zone_at z Z3) && stands (zone_at z Z3) OpenOut) (lends (zone_at z Z4))
zones_keep z ReleaseUnloaded = pu (has_empty (zone_at z Z3) && stands (zone_at z Z3) OpenOut) (lends (zone_at z Z4))
zones_keep z TurnToDeposit = uu (lends (zone_at z Z3)) (lends (zone_at z Z4))
zones_keep z ClaimDeposit = uu (lends (zone_at z Z3)) (lends (zone_at z Z4))
zones_keep z ReachDeposit = up (lends (zone_at z Z3)) (has (zone_at z Z4) && stands (zone_at z Z4) OpenIn)
zones_keep z DropOnDeposit = up (lends (zone_at z Z3)) (has (zone_at z Z4) && stands (zone_at z Z4) OpenIn)
zones_keep z LeaveDeposit = up (lends (zone_at z Z3)) (has (zone_at z Z4) && stands (zone_at z Z4) OpenIn)
zones_keep z GiveToDeposit = up (lends (zone_at z Z3)) (has (zone_at z Z4) && stands (zone_at z Z4) OpenIn)

abbrev others : ModelState → RobotStep → Bool → Bool → Bool → Bool → Bool → Bool
others z step first second fed on1 on2 = plates_are_at step first second fed && (notes_are z first second fed && magnets_are_at step first second on1 on2)

robot_keeps : (z : ModelState) (step : RobotStep) (first second fed on1 on2 : Bool)
    → in_step (at step (noted first second fed) (magnets on1 on2)) z ≡ (zones_are_at step (zone_at z Z2) (zone_at z Z3) (zone_at z Z4) && others z step first second fed on1 on2)
robot_keeps z TurnToTable first second fed on1 on2 = ap (λ x. x && others z TurnToTable first second fed on1 on2) (zones_keep z TurnToTable)
robot_keeps z AwaitPlate first second fed on1 on2 = ap (λ x. x && others z AwaitPlate first second fed on1 on2) (zones_keep z AwaitPlate)
robot_keeps z ReachTable first second fed on1 on2 = ap (λ x. x && others z ReachTable first second fed on1 on2) (zones_keep z ReachTable)
robot_keeps z GripPlate first second fed on1 on2 = ap (λ x. x && others z GripPlate first second fed on1 on2) (zones_keep z GripPlate)
robot_keeps z LeaveTable first second fed on1 on2 = ap (λ x. x && others z LeaveTable first second fed on1 on2) (zones_keep z LeaveTable)
robot_keeps z TakePlate first second fed on1 on2 = ap (λ x. x && others z TakePlate first second fed on1 on2) (zones_keep z TakePlate)
robot_keeps z ReleaseTable first second fed on1 on2 = ap (λ x. x && others z ReleaseTable first second fed on1 on2) (zones_keep z ReleaseTable)
robot_keeps z TurnToLoad first second fed on1 on2 = ap (λ x. x && others z TurnToLoad first second fed on1 on2) (zones_keep z TurnToLoad)
robot_keeps z ClaimPress first second fed on1 on2 = ap (λ x. x && others z ClaimPress first second fed on1 on2) (zones_keep z ClaimPress)
robot_keeps z InspectPress first second fed on1 on2 = ap (λ x. x && others z InspectPress first second fed on1 on2) (zones_keep z InspectPress)
robot_keeps z ReleasePress first second fed on1 on2 = ap (λ x. x && others z ReleasePress first second fed on1 on2) (zones_keep z ReleasePress)
robot_keeps z ReachToLoad first second fed on1 on2 = ap (λ x. x && others z ReachToLoad first second fed on1 on2) (zones_keep z ReachToLoad)
robot_keeps z DropInPress first second fed on1 on2 = ap (λ x. x && others z DropInPress first second fed on1 on2) (zones_keep z DropInPress)
robot_keeps z LeaveLoaded first second fed on1 on2 = ap (λ x. x && others z LeaveLoaded first second fed on1 on2) (zones_keep z LeaveLoaded)
robot_keeps z GiveToPress first second fed on1 on2 = ap (λ x. x && others z GiveToPress first second fed on1 on2) (zones_keep z GiveToPress)
robot_keeps z TurnToUnload first second fed on1 on2 = ap (λ x. x && others z TurnToUnload first second fed on1 on2) (zones_keep z TurnToUnload)
robot_keeps z AwaitForged first second fed on1 on2 = ap (λ x. x && others z AwaitForged first second fed on1 on2) (zones_keep z AwaitForged)
robot_keeps z ReachToUnload first second fed on1 on2 = ap (λ x. x && others z ReachToUnload first second fed on1 on2) (zones_keep z ReachToUnload)
robot_keeps z GripForged first second fed on1 on2 = ap (λ x. x && others z GripForged first second fed on1 on2) (zones_keep z GripForged)
robot_keeps z LeaveUnloaded first second fed on1 on2 = ap (λ x. x && others z LeaveUnloaded first second fed on1 on2) (zones_keep z LeaveUnloaded)
robot_keeps z TakeForged first second fed on1 on2 = ap (λ x. x && others z TakeForged first second fed on1 on2) (zones_keep z TakeForged)
robot_keeps z ReleaseUnloaded first second fed on1 on2 = ap (λ x. x && others z ReleaseUnloaded first second fed on1 on2) (zones_keep z ReleaseUnloaded)
robot_keeps z TurnToDeposit first second fed on1 on2 = ap (λ x. x && others z TurnToDeposit first second fed on1 on2) (zones_keep z TurnToDeposit)
robot_keeps z ClaimDeposit first second fed on1 on2 = ap (λ x. x && others z ClaimDeposit first second fed on1 on2) (zones_keep z ClaimDeposit)
robot_keeps z ReachDeposit first second fed on1 on2 = ap (λ x. x && others z ReachDeposit first second fed on1 on2) (zones_keep z ReachDeposit)
robot_keeps z DropOnDeposit first second fed on1 on2 = ap (λ x. x && others z DropOnDeposit first second fed on1 on2) (zones_keep z DropOnDeposit)
robot_keeps z LeaveDeposit first second fed on1 on2 = ap (λ x. x && others z LeaveDeposit first second fed on1 on2) (zones_keep z LeaveDeposit)
robot_keeps z GiveToDeposit first second fed on1 on2 = ap (λ x. x && others z GiveToDeposit first second fed on1 on2) (zones_keep z GiveToDeposit)

pub keeps_are_met : KeepsAreMet
keeps_are_met = record {
  numbers = record {
    all = refl;
    turns = refl;
    takes = refl;
    claims = refl;
    gives = refl;
    awaits = refl;
    releases = refl;
    gives_on = refl;
  };
  robot = robot_keeps;
}
