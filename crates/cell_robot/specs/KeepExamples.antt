-- What the robot has at each step: it is in step with a state exactly if it has this.
use Rattle.std.specs.Prelude.{◌≡◌, ◌+◌, nat_eq, Bool, true, ◌&&◌, ◌||◌, not, map}
use Rattle.std.specs.List.{range_with_len}
use Rattle.cell_rules.specs.Types.{Robot, Z2, Z3, Z4, Arm1, Arm2, PressIn, PressOut, Posture, OpenIn, OpenOut}
use Rattle.cell_rules.specs.Types.{same_posture}
use Rattle.cell_rules.specs.Names.{ModelState, is_full, is_owned_by, one_if, same_flag, zone_at}
use Rattle.cell_rules.specs.declared.zones.ZoneState.{ZoneState}
use Rattle.cell_robot.specs.declared.robot.RobotStep.{RobotStep}
use Rattle.cell_robot.specs.declared.robot.RobotStep.TheVariants.{TurnToTable, ReachTable, GripPlate}
use Rattle.cell_robot.specs.declared.robot.RobotStep.TheVariants.{LeaveTable, TakePlate, ReleaseTable, TurnToLoad}
use Rattle.cell_robot.specs.declared.robot.RobotStep.TheVariants.{ClaimPress, InspectPress, ReleasePress, ReachToLoad}
use Rattle.cell_robot.specs.declared.robot.RobotStep.TheVariants.{DropInPress, LeaveLoaded, GiveToPress, TurnToUnload}
use Rattle.cell_robot.specs.declared.robot.RobotStep.TheVariants.{AwaitForged, ReachToUnload, GripForged}
use Rattle.cell_robot.specs.declared.robot.RobotStep.TheVariants.{LeaveUnloaded, TakeForged, ReleaseUnloaded}
use Rattle.cell_robot.specs.declared.robot.RobotStep.TheVariants.{TurnToDeposit, ClaimDeposit, ReachDeposit}
use Rattle.cell_robot.specs.declared.robot.RobotStep.TheVariants.{DropOnDeposit, LeaveDeposit, GiveToDeposit}
use Rattle.cell_robot.specs.RobotExamples.{at, magnets, noted}
use Rattle.cell_robot.specs.RobotKeeps.{in_step, number_at, steps}

-- it has the zone; no plate is on its way there, or one is; and if it has the zone, one is
abbrev pub has : ZoneState → Bool
has v = is_owned_by v.owner Robot

abbrev pub has_empty : ZoneState → Bool
has_empty v = has v && not v.flag

abbrev pub has_loaded : ZoneState → Bool
has_loaded v = has v && v.flag

abbrev pub lends : ZoneState → Bool
lends v = not (has v) || v.flag

abbrev pub stands : ZoneState → Posture → Bool
stands v posture = same_posture v.posture posture

-- its zones with the table, the press and the deposit belt
abbrev pub zones_are_at : RobotStep → ZoneState → ZoneState → ZoneState → Bool
zones_are_at ReachTable table interior deposit = (has_loaded table && stands table OpenOut) && (lends interior && lends deposit)
zones_are_at GripPlate table interior deposit = (has_loaded table && stands table OpenOut) && (lends interior && lends deposit)
zones_are_at LeaveTable table interior deposit = (has_loaded table && stands table OpenOut) && (lends interior && lends deposit)
zones_are_at TakePlate table interior deposit = (has_loaded table && stands table OpenOut) && (lends interior && lends deposit)
zones_are_at ReleaseTable table interior deposit = (has_empty table && stands table OpenOut) && (lends interior && lends deposit)
zones_are_at InspectPress table interior deposit = has interior && lends deposit
zones_are_at ReleasePress table interior deposit = has interior && lends deposit
zones_are_at ReachToLoad table interior deposit = (has interior && stands interior OpenIn) && lends deposit
zones_are_at DropInPress table interior deposit = (has interior && stands interior OpenIn) && lends deposit
zones_are_at LeaveLoaded table interior deposit = (has interior && stands interior OpenIn) && lends deposit
zones_are_at GiveToPress table interior deposit = (has interior && stands interior OpenIn) && lends deposit
zones_are_at ReachToUnload table interior deposit = (has_loaded interior && stands interior OpenOut) && lends deposit
zones_are_at GripForged table interior deposit = (has_loaded interior && stands interior OpenOut) && lends deposit
zones_are_at LeaveUnloaded table interior deposit = (has_loaded interior && stands interior OpenOut) && lends deposit
zones_are_at TakeForged table interior deposit = (has_loaded interior && stands interior OpenOut) && lends deposit
zones_are_at ReleaseUnloaded table interior deposit = (has_empty interior && stands interior OpenOut) && lends deposit
zones_are_at ReachDeposit table interior deposit = lends interior && (has deposit && stands deposit OpenIn)
zones_are_at DropOnDeposit table interior deposit = lends interior && (has deposit && stands deposit OpenIn)
zones_are_at LeaveDeposit table interior deposit = lends interior && (has deposit && stands deposit OpenIn)
zones_are_at GiveToDeposit table interior deposit = lends interior && (has deposit && stands deposit OpenIn)
zones_are_at _ table interior deposit = lends interior && lends deposit

-- its plates: on its first arm, on its second, and the one that it brought into the press and hasn't fetched
abbrev pub plates_are_at : RobotStep → Bool → Bool → Bool → Bool
plates_are_at TurnToLoad first second fed = first && not fed
plates_are_at ClaimPress first second fed = first && not fed
plates_are_at InspectPress first second fed = first && not fed
plates_are_at ReleasePress first second fed = first && not fed
plates_are_at ReachToLoad first second fed = first && not fed
plates_are_at DropInPress first second fed = first && not fed
plates_are_at LeaveLoaded first second fed = first && not fed
plates_are_at GiveToPress first second fed = first && not fed
plates_are_at TurnToUnload first second fed = fed
plates_are_at AwaitForged first second fed = fed
plates_are_at ReachToUnload first second fed = fed
plates_are_at GripForged first second fed = fed
plates_are_at LeaveUnloaded first second fed = fed
plates_are_at TakeForged first second fed = fed
plates_are_at TurnToDeposit first second fed = second
plates_are_at ClaimDeposit first second fed = second
plates_are_at ReachDeposit first second fed = second
plates_are_at DropOnDeposit first second fed = second
plates_are_at LeaveDeposit first second fed = second
plates_are_at GiveToDeposit first second fed = second
plates_are_at _ first second fed = true

-- its magnets, by the plates on its arms
abbrev pub magnets_are_at : RobotStep → Bool → Bool → Bool → Bool → Bool
magnets_are_at LeaveTable first second on1 on2 = on1 && same_flag second on2
magnets_are_at TakePlate first second on1 on2 = on1 && same_flag second on2
magnets_are_at LeaveLoaded first second on1 on2 = not on1 && same_flag second on2
magnets_are_at GiveToPress first second on1 on2 = not on1 && same_flag second on2
magnets_are_at LeaveUnloaded first second on1 on2 = same_flag first on1 && on2
magnets_are_at TakeForged first second on1 on2 = same_flag first on1 && on2
magnets_are_at LeaveDeposit first second on1 on2 = same_flag first on1 && not on2
magnets_are_at GiveToDeposit first second on1 on2 = same_flag first on1 && not on2
magnets_are_at _ first second on1 on2 = same_flag first on1 && same_flag second on2

-- its notes are as its arms, and as the plates in the press and on their way there
abbrev pub notes_are : ModelState → Bool → Bool → Bool → Bool
notes_are z first second fed =
    same_flag (is_full z Arm1) first
    && (same_flag (is_full z Arm2) second
    && nat_eq (one_if (is_full z PressIn) + one_if (is_full z PressOut) + one_if (zone_at z Z3).flag) (one_if fed))

-- the steps are numbered from 0, in the order of the program
pub record NumberExamples : Type 0 where
  pub all : map number_at steps ≡ range_with_len 0 28
  pub turns : number_at TurnToTable ≡ 0
  pub takes : number_at TakePlate ≡ 5
  pub claims : number_at ClaimPress ≡ 8
  pub gives : number_at GiveToPress ≡ 14
  pub awaits : number_at AwaitForged ≡ 16
  pub releases : number_at ReleaseUnloaded ≡ 21
  pub gives_on : number_at GiveToDeposit ≡ 27

pub record KeepsAreMet : Type 0 where
  pub numbers : NumberExamples
  pub robot : (z : ModelState) (step : RobotStep) (first second fed on1 on2 : Bool)
      → in_step (at step (noted first second fed) (magnets on1 on2)) z
      ≡ (zones_are_at step (zone_at z Z2) (zone_at z Z3) (zone_at z Z4)
      && (plates_are_at step first second fed
      && (notes_are z first second fed && magnets_are_at step first second on1 on2)))
