-- What the robot keeps at each step of its program, and the numbers of its steps.
use Rattle.std.specs.Prelude.{ℕ, ◌+◌, nat_eq, Bool, true, false, not, ◌&&◌, List, [], ◌∷◌, codes}
use Rattle.cell_rules.specs.Types.{Zone, Robot, Z2, Z3, Z4, Arm1, Arm2, PressIn, PressOut, OpenIn, OpenOut}
use Rattle.cell_rules.specs.Names.{ModelState, zone_at, is_full, one_if, same_flag}
use Rattle.cell_control.specs.Keeping.{posed, unposed, are_kept}
use Rattle.cell_control.specs.declared.share.Share.TheVariants as share
use Rattle.cell_control.specs.declared.share.ZoneShare.{ZoneShare}
use Rattle.cell_robot.specs.declared.share.Grip.{Grip}
use Rattle.cell_robot.specs.declared.share.Grip.TheVariants.{On, Off, WithPlate}
use Rattle.cell_robot.specs.declared.share.RobotPlates.{RobotPlates}
use Rattle.cell_robot.specs.declared.share.RobotPlates.TheVariants.{Any, Unforged, InPress, Forged}
use Rattle.cell_robot.specs.declared.share.RobotShare.{RobotShare}
use Rattle.cell_robot.specs.declared.robot.RobotStep.{RobotStep}
use Rattle.cell_robot.specs.declared.robot.RobotStep.TheVariants.{TurnToTable, AwaitPlate, ReachTable, GripPlate}
use Rattle.cell_robot.specs.declared.robot.RobotStep.TheVariants.{LeaveTable, TakePlate, ReleaseTable, TurnToLoad}
use Rattle.cell_robot.specs.declared.robot.RobotStep.TheVariants.{ClaimPress, InspectPress, ReleasePress, ReachToLoad}
use Rattle.cell_robot.specs.declared.robot.RobotStep.TheVariants.{DropInPress, LeaveLoaded, GiveToPress, TurnToUnload}
use Rattle.cell_robot.specs.declared.robot.RobotStep.TheVariants.{AwaitForged, ReachToUnload, GripForged, LeaveUnloaded}
use Rattle.cell_robot.specs.declared.robot.RobotStep.TheVariants.{TakeForged, ReleaseUnloaded, TurnToDeposit, ClaimDeposit}
use Rattle.cell_robot.specs.declared.robot.RobotStep.TheVariants.{ReachDeposit, DropOnDeposit, LeaveDeposit, GiveToDeposit}
use Rattle.cell_robot.specs.declared.robot.RobotNotes.{RobotNotes}
use Rattle.cell_robot.specs.declared.robot.RobotMagnets.{RobotMagnets}
use Rattle.cell_robot.specs.declared.robot.RobotProgress.{RobotProgress}

-- there are these plates, by those on its first arm and on its second, and by the one that it brought into the press and
-- hasn't fetched
abbrev pub are_there : RobotPlates → Bool → Bool → Bool → Bool
are_there Any first second fed = true
are_there Unforged first second fed = first && not fed
are_there InPress first second fed = fed
are_there Forged first second fed = second

-- the magnet of an arm is on, by whether the arm has a plate
abbrev pub is_on : Grip → Bool → Bool
is_on On loaded = true
is_on Off loaded = false
is_on WithPlate loaded = loaded

-- what it keeps where it shares no zone, at the table, in the press, and at the deposit belt
abbrev pub keeps : ZoneShare → ZoneShare → ZoneShare → RobotPlates → RobotShare
keeps table interior deposit plates = record {
  table = table;
  interior = interior;
  deposit = deposit;
  plates = plates;
  arm1 = WithPlate;
  arm2 = WithPlate;
}

abbrev pub away : RobotPlates → RobotShare
away plates = keeps (unposed share.Any) (unposed share.Lent) (unposed share.Lent) plates

abbrev pub at_table : ZoneShare → RobotShare
at_table table = record (away Any) { table = table }

abbrev pub in_press : ZoneShare → RobotPlates → RobotShare
in_press interior plates = record (away plates) { interior = interior }

abbrev pub at_deposit : ZoneShare → RobotShare
at_deposit deposit = record (away Forged) { deposit = deposit }

abbrev pub with_arm1 : Grip → RobotShare → RobotShare
with_arm1 grip kept = record kept { arm1 = grip }

abbrev pub with_arm2 : Grip → RobotShare → RobotShare
with_arm2 grip kept = record kept { arm2 = grip }

abbrev pub keeps_at : RobotStep → RobotShare
keeps_at TurnToTable = away Any
keeps_at AwaitPlate = away Any
keeps_at ReachTable = at_table (posed share.Loaded OpenOut)
keeps_at GripPlate = at_table (posed share.Loaded OpenOut)
keeps_at LeaveTable = with_arm1 On (at_table (posed share.Loaded OpenOut))
keeps_at TakePlate = with_arm1 On (at_table (posed share.Loaded OpenOut))
keeps_at ReleaseTable = at_table (posed share.Clear OpenOut)
keeps_at TurnToLoad = away Unforged
keeps_at ClaimPress = away Unforged
keeps_at InspectPress = in_press (unposed share.Held) Unforged
keeps_at ReleasePress = in_press (unposed share.Held) Unforged
keeps_at ReachToLoad = in_press (posed share.Held OpenIn) Unforged
keeps_at DropInPress = in_press (posed share.Held OpenIn) Unforged
keeps_at LeaveLoaded = with_arm1 Off (in_press (posed share.Held OpenIn) Unforged)
keeps_at GiveToPress = with_arm1 Off (in_press (posed share.Held OpenIn) Unforged)
keeps_at TurnToUnload = away InPress
keeps_at AwaitForged = away InPress
keeps_at ReachToUnload = in_press (posed share.Loaded OpenOut) InPress
keeps_at GripForged = in_press (posed share.Loaded OpenOut) InPress
keeps_at LeaveUnloaded = with_arm2 On (in_press (posed share.Loaded OpenOut) InPress)
keeps_at TakeForged = with_arm2 On (in_press (posed share.Loaded OpenOut) InPress)
keeps_at ReleaseUnloaded = in_press (posed share.Clear OpenOut) Any
keeps_at TurnToDeposit = away Forged
keeps_at ClaimDeposit = away Forged
keeps_at ReachDeposit = at_deposit (posed share.Held OpenIn)
keeps_at DropOnDeposit = at_deposit (posed share.Held OpenIn)
keeps_at LeaveDeposit = with_arm2 Off (at_deposit (posed share.Held OpenIn))
keeps_at GiveToDeposit = with_arm2 Off (at_deposit (posed share.Held OpenIn))

-- the number of each step, and the steps in that order
abbrev pub number_at : RobotStep → ℕ
number_at TurnToTable = 0
number_at AwaitPlate = 1
number_at ReachTable = 2
number_at GripPlate = 3
number_at LeaveTable = 4
number_at TakePlate = 5
number_at ReleaseTable = 6
number_at TurnToLoad = 7
number_at ClaimPress = 8
number_at InspectPress = 9
number_at ReleasePress = 10
number_at ReachToLoad = 11
number_at DropInPress = 12
number_at LeaveLoaded = 13
number_at GiveToPress = 14
number_at TurnToUnload = 15
number_at AwaitForged = 16
number_at ReachToUnload = 17
number_at GripForged = 18
number_at LeaveUnloaded = 19
number_at TakeForged = 20
number_at ReleaseUnloaded = 21
number_at TurnToDeposit = 22
number_at ClaimDeposit = 23
number_at ReachDeposit = 24
number_at DropOnDeposit = 25
number_at LeaveDeposit = 26
number_at GiveToDeposit = 27

-- the word of a step, as films show it
abbrev pub word_at : RobotStep → List ℕ
word_at TurnToTable = codes "turn to table"
word_at AwaitPlate = codes "await plate"
word_at ReachTable = codes "reach table"
word_at GripPlate = codes "grip plate"
word_at LeaveTable = codes "leave table"
word_at TakePlate = codes "take plate"
word_at ReleaseTable = codes "release table"
word_at TurnToLoad = codes "turn to load"
word_at ClaimPress = codes "claim press"
word_at InspectPress = codes "inspect press"
word_at ReleasePress = codes "release press"
word_at ReachToLoad = codes "reach to load"
word_at DropInPress = codes "drop in press"
word_at LeaveLoaded = codes "leave loaded"
word_at GiveToPress = codes "give to press"
word_at TurnToUnload = codes "turn to unload"
word_at AwaitForged = codes "await forged"
word_at ReachToUnload = codes "reach to unload"
word_at GripForged = codes "grip forged"
word_at LeaveUnloaded = codes "leave unloaded"
word_at TakeForged = codes "take forged"
word_at ReleaseUnloaded = codes "release unloaded"
word_at TurnToDeposit = codes "turn to deposit"
word_at ClaimDeposit = codes "claim deposit"
word_at ReachDeposit = codes "reach deposit"
word_at DropOnDeposit = codes "drop on deposit"
word_at LeaveDeposit = codes "leave deposit"
word_at GiveToDeposit = codes "give to deposit"

abbrev pub steps : List RobotStep
steps =
    TurnToTable ∷ AwaitPlate ∷ ReachTable ∷ GripPlate ∷ LeaveTable ∷ TakePlate ∷ ReleaseTable ∷ TurnToLoad ∷
    ClaimPress ∷ InspectPress ∷ ReleasePress ∷ ReachToLoad ∷ DropInPress ∷ LeaveLoaded ∷ GiveToPress ∷
    TurnToUnload ∷ AwaitForged ∷ ReachToUnload ∷ GripForged ∷ LeaveUnloaded ∷ TakeForged ∷ ReleaseUnloaded ∷
    TurnToDeposit ∷ ClaimDeposit ∷ ReachDeposit ∷ DropOnDeposit ∷ LeaveDeposit ∷ GiveToDeposit ∷ []

-- its zones, with its shares; its plates; its magnets
abbrev pub zones_at : RobotStep → List (Zone × ZoneShare)
zones_at step = (Z2, (keeps_at step).table) ∷ (Z3, (keeps_at step).interior) ∷ (Z4, (keeps_at step).deposit) ∷ []

abbrev pub has_plates : RobotStep → Bool → Bool → Bool → Bool
has_plates step first second fed = are_there (keeps_at step).plates first second fed

abbrev pub magnet1_at : RobotStep → Bool → Bool
magnet1_at step arm1 = is_on (keeps_at step).arm1 arm1

abbrev pub magnet2_at : RobotStep → Bool → Bool
magnet2_at step arm2 = is_on (keeps_at step).arm2 arm2

abbrev pub magnets_at : RobotStep → RobotNotes → RobotMagnets
magnets_at step notes = record { arm1 = magnet1_at step notes.arm1; arm2 = magnet2_at step notes.arm2 }

-- the plates in the press, and in its zone on their way into it or out of it
abbrev pub inside : ModelState → ℕ
inside s = one_if (is_full s PressIn) + one_if (is_full s PressOut) + one_if (zone_at s Z3).flag

-- what the state says of its notes; a step, with the notes and the magnets that it has in a state
abbrev pub notes_of : ModelState → RobotNotes
notes_of s = record { arm1 = is_full s Arm1; arm2 = is_full s Arm2; fed = nat_eq (inside s) 1 }

abbrev pub standing : RobotStep → ModelState → RobotProgress
standing step s = record { step = step; notes = notes_of s; magnets = magnets_at step (notes_of s) }

-- its notes agree with its arms and with the press, and its magnets with its step
abbrev pub is_noted : RobotNotes → ModelState → Bool
is_noted notes s =
    same_flag (is_full s Arm1) notes.arm1
    && (same_flag (is_full s Arm2) notes.arm2 && nat_eq (inside s) (one_if notes.fed))

abbrev pub has_magnets : RobotProgress → Bool
has_magnets p =
    same_flag (magnet1_at p.step p.notes.arm1) p.magnets.arm1
    && same_flag (magnet2_at p.step p.notes.arm2) p.magnets.arm2

-- the step is in step with a state: the zones, plates, notes and magnets are as it keeps them
abbrev pub in_step : RobotProgress → ModelState → Bool
in_step p s =
    are_kept (zones_at p.step) Robot s
    && (has_plates p.step p.notes.arm1 p.notes.arm2 p.notes.fed && (is_noted p.notes s && has_magnets p))
