-- What the fourteen bytes mean, in figures: those that one version of the program hands out, each other one takes back.
use Rattle.std.specs.Prelude.{◌≡◌, ◌≤◌, ℕ, ⊤, true, false, List, [], ◌∷◌, Option, Some, None, option_map}
use Rattle.cell_types.specs.declared.machine.Machine.{Machine}
use Rattle.cell_types.specs.declared.machine.Machine.TheVariants as machine
use Rattle.cell_types.specs.declared.posture.Posture.{Posture}
use Rattle.cell_rules.specs.Types.{Closed, Moving, OpenIn, OpenOut}
use Rattle.cell_rules.specs.Names.{ModelState}
use Rattle.cell_rules.specs.ModelState.{model_state}
use Rattle.cell_rules.specs.PlaceSet.{place_set}
use Rattle.cell_rules.specs.ZoneMap.{ZoneMap, zone_map}
use Rattle.cell_rules.specs.declared.zones.ZoneState.{ZoneState}
use Rattle.cell_devices.specs.declared.motor.Direction.{Direction}
use Rattle.cell_devices.specs.declared.motor.Direction.TheVariants.{Plus as Upward, Minus as Downward}
use Rattle.cell_belts_crane.specs.declared.crane.CraneStep.{CraneStep}
use Rattle.cell_belts_crane.specs.declared.crane.CraneStep.TheVariants as at_crane
use Rattle.cell_belts_crane.specs.declared.deposit.DepositStep.{DepositStep}
use Rattle.cell_belts_crane.specs.declared.deposit.DepositStep.TheVariants as at_deposit
use Rattle.cell_belts_crane.specs.declared.feed.FeedStep.{FeedStep}
use Rattle.cell_belts_crane.specs.declared.feed.FeedStep.TheVariants as at_feed
use Rattle.cell_robot.specs.declared.robot.RobotStep.{RobotStep}
use Rattle.cell_robot.specs.declared.robot.RobotStep.TheVariants as at_robot
use Rattle.cell_table_press.specs.declared.press.PressStep.{PressStep}
use Rattle.cell_table_press.specs.declared.press.PressStep.TheVariants as at_press
use Rattle.cell_table_press.specs.declared.table.TableStep.{TableStep}
use Rattle.cell_table_press.specs.declared.table.TableStep.TheVariants as at_table
use Rattle.cell_team.specs.Names.{Team}
use Rattle.cell_word.specs.Layout.{packed}
use Rattle.cell_resume.specs.Checkpoints.{IsCheckpointOf, checkpoint_in}
use Rattle.cell_resume.specs.FeedKeeps as feed
use Rattle.cell_resume.specs.TableKeeps as table
use Rattle.cell_resume.specs.RobotKeeps as robot
use Rattle.cell_resume.specs.PressKeeps as press
use Rattle.cell_resume.specs.DepositKeeps as deposit
use Rattle.cell_resume.specs.CraneKeeps as crane

-- each number names its step
abbrev pub Name : {Step : Type 0} → (ℕ → Option Step) → List (ℕ × Step) → Type 0
Name step_at [] = ⊤
Name step_at (row ∷ rows) = (step_at row.0 ≡ Some row.1) × Name step_at rows

-- this number and each greater one names no step
abbrev pub NoneFrom : {Step : Type 0} → ℕ → (ℕ → Option Step) → Type 0
NoneFrom end step_at = (number : ℕ) → end ≤ number → step_at number ≡ None

-- the step that a number names; of the press with the last direction of its motor
abbrev pub feed_step : ModelState → ℕ → Option FeedStep
feed_step s number = option_map (λ p. p.step) (feed.progress_at number s)

abbrev pub table_step : ModelState → ℕ → Option TableStep
table_step s number = option_map (λ p. p.step) (table.progress_at number s)

abbrev pub robot_step : ModelState → ℕ → Option RobotStep
robot_step s number = option_map (λ p. p.step) (robot.progress_at number s)

abbrev pub press_step : ModelState → ℕ → Option (PressStep × Direction)
press_step s number = option_map (λ p. (p.step, p.direction)) (press.progress_at number s)

abbrev pub deposit_step : ModelState → ℕ → Option DepositStep
deposit_step s number = option_map (λ p. p.step) (deposit.progress_at number s)

abbrev pub crane_step : ℕ → Option CraneStep
crane_step number = option_map (λ p. p.step) (crane.progress_at number)

abbrev pub down : PressStep → PressStep × Direction
down step = (step, Downward)

abbrev pub up : PressStep → PressStep × Direction
up step = (step, Upward)

-- the steps' numbers, in each state
pub record NumberRows (s : ModelState) : Type 0 where
  pub feed : Name (feed_step s) (
      (0, at_feed.ClaimEntry) ∷ (1, at_feed.PoseLanding) ∷ (2, at_feed.ReleaseEntry) ∷
      (3, at_feed.TakePlate) ∷ (4, at_feed.StartIn) ∷ (5, at_feed.RunIn) ∷ (6, at_feed.MoveOn) ∷
      (7, at_feed.ClaimExit) ∷ (8, at_feed.StartOut) ∷ (9, at_feed.RunOut) ∷ (10, at_feed.Halt) ∷
      (11, at_feed.GivePlate) ∷ [])
  pub table : Name (table_step s) (
      (0, at_table.ClaimEntry) ∷ (1, at_table.ClaimExit) ∷ (2, at_table.LeaveForLoading) ∷
      (3, at_table.MoveToLoading) ∷ (4, at_table.PoseLoading) ∷ (5, at_table.ReleaseEntry) ∷
      (6, at_table.TakePlate) ∷ (7, at_table.LeaveForUnloading) ∷ (8, at_table.MoveToUnloading) ∷
      (9, at_table.PoseUnloading) ∷ (10, at_table.GivePlate) ∷ (11, at_table.ClaimBack) ∷ [])
  pub robot : Name (robot_step s) (
      (0, at_robot.TurnToTable) ∷ (1, at_robot.AwaitPlate) ∷ (2, at_robot.ReachTable) ∷
      (3, at_robot.GripPlate) ∷ (4, at_robot.LeaveTable) ∷ (5, at_robot.TakePlate) ∷
      (6, at_robot.ReleaseTable) ∷ (7, at_robot.TurnToLoad) ∷ (8, at_robot.ClaimPress) ∷
      (9, at_robot.InspectPress) ∷ (10, at_robot.ReleasePress) ∷ (11, at_robot.ReachToLoad) ∷
      (12, at_robot.DropInPress) ∷ (13, at_robot.LeaveLoaded) ∷ (14, at_robot.GiveToPress) ∷
      (15, at_robot.TurnToUnload) ∷ (16, at_robot.AwaitForged) ∷ (17, at_robot.ReachToUnload) ∷
      (18, at_robot.GripForged) ∷ (19, at_robot.LeaveUnloaded) ∷ (20, at_robot.TakeForged) ∷
      (21, at_robot.ReleaseUnloaded) ∷ (22, at_robot.TurnToDeposit) ∷ (23, at_robot.ClaimDeposit) ∷
      (24, at_robot.ReachDeposit) ∷ (25, at_robot.DropOnDeposit) ∷ (26, at_robot.LeaveDeposit) ∷
      (27, at_robot.GiveToDeposit) ∷ [])
  pub press_downward : Name (press_step s) (
      (0, down at_press.ClaimFirst) ∷ (2, down at_press.LeaveForMiddle) ∷ (4, down at_press.MoveToMiddle) ∷
      (6, down at_press.PoseMiddle) ∷ (8, down at_press.ReleaseInterior) ∷ (10, down at_press.TakePlate) ∷
      (12, down at_press.LeaveForTop) ∷ (14, down at_press.MoveToTop) ∷ (16, down at_press.PoseTop) ∷
      (18, down at_press.Forge) ∷ (20, down at_press.LeaveForBottom) ∷ (22, down at_press.MoveToBottom) ∷
      (24, down at_press.PoseLow) ∷ (26, down at_press.GivePlate) ∷ (28, down at_press.ClaimBack) ∷ [])
  pub press_upward : Name (press_step s) (
      (1, up at_press.ClaimFirst) ∷ (3, up at_press.LeaveForMiddle) ∷ (5, up at_press.MoveToMiddle) ∷
      (7, up at_press.PoseMiddle) ∷ (9, up at_press.ReleaseInterior) ∷ (11, up at_press.TakePlate) ∷
      (13, up at_press.LeaveForTop) ∷ (15, up at_press.MoveToTop) ∷ (17, up at_press.PoseTop) ∷
      (19, up at_press.Forge) ∷ (21, up at_press.LeaveForBottom) ∷ (23, up at_press.MoveToBottom) ∷
      (25, up at_press.PoseLow) ∷ (27, up at_press.GivePlate) ∷ (29, up at_press.ClaimBack) ∷ [])
  pub deposit : Name (deposit_step s) (
      (0, at_deposit.ClaimEntry) ∷ (1, at_deposit.ClaimExit) ∷ (2, at_deposit.PoseLanding) ∷
      (3, at_deposit.ReleaseEntry) ∷ (4, at_deposit.TakePlate) ∷ (5, at_deposit.StartRun) ∷
      (6, at_deposit.RunIn) ∷ (7, at_deposit.RunOut) ∷ (8, at_deposit.MoveOn) ∷ (9, at_deposit.PoseOffering) ∷
      (10, at_deposit.GivePlate) ∷ (11, at_deposit.ClaimBack) ∷ [])
  pub crane : Name crane_step (
      (0, at_crane.RaiseToFetch) ∷ (1, at_crane.TravelToDeposit) ∷ (2, at_crane.AwaitPlate) ∷
      (3, at_crane.LowerToPlate) ∷ (4, at_crane.GripPlate) ∷ (5, at_crane.RaiseWithPlate) ∷
      (6, at_crane.TakePlate) ∷ (7, at_crane.ReleaseDeposit) ∷ (8, at_crane.TravelToFeed) ∷
      (9, at_crane.ClaimFeed) ∷ (10, at_crane.LowerToFeed) ∷ (11, at_crane.DropPlate) ∷
      (12, at_crane.RaiseFromFeed) ∷ (13, at_crane.GivePlate) ∷ [])
  -- past the last number none is named
  pub no_feed : NoneFrom 12 (feed_step s)
  pub no_table : NoneFrom 12 (table_step s)
  pub no_robot : NoneFrom 28 (robot_step s)
  pub no_press : NoneFrom 30 (press_step s)
  pub no_deposit : NoneFrom 12 (deposit_step s)
  pub no_crane : NoneFrom 14 crane_step

-- a zone's owner and posture, without a plate, and with one on its way
abbrev pub clear : Option Machine → Posture → ZoneState
clear owner posture = record { owner = owner; flag = false; posture = posture }

abbrev pub loaded : Option Machine → Posture → ZoneState
loaded owner posture = record { owner = owner; flag = true; posture = posture }

-- a start with a plate at the feed belt's entry
abbrev pub start_bytes : List ℕ
start_bytes = 0 ∷ 0 ∷ 0 ∷ 64 ∷ 0 ∷ 0 ∷ 0 ∷ 0 ∷ 0 ∷ 0 ∷ 0 ∷ 0 ∷ 0 ∷ 0 ∷ []

abbrev pub free_zones : ZoneMap
free_zones =
    zone_map (clear None Closed) (clear None Closed) (clear None Closed) (clear None Closed) (clear None Closed)
    (clear None Closed)

abbrev pub start_state : ModelState
start_state = model_state free_zones (place_set true false false false false false false false false false) 0 false

abbrev pub start_team : Team
start_team = record {
  feed = record { step = at_feed.ClaimEntry; entry = true; last = false };
  table = record { step = at_table.ClaimEntry; loaded = false };
  robot = record {
    step = at_robot.TurnToTable;
    notes = record { arm1 = false; arm2 = false; fed = false };
    magnets = record { arm1 = false; arm2 = false };
  };
  press = record { step = at_press.ClaimFirst; loaded = false; forged = false; direction = Downward };
  deposit = record { step = at_deposit.ClaimEntry; entry = false; last = false };
  crane = record { step = at_crane.RaiseToFetch; magnet = false };
}

-- a stopped cell with the stamp 300: the robot gives a plate to the press, the crane one to the feed belt, and both
-- the table and the deposit belt move with one
abbrev pub full_bytes : List ℕ
full_bytes = 41 ∷ 201 ∷ 148 ∷ 36 ∷ 163 ∷ 44 ∷ 1 ∷ 16 ∷ 3 ∷ 8 ∷ 14 ∷ 11 ∷ 7 ∷ 13 ∷ []

abbrev pub full_zones : ZoneMap
full_zones =
    zone_map (clear (Some machine.Table) Moving) (clear (Some machine.Table) Moving)
    (clear (Some machine.Robot) OpenIn) (clear (Some machine.Deposit) Moving)
    (clear (Some machine.Deposit) Moving) (clear (Some machine.Crane) OpenIn)

abbrev pub full_state : ModelState
full_state = model_state full_zones (place_set false false true true false false false true false true) 300 true

abbrev pub full_team : Team
full_team = record {
  feed = record { step = at_feed.TakePlate; entry = false; last = false };
  table = record { step = at_table.MoveToUnloading; loaded = true };
  robot = record {
    step = at_robot.GiveToPress;
    notes = record { arm1 = true; arm2 = false; fed = false };
    magnets = record { arm1 = false; arm2 = false };
  };
  press = record { step = at_press.TakePlate; loaded = false; forged = false; direction = Upward };
  deposit = record { step = at_deposit.RunOut; entry = true; last = false };
  crane = record { step = at_crane.GivePlate; magnet = false };
}

-- the stamp 77: the robot takes the forged plate out of the press, with another plate on its first arm
abbrev pub forged_bytes : List ℕ
forged_bytes = 1 ∷ 251 ∷ 24 ∷ 130 ∷ 2 ∷ 77 ∷ 0 ∷ 0 ∷ 7 ∷ 11 ∷ 20 ∷ 28 ∷ 3 ∷ 1 ∷ []

abbrev pub forged_zones : ZoneMap
forged_zones =
    zone_map (clear (Some machine.Table) Closed) (clear None OpenOut) (loaded (Some machine.Robot) OpenOut)
    (clear (Some machine.Deposit) OpenIn) (clear (Some machine.Deposit) Closed) (clear (Some machine.Feed) Closed)

abbrev pub forged_state : ModelState
forged_state = model_state forged_zones (place_set false true false true false false false false false false) 77 false

abbrev pub forged_team : Team
forged_team = record {
  feed = record { step = at_feed.ClaimExit; entry = false; last = true };
  table = record { step = at_table.ClaimBack; loaded = false };
  robot = record {
    step = at_robot.TakeForged;
    notes = record { arm1 = true; arm2 = false; fed = true };
    magnets = record { arm1 = true; arm2 = true };
  };
  press = record { step = at_press.ClaimBack; loaded = false; forged = false; direction = Downward };
  deposit = record { step = at_deposit.ReleaseEntry; entry = false; last = false };
  crane = record { step = at_crane.TravelToDeposit; magnet = false };
}

-- the start with another word, with another step's number, at a step that isn't in step with it, and with a stamp past
-- the last
abbrev pub worn_state : ModelState
worn_state = record start_state { stamp = 1048576 }

pub record WrongRows : Type 0 where
  pub other_word : ¬ IsCheckpointOf (record (checkpoint_in start_bytes) { word = 0 }) start_state start_team
  pub other_number : ¬ IsCheckpointOf (record (checkpoint_in start_bytes) { feed = 1 }) start_state start_team
  pub astray :
      ¬ IsCheckpointOf (record (checkpoint_in start_bytes) { feed = 3 }) start_state
      (record start_team { feed = record { step = at_feed.TakePlate; entry = true; last = false } })
  pub unsound :
      ¬ IsCheckpointOf (record (checkpoint_in start_bytes) { word = packed worn_state }) worn_state start_team

-- these bytes are those of this state and these steps
pub record FigureRows : Type 0 where
  pub numbers : (s : ModelState) → NumberRows s
  pub start : IsCheckpointOf (checkpoint_in start_bytes) start_state start_team
  pub full : IsCheckpointOf (checkpoint_in full_bytes) full_state full_team
  pub forged : IsCheckpointOf (checkpoint_in forged_bytes) forged_state forged_team
  pub wrong : WrongRows
