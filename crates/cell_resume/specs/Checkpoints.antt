-- What is handed out after a turn, and taken back.
use Rattle.std.specs.Prelude.{◌≡◌, ◌≤◌, ℕ, ◌/◌, false, List, take, get_or, slice_get, Some, None}
use Rattle.std.specs.Int.{w64, from_le_bytes}
use Rattle.cell_types.specs.declared.machine.Machine.{Machine}
use Rattle.cell_types.specs.declared.machine.Machine.TheVariants as machine
use Rattle.cell_rules.specs.Names.{ModelState, IsSound}
use Rattle.cell_word.specs.Layout.{packed}
use Rattle.cell_belts_crane.specs.declared.crane.CraneProgress.{CraneProgress}
use Rattle.cell_belts_crane.specs.declared.deposit.DepositProgress.{DepositProgress}
use Rattle.cell_belts_crane.specs.declared.feed.FeedProgress.{FeedProgress}
use Rattle.cell_robot.specs.declared.robot.RobotProgress.{RobotProgress}
use Rattle.cell_table_press.specs.declared.press.PressProgress.{PressProgress}
use Rattle.cell_table_press.specs.declared.table.TableProgress.{TableProgress}
use Rattle.cell_team.specs.Names.{Team}
use Rattle.cell_resume.specs.declared.checkpoint.Checkpoint.{Checkpoint}
use Rattle.cell_resume.specs.declared.fault.ResumeFault.{ResumeFault}
use Rattle.cell_resume.specs.declared.fault.ResumeFault.TheVariants.{NoState, NoStep, NotInStep}
use Rattle.cell_resume.specs.Teams.{AreInStep}
use Rattle.cell_resume.specs.FeedKeeps as feed
use Rattle.cell_resume.specs.TableKeeps as table
use Rattle.cell_resume.specs.RobotKeeps as robot
use Rattle.cell_resume.specs.PressKeeps as press
use Rattle.cell_resume.specs.PressKeeps.{direction_of}
use Rattle.cell_resume.specs.DepositKeeps as deposit
use Rattle.cell_resume.specs.CraneKeeps as crane

-- whatever the state is, each number names the step of its machine, and the press's tells its last direction too
pub record AreNumbersOfSteps (c : Checkpoint) (team : Team) : Type 0 where
  pub feed : slice_get feed.steps c.feed ≡ Some team.feed.step
  pub table : slice_get table.steps c.table ≡ Some team.table.step
  pub robot : slice_get robot.steps c.robot ≡ Some team.robot.step
  pub press : slice_get press.steps (c.press / 2) ≡ Some team.press.step
  pub direction : direction_of c.press ≡ team.press.direction
  pub deposit : slice_get deposit.steps c.deposit ≡ Some team.deposit.step
  pub crane : slice_get crane.steps c.crane ≡ Some team.crane.step

-- the numbers are those of the team's steps, with their notes by the state
pub record AreNumbersOf (c : Checkpoint) (s : ModelState) (team : Team) : Type 0 where
  pub feed : feed.progress_at c.feed s ≡ Some team.feed
  pub table : table.progress_at c.table s ≡ Some team.table
  pub robot : robot.progress_at c.robot s ≡ Some team.robot
  pub press : press.progress_at c.press s ≡ Some team.press
  pub deposit : deposit.progress_at c.deposit s ≡ Some team.deposit
  pub crane : crane.progress_at c.crane ≡ Some team.crane

-- the word is this sound state's, the numbers are those of the team's steps, and each is in step with the state
pub record IsCheckpointOf (c : Checkpoint) (s : ModelState) (team : Team) : Type 0 where
  pub sound : IsSound s
  pub word : packed s ≡ c.word
  pub numbers : AreNumbersOf c s team
  pub in_step : AreInStep team s

-- a machine's number names no step
abbrev pub NamesNoStep : Checkpoint → ModelState → Machine → Type 0
NamesNoStep c s machine.Feed = feed.progress_at c.feed s ≡ None
NamesNoStep c s machine.Table = table.progress_at c.table s ≡ None
NamesNoStep c s machine.Robot = robot.progress_at c.robot s ≡ None
NamesNoStep c s machine.Press = press.progress_at c.press s ≡ None
NamesNoStep c s machine.Deposit = deposit.progress_at c.deposit s ≡ None
NamesNoStep c s machine.Crane = crane.progress_at c.crane ≡ None
NamesNoStep c s machine.Watch = ⊥

-- a machine's number names a step that isn't in step with the state
abbrev pub NamesStepAstray : Checkpoint → ModelState → Machine → Type 0
NamesStepAstray c s machine.Feed =
    (p : FeedProgress) × (feed.progress_at c.feed s ≡ Some p) × (feed.in_step p s ≡ false)
NamesStepAstray c s machine.Table =
    (p : TableProgress) × (table.progress_at c.table s ≡ Some p) × (table.in_step p s ≡ false)
NamesStepAstray c s machine.Robot =
    (p : RobotProgress) × (robot.progress_at c.robot s ≡ Some p) × (robot.in_step p s ≡ false)
NamesStepAstray c s machine.Press =
    (p : PressProgress) × (press.progress_at c.press s ≡ Some p) × (press.in_step p s ≡ false)
NamesStepAstray c s machine.Deposit =
    (p : DepositProgress) × (deposit.progress_at c.deposit s ≡ Some p) × (deposit.in_step p s ≡ false)
NamesStepAstray c s machine.Crane =
    (p : CraneProgress) × (crane.progress_at c.crane ≡ Some p) × (crane.in_step p s ≡ false)
NamesStepAstray c s machine.Watch = ⊥

-- what is wrong with a checkpoint, if its word is this state's
abbrev pub IsWrong : Checkpoint → ModelState → ResumeFault → Type 0
IsWrong c s NoState = ⊥
IsWrong c s (NoStep m) = NamesNoStep c s m
IsWrong c s (NotInStep m) = NamesStepAstray c s m

-- the place of a machine in the order of the tests, and that of the machine that a fault names
abbrev pub place_of : Machine → ℕ
place_of machine.Feed = 0
place_of machine.Table = 1
place_of machine.Robot = 2
place_of machine.Press = 3
place_of machine.Deposit = 4
place_of machine.Crane = 5
place_of machine.Watch = 6

abbrev pub place_of_fault : ResumeFault → ℕ
place_of_fault NoState = 0
place_of_fault (NoStep m) = place_of m
place_of_fault (NotInStep m) = place_of m

-- nothing is wrong with a machine before that of this fault
abbrev pub IsFirst : Checkpoint → ModelState → ResumeFault → Type 0
IsFirst c s fault = (other : ResumeFault) → IsWrong c s other → place_of_fault fault ≤ place_of_fault other

-- fourteen bytes: the word's, the lowest first, and the six numbers
abbrev pub checkpoint_in : List ℕ → Checkpoint
checkpoint_in bytes =
    record {
      word = from_le_bytes w64 (take 8 bytes);
      feed = get_or bytes 8 0;
      table = get_or bytes 9 0;
      robot = get_or bytes 10 0;
      press = get_or bytes 11 0;
      deposit = get_or bytes 12 0;
      crane = get_or bytes 13 0;
    }
