-- Programs that are wrong in one row: by each of them a machine is refused what its step doesn't wait for.
use Rattle.std.specs.Prelude.{◌≡◌, pos, true, Some}
use Rattle.cell_rules.specs.Types.{Refusal, Worn, Claim, Give, Take, Release, SetPose, Z2, Z3, Z4, Z5, Z6}
use Rattle.cell_rules.specs.Types.{Running, Travelling, Offering}
use Rattle.cell_sensors.specs.Scale.{Scale, scale_by}
use Rattle.cell_control.specs.Names.{with_waits, Steps}
use Rattle.cell_control.specs.declared.row.Row.{Row}
use Rattle.cell_control.specs.declared.row.Waits.TheVariants.{Never}
use Rattle.cell_control.specs.declared.row.Waits.TheVariants.{UntilFree}
use Rattle.cell_belts_crane.specs.declared.crane.CraneProgress.{CraneProgress}
use Rattle.cell_belts_crane.specs.declared.crane.CraneStep.{CraneStep}
use Rattle.cell_belts_crane.specs.declared.deposit.DepositProgress.{DepositProgress}
use Rattle.cell_belts_crane.specs.declared.deposit.DepositStep.{DepositStep}
use Rattle.cell_belts_crane.specs.declared.feed.FeedProgress.{FeedProgress}
use Rattle.cell_belts_crane.specs.declared.feed.FeedStep.{FeedStep}
use Rattle.cell_belts_crane.specs.declared.crane.CraneStep.TheVariants as crane_step
use Rattle.cell_belts_crane.specs.declared.deposit.DepositStep.TheVariants as deposit_step
use Rattle.cell_belts_crane.specs.declared.feed.FeedStep.TheVariants as feed_step
use Rattle.cell_belts_crane.specs.CraneProgram as crane_program
use Rattle.cell_belts_crane.specs.DepositProgram as deposit_program
use Rattle.cell_belts_crane.specs.FeedProgram as feed_program
use Rattle.cell_robot.specs.declared.robot.RobotProgress.{RobotProgress}
use Rattle.cell_robot.specs.declared.robot.RobotStep.{RobotStep}
use Rattle.cell_robot.specs.declared.robot.RobotStep.TheVariants as robot_step
use Rattle.cell_robot.specs.RobotProgram as robot_program
use Rattle.cell_table_press.specs.declared.press.PressProgress.{PressProgress}
use Rattle.cell_table_press.specs.declared.press.PressStep.{PressStep}
use Rattle.cell_table_press.specs.declared.table.TableProgress.{TableProgress}
use Rattle.cell_table_press.specs.declared.table.TableStep.{TableStep}
use Rattle.cell_table_press.specs.declared.press.PressStep.TheVariants as press_step
use Rattle.cell_table_press.specs.declared.table.TableStep.TheVariants as table_step
use Rattle.cell_table_press.specs.PressProgram as press_program
use Rattle.cell_table_press.specs.TableProgram as table_program
use Rattle.cell_parts.specs.Axes.{CellScales}
use Rattle.cell_team.specs.Team.{Programs, programs_of}
use Rattle.cell_team.specs.Heeded.{NoneIsRefused, is_worn}

-- five potentiometers with one scale
abbrev pub scale : Scale
scale = scale_by 0 4000 (pos 0) (pos 2000) (pos 1)

abbrev pub scales : CellScales
scales = record { arm1 = scale; arm2 = scale; rotation = scale; turn = scale; gripper = scale }

-- a program that asks by these rows
abbrev pub with_rows : {S Sense Reading Act : Type 0} → Steps S Sense Reading Act → (S → Row S)
    → Steps S Sense Reading Act
with_rows t rows = record t { row = rows }

-- the cell's programs, but one machine asks by these rows
abbrev pub by_feed : (FeedStep → FeedProgress → Row FeedProgress) → Programs
by_feed rows = record (programs_of scales) { feed = with_rows (programs_of scales).feed (λ p. rows p.step p) }

abbrev pub by_table : (TableStep → TableProgress → Row TableProgress) → Programs
by_table rows = record (programs_of scales) { table = with_rows (programs_of scales).table (λ p. rows p.step p) }

abbrev pub by_robot : (RobotStep → RobotProgress → Row RobotProgress) → Programs
by_robot rows = record (programs_of scales) { robot = with_rows (programs_of scales).robot (λ p. rows p.step p) }

abbrev pub by_press : (PressStep → PressProgress → Row PressProgress) → Programs
by_press rows = record (programs_of scales) { press = with_rows (programs_of scales).press (λ p. rows p.step p) }

abbrev pub by_deposit : (DepositStep → DepositProgress → Row DepositProgress) → Programs
by_deposit rows = record (programs_of scales) { deposit = with_rows (programs_of scales).deposit (λ p. rows p.step p) }

abbrev pub by_crane : (CraneStep → CraneProgress → Row CraneProgress) → Programs
by_crane rows = record (programs_of scales) { crane = with_rows (programs_of scales).crane (λ p. rows p.step p) }

-- ---- wrong rows

-- the feed belt takes before it has released; it runs its first plate onto a second
abbrev pub takes_unreleased : FeedStep → FeedProgress → Row FeedProgress
takes_unreleased feed_step.ReleaseEntry p = feed_program.row_at feed_step.TakePlate p
takes_unreleased step p = feed_program.row_at step p

abbrev pub runs_onto_plate : FeedStep → FeedProgress → Row FeedProgress
runs_onto_plate feed_step.ClaimExit p = feed_program.row_at feed_step.StartIn p
runs_onto_plate step p = feed_program.row_at step p

-- the table waits until a zone is free where it gives; it opens for a plate while it has one
abbrev pub gives_until_free : TableStep → TableProgress → Row TableProgress
gives_until_free table_step.GivePlate p = with_waits (table_program.row_at table_step.GivePlate p) UntilFree
gives_until_free step p = table_program.row_at step p

abbrev pub loads_a_full_table : TableStep → TableProgress → Row TableProgress
loads_a_full_table table_step.LeaveForUnloading p = table_program.row_at table_step.LeaveForLoading p
loads_a_full_table step p = table_program.row_at step p

-- the robot claims the press's zone while it has it; it waits only until the deposit belt's zone is free
abbrev pub claims_what_it_has : RobotStep → RobotProgress → Row RobotProgress
claims_what_it_has robot_step.InspectPress p = robot_program.row_at robot_step.ClaimPress p
claims_what_it_has step p = robot_program.row_at step p

abbrev pub enters_a_shut_zone : RobotStep → RobotProgress → Row RobotProgress
enters_a_shut_zone robot_step.ClaimDeposit p = with_waits (robot_program.row_at robot_step.ClaimDeposit p) UntilFree
enters_a_shut_zone step p = robot_program.row_at step p

-- the press claims back before the robot has taken its plate, and doesn't wait; it moves before it has claimed back; it
-- rises before it has taken its zone back
abbrev pub claims_back_at_once : PressStep → PressProgress → Row PressProgress
claims_back_at_once press_step.ClaimBack p = with_waits (press_program.row_at press_step.ClaimBack p) Never
claims_back_at_once step p = press_program.row_at step p

abbrev pub moves_unclaimed : PressStep → PressProgress → Row PressProgress
moves_unclaimed press_step.ClaimBack p = press_program.row_at press_step.LeaveForMiddle p
moves_unclaimed step p = press_program.row_at step p

abbrev pub rises_empty : PressStep → PressProgress → Row PressProgress
rises_empty press_step.TakePlate p = press_program.row_at press_step.LeaveForTop p
rises_empty step p = press_program.row_at step p

-- the deposit belt offers a plate that it hasn't moved on
abbrev pub offers_before_it_moves_on : DepositStep → DepositProgress → Row DepositProgress
offers_before_it_moves_on deposit_step.MoveOn p = deposit_program.row_at deposit_step.PoseOffering p
offers_before_it_moves_on step p = deposit_program.row_at step p

-- the crane releases a zone with a plate in it
abbrev pub releases_its_plate : CraneStep → CraneProgress → Row CraneProgress
releases_its_plate crane_step.TakePlate p = crane_program.row_at crane_step.ReleaseDeposit p
releases_its_plate step p = crane_program.row_at step p

-- it waits only until the feed belt's zone is free
abbrev pub lands_in_a_shut_zone : CraneStep → CraneProgress → Row CraneProgress
lands_in_a_shut_zone crane_step.ClaimFeed p = with_waits (crane_program.row_at crane_step.ClaimFeed p) UntilFree
lands_in_a_shut_zone step p = crane_program.row_at step p

-- ---- what the law says of these

pub record RightRows : Type 0 where
  pub feed : NoneIsRefused (by_feed feed_program.row_at)
  pub table : NoneIsRefused (by_table table_program.row_at)
  pub robot : NoneIsRefused (by_robot robot_program.row_at)
  pub press : NoneIsRefused (by_press press_program.row_at)
  pub deposit : NoneIsRefused (by_deposit deposit_program.row_at)
  pub crane : NoneIsRefused (by_crane crane_program.row_at)

pub record WrongRows : Type 0 where
  pub takes_unreleased : ¬ NoneIsRefused (by_feed takes_unreleased)
  pub runs_onto_plate : ¬ NoneIsRefused (by_feed runs_onto_plate)
  pub gives_until_free : ¬ NoneIsRefused (by_table gives_until_free)
  pub loads_a_full_table : ¬ NoneIsRefused (by_table loads_a_full_table)
  pub claims_what_it_has : ¬ NoneIsRefused (by_robot claims_what_it_has)
  pub enters_a_shut_zone : ¬ NoneIsRefused (by_robot enters_a_shut_zone)
  pub claims_back_at_once : ¬ NoneIsRefused (by_press claims_back_at_once)
  pub moves_unclaimed : ¬ NoneIsRefused (by_press moves_unclaimed)
  pub rises_empty : ¬ NoneIsRefused (by_press rises_empty)
  pub offers_before_it_moves_on : ¬ NoneIsRefused (by_deposit offers_before_it_moves_on)
  pub releases_its_plate : ¬ NoneIsRefused (by_crane releases_its_plate)
  pub lands_in_a_shut_zone : ¬ NoneIsRefused (by_crane lands_in_a_shut_zone)

-- what is asked in each wrong row, for what the step waits, or where it leads; and the crane's other rows stay
pub record WrongRowsAre : Type 0 where
  pub takes_asking : (p : FeedProgress) → (takes_unreleased feed_step.ReleaseEntry p).call ≡ Some (Take Z6)
  pub runs_asking : (p : FeedProgress) → (runs_onto_plate feed_step.ClaimExit p).call ≡ Some (SetPose Running)
  pub gives_asking : (p : TableProgress) → (gives_until_free table_step.GivePlate p).call ≡ Some (Give Z2)
  pub gives_waiting : (p : TableProgress) → (gives_until_free table_step.GivePlate p).waits ≡ UntilFree
  pub loads_leading : (p : TableProgress)
      → (loads_a_full_table table_step.LeaveForUnloading p).next.step ≡ table_step.MoveToLoading
  pub claims_asking : (p : RobotProgress) → (claims_what_it_has robot_step.InspectPress p).call ≡ Some (Claim Z3)
  pub enters_asking : (p : RobotProgress) → (enters_a_shut_zone robot_step.ClaimDeposit p).call ≡ Some (Claim Z4)
  pub enters_waiting : (p : RobotProgress) → (enters_a_shut_zone robot_step.ClaimDeposit p).waits ≡ UntilFree
  pub claims_back_asking : (p : PressProgress) → (claims_back_at_once press_step.ClaimBack p).call ≡ Some (Claim Z3)
  pub claims_at_once : (p : PressProgress) → (claims_back_at_once press_step.ClaimBack p).waits ≡ Never
  pub moves_asking : (p : PressProgress) → (moves_unclaimed press_step.ClaimBack p).call ≡ Some (SetPose Travelling)
  pub rises_asking : (p : PressProgress) → (rises_empty press_step.TakePlate p).call ≡ Some (SetPose Travelling)
  pub offers_asking : (p : DepositProgress)
      → (offers_before_it_moves_on deposit_step.MoveOn p).call ≡ Some (SetPose Offering)
  pub releases_asking : (p : CraneProgress) → (releases_its_plate crane_step.TakePlate p).call ≡ Some (Release Z5)
  pub takes_its_plate_else : (p : CraneProgress) → (lands_in_a_shut_zone crane_step.TakePlate p).call ≡ Some (Take Z5)
  pub lands_asking : (p : CraneProgress) → (lands_in_a_shut_zone crane_step.ClaimFeed p).call ≡ Some (Claim Z6)
  pub lands_waiting : (p : CraneProgress) → (lands_in_a_shut_zone crane_step.ClaimFeed p).waits ≡ UntilFree

-- of refusals that no step waits for, only a worn one is heeded
pub record WrongProgramsAreRefused : Type 0 where
  pub right : RightRows
  pub wrong : WrongRows
  pub rows : WrongRowsAre
  pub only_worn : (r : Refusal) → is_worn r ≡ true → r ≡ Worn
