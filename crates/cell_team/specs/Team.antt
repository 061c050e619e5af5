-- Six machines over one history, each at a step of its program to which its own events led. The watch may do anything.
use Rattle.std.specs.Prelude.{◌≡◌, false, ◌⊎◌, List, None, Ok}
use Rattle.cell_rules.specs.Types.{Answer, Event}
use Rattle.cell_sensors.specs.Names.{IsReading}
use Rattle.cell_sensors.specs.declared.sense.CraneSense.{CraneSense}
use Rattle.cell_sensors.specs.declared.sense.DepositSense.{DepositSense}
use Rattle.cell_sensors.specs.declared.sense.FeedSense.{FeedSense}
use Rattle.cell_sensors.specs.declared.sense.PressSense.{PressSense}
use Rattle.cell_sensors.specs.declared.sense.RobotSense.{RobotSense}
use Rattle.cell_sensors.specs.declared.sense.TableSense.{TableSense}
use Rattle.cell_devices.specs.declared.act.CraneAct.{CraneAct}
use Rattle.cell_devices.specs.declared.act.DepositAct.{DepositAct}
use Rattle.cell_devices.specs.declared.act.FeedAct.{FeedAct}
use Rattle.cell_devices.specs.declared.act.PressAct.{PressAct}
use Rattle.cell_devices.specs.declared.act.RobotAct.{RobotAct}
use Rattle.cell_devices.specs.declared.act.TableAct.{TableAct}
use Rattle.cell_rules.specs.Names.{ModelState, own_events, is_done_answer, Program, Reached}
use Rattle.cell_control.specs.Steps.{Steps, after_answer}
use Rattle.cell_belts_crane.specs.Names.{crane_steps, deposit_steps, feed_steps}
use Rattle.cell_belts_crane.specs.declared.crane.CraneProgress.{CraneProgress}
use Rattle.cell_belts_crane.specs.declared.crane.CraneReading.{CraneReading}
use Rattle.cell_belts_crane.specs.declared.deposit.DepositProgress.{DepositProgress}
use Rattle.cell_belts_crane.specs.declared.feed.FeedProgress.{FeedProgress}
use Rattle.cell_robot.specs.Names.{near_lines, robot_steps}
use Rattle.cell_robot.specs.declared.robot.RobotProgress.{RobotProgress}
use Rattle.cell_robot.specs.declared.robot.RobotReading.{RobotReading}
use Rattle.cell_table_press.specs.Names.{press_steps, table_steps}
use Rattle.cell_table_press.specs.declared.press.PressProgress.{PressProgress}
use Rattle.cell_table_press.specs.declared.table.TableProgress.{TableProgress}
use Rattle.cell_table_press.specs.declared.table.TableReading.{TableReading}
use Rattle.cell_parts.specs.Axes.{CellScales, robot_points}
use Rattle.cell_team.specs.declared.team.Team.{Team as TeamOfSix}

-- the step of each machine, with its notes
abbrev pub Team : Type 0
Team = TeamOfSix

-- the program of each machine; and those of the cell, by the scales of its potentiometers
pub record Programs : Type 1 where
  pub feed : Steps FeedProgress FeedSense FeedSense FeedAct
  pub table : Steps TableProgress TableSense TableReading TableAct
  pub robot : Steps RobotProgress RobotSense RobotReading RobotAct
  pub press : Steps PressProgress PressSense PressSense PressAct
  pub deposit : Steps DepositProgress DepositSense DepositSense DepositAct
  pub crane : Steps CraneProgress CraneSense CraneReading CraneAct

abbrev pub programs_of : CellScales → Programs
programs_of c =
    record {
      feed = feed_steps;
      table = table_steps c.turn (IsReading c.turn);
      robot = robot_steps (robot_points c) (near_lines (robot_points c));
      press = press_steps;
      deposit = deposit_steps;
      crane = crane_steps c.gripper (IsReading c.gripper);
    }

-- an answer leads to the next step; or the call wasn't done, and the machine has stopped at its step
abbrev pub LeadsOrStays : {S Sense Reading Act : Type 0} → Steps S Sense Reading Act → S → Answer → S → Type 0
LeadsOrStays t p a q = (after_answer t p a ≡ Ok q) ⊎ ((is_done_answer a ≡ false) × (q ≡ p))

-- a step that asks nothing leads on by some reading, whatever sensors give it
pub record DrivesOn {S Sense Reading Act : Type 0} (t : Steps S Sense Reading Act) (p q : S) : Type 0 where
  pub asks_nothing : (t.row p).call ≡ None
  pub reading : Reading
  pub act : Act
  pub drives : t.drives p reading act
  pub is : q ≡ t.after_drive p reading act

abbrev pub program_with_stops : {S Sense Reading Act : Type 0} → Steps S Sense Reading Act → Program S
program_with_stops t = record {
  machine = t.machine;
  call = λ p. (t.row p).call;
  leads = LeadsOrStays t;
  moves = DrivesOn t;
}

-- a machine has come from one step to another by its own events in a history, and may have stopped there
abbrev pub HasComeFrom : {S Sense Reading Act : Type 0} → Steps S Sense Reading Act → S → List Event → S → Type 0
HasComeFrom t first history p = Reached (program_with_stops t) first (own_events history t.machine) p

-- likewise from its start
abbrev pub HasCome : {S Sense Reading Act : Type 0} → Steps S Sense Reading Act → ModelState → List Event → S → Type 0
HasCome t opening history p = HasComeFrom t (t.start opening) history p

-- each machine has come to its step
pub record HaveCome (t : Programs) (opening : ModelState) (history : List Event) (team : Team) : Type 0 where
  pub feed : HasCome t.feed opening history team.feed
  pub table : HasCome t.table opening history team.table
  pub robot : HasCome t.robot opening history team.robot
  pub press : HasCome t.press opening history team.press
  pub deposit : HasCome t.deposit opening history team.deposit
  pub crane : HasCome t.crane opening history team.crane
