-- Machines that are in step stay so, and none of them is refused.
use Rattle.cell_resume.proofs.Names.{List, Feed, Table, Robot, Press, Deposit, Crane, Watch, Event, IsReading, ModelState, IsSound, after, IsLegal, own_events, crane_steps, deposit_steps, feed_steps, near_lines, robot_steps, press_steps, table_steps, OwnYieldless, AreYieldless, own_yieldless, yieldless, reached_both, Team, AreInStep}
use Rattle.cell_rules.proofs.lemmas.Histories.{sound-after}
use Rattle.cell_parts.specs.Axes.{CellScales, robot_points}
use Rattle.cell_belts_crane.proofs.lemmas.CraneFacts.{CraneKnows, crane-knowing}
use Rattle.cell_robot.proofs.lemmas.RobotFacts.{RobotKnows, robot-knowing}
use Rattle.cell_team.specs.Names.{programs_of, program_with_stops, HaveComeFrom, first_team}
use Rattle.cell_team.proofs.lemmas.CraneTeam as crane
use Rattle.cell_team.proofs.lemmas.DepositTeam as deposit
use Rattle.cell_team.proofs.lemmas.FeedTeam as feed
use Rattle.cell_team.proofs.lemmas.PressTeam as press
use Rattle.cell_team.proofs.lemmas.RobotTeam as robot
use Rattle.cell_team.proofs.lemmas.TableTeam as table
use Rattle.cell_team.proofs.lemmas.Together.{AllKnow, all_begin, all_know, all_heeded, sound_start}
use Rattle.cell_resume.specs.Laws.{NoResumedMachineIsRefused, ResumedMachinesStayInStep, MachinesAreInStep}
use Rattle.cell_resume.proofs.CraneTeam.{MagnetSo, magnet_kept, magnet_begins, crane_knows, crane_magnets, crane_stands}
use Rattle.cell_resume.proofs.DepositTeam.{deposit_knows, deposit_stands}
use Rattle.cell_resume.proofs.FeedTeam.{feed_knows, feed_stands}
use Rattle.cell_resume.proofs.PressTeam.{press_knows, press_stands}
use Rattle.cell_resume.proofs.RobotTeam.{MagnetsSo, magnets_kept, magnets_begin, robot_knows, robot_magnets, robot_stands}
use Rattle.cell_resume.proofs.TableTeam.{table_knows, table_stands}

-- what machines in step know
all_in_step : (c : CellScales) (team : Team) (z : ModelState) → AreInStep team z → AllKnow team z
all_in_step c team z i = record {
  feed = feed_knows team.feed z i.feed;
  table = table_knows c.turn (IsReading c.turn) team.table z i.table;
  robot = robot_knows (robot_points c) (near_lines (robot_points c)) team.robot z i.robot;
  press = press_knows team.press z i.press;
  deposit = deposit_knows team.deposit z i.deposit;
  crane = crane_knows c.gripper (IsReading c.gripper) team.crane z i.crane;
}

module _ (c : CellScales) (opening : ModelState) (h : List Event) (first : Team) (team : Team) (sound : IsSound opening) (legal : IsLegal opening h) (by : HaveComeFrom (programs_of c) first h team) where
  -- nobody hands over an empty zone
  own : OwnYieldless h
  own Feed e = own_yieldless (program_with_stops feed_steps) first.feed team.feed (own_events h Feed) (λ p. feed.never_yields p.step p) by.feed
  own Table e = own_yieldless (program_with_stops (table_steps c.turn (IsReading c.turn))) first.table team.table (own_events h Table) (λ p. table.never_yields p.step p) by.table
  own Robot e = own_yieldless (program_with_stops (robot_steps (robot_points c) (near_lines (robot_points c)))) first.robot team.robot (own_events h Robot) (λ p. robot.never_yields p.step p) by.robot
  own Press e = own_yieldless (program_with_stops press_steps) first.press team.press (own_events h Press) (λ p. press.never_yields p.step p) by.press
  own Deposit e = own_yieldless (program_with_stops deposit_steps) first.deposit team.deposit (own_events h Deposit) (λ p. deposit.never_yields p.step p) by.deposit
  own Crane e = own_yieldless (program_with_stops (crane_steps c.gripper (IsReading c.gripper))) first.crane team.crane (own_events h Crane) (λ p. crane.never_yields p.step p) by.crane
  own Watch e = cc

  polite : AreYieldless opening h
  polite = yieldless opening h own

  stays : AllKnow first opening → MagnetsSo first.robot opening → MagnetSo first.crane opening → AreInStep team (after opening h)
  stays k arms gripper =
      let z = after opening h in
      let known : AllKnow team z = all_know c opening h first team sound legal by k in
      let robot_now = reached_both (robot_steps (robot_points c) (near_lines (robot_points c))) RobotKnows MagnetsSo (robot-knowing (robot_points c) (near_lines (robot_points c))) (magnets_kept (robot_points c) (near_lines (robot_points c))) first.robot team.robot opening h sound legal polite (k.robot.0, arms) by.robot in
      let crane_now = reached_both (crane_steps c.gripper (IsReading c.gripper)) CraneKnows MagnetSo (crane-knowing c.gripper (IsReading c.gripper)) (magnet_kept c.gripper (IsReading c.gripper)) first.crane team.crane opening h sound legal polite (k.crane.0, gripper) by.crane in
      record {
        feed = feed_stands team.feed z known.feed;
        table = table_stands team.table z known.table;
        robot = robot_stands team.robot z known.robot robot_now.1;
        press = press_stands team.press z known.press;
        deposit = deposit_stands team.deposit z known.deposit;
        crane = crane_stands team.crane z known.crane crane_now.1;
      }

pub none_refused : NoResumedMachineIsRefused
none_refused c opening h first team sound i legal by =
    all_heeded c (after opening h) team (sound-after opening h sound) (all_know c opening h first team sound legal by (all_in_step c first opening i))

pub stay_in_step : ResumedMachinesStayInStep
stay_in_step c opening h first team sound i legal by =
    stays c opening h first team sound legal by (all_in_step c first opening i) (robot_magnets first.robot opening i.robot) (crane_magnets first.crane opening i.crane)

pub are_in_step : MachinesAreInStep
are_in_step c opening h team start legal come =
    let by : HaveComeFrom (programs_of c) (first_team (programs_of c) opening) h team = record { feed = come.feed; table = come.table; robot = come.robot; press = come.press; deposit = come.deposit; crane = come.crane } in
    stays c opening h (first_team (programs_of c) opening) team (sound_start opening start) legal by (all_begin c opening start) (magnets_begin opening) (magnet_begins opening)
