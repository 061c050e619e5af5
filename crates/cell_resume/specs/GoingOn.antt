-- Six machines that go on in step with a state, machine by machine: which calls are refused, and that each stays in
-- step.
use Rattle.std.specs.Prelude.{◌≡◌, true, List}
use Rattle.cell_types.specs.declared.answer.Event.{Event}
use Rattle.cell_rules.specs.Names.{ModelState, IsSound, after, IsLegal, IsStartState}
use Rattle.cell_parts.specs.Axes.{CellScales}
use Rattle.cell_team.specs.Names.{programs_of, HasCome, HasComeFrom, Team}
use Rattle.cell_team.specs.NextCalls.{NextCalls}
use Rattle.cell_resume.specs.FeedKeeps as feed
use Rattle.cell_resume.specs.TableKeeps as table
use Rattle.cell_resume.specs.RobotKeeps as robot
use Rattle.cell_resume.specs.PressKeeps as press
use Rattle.cell_resume.specs.DepositKeeps as deposit
use Rattle.cell_resume.specs.CraneKeeps as crane

-- after a history: each next call is refused only as worn, or with what its step waits for; and each machine is in step
pub record GoOn (c : CellScales) (team : Team) (s : ModelState) : Type 0 where
  pub calls : NextCalls c s team
  pub feed : feed.in_step team.feed s ≡ true
  pub table : table.in_step team.table s ≡ true
  pub robot : robot.in_step team.robot s ≡ true
  pub press : press.in_step team.press s ≡ true
  pub deposit : deposit.in_step team.deposit s ≡ true
  pub crane : crane.in_step team.crane s ≡ true

-- from a sound state with which each machine is in step, and from a start
pub record MachinesGoOn (c : CellScales) : Type 0 where
  pub from_any_state : (opening : ModelState) (history : List Event) (first team : Team) → IsSound opening
      → feed.in_step first.feed opening ≡ true → table.in_step first.table opening ≡ true
      → robot.in_step first.robot opening ≡ true → press.in_step first.press opening ≡ true
      → deposit.in_step first.deposit opening ≡ true → crane.in_step first.crane opening ≡ true
      → IsLegal opening history
      → HasComeFrom (programs_of c).feed first.feed history team.feed
      → HasComeFrom (programs_of c).table first.table history team.table
      → HasComeFrom (programs_of c).robot first.robot history team.robot
      → HasComeFrom (programs_of c).press first.press history team.press
      → HasComeFrom (programs_of c).deposit first.deposit history team.deposit
      → HasComeFrom (programs_of c).crane first.crane history team.crane
      → GoOn c team (after opening history)
  pub from_a_start : (opening : ModelState) (history : List Event) (team : Team)
      → IsStartState opening → IsLegal opening history
      → HasCome (programs_of c).feed opening history team.feed
      → HasCome (programs_of c).table opening history team.table
      → HasCome (programs_of c).robot opening history team.robot
      → HasCome (programs_of c).press opening history team.press
      → HasCome (programs_of c).deposit opening history team.deposit
      → HasCome (programs_of c).crane opening history team.crane
      → GoOn c team (after opening history)
