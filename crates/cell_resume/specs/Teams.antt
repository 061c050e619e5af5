-- Six machines at steps that are in step with a state.
use Rattle.std.specs.Prelude.{◌≡◌, true}
use Rattle.cell_rules.specs.ModelState.{ModelState}
use Rattle.cell_team.specs.Names.{Team}
use Rattle.cell_resume.specs.FeedKeeps as feed
use Rattle.cell_resume.specs.TableKeeps as table
use Rattle.cell_resume.specs.RobotKeeps as robot
use Rattle.cell_resume.specs.PressKeeps as press
use Rattle.cell_resume.specs.DepositKeeps as deposit
use Rattle.cell_resume.specs.CraneKeeps as crane

-- each machine is in step with the state
pub record AreInStep (team : Team) (s : ModelState) : Type 0 where
  pub feed : feed.in_step team.feed s ≡ true
  pub table : table.in_step team.table s ≡ true
  pub robot : robot.in_step team.robot s ≡ true
  pub press : press.in_step team.press s ≡ true
  pub deposit : deposit.in_step team.deposit s ≡ true
  pub crane : crane.in_step team.crane s ≡ true

-- a state, and the step of each machine there
pub record Stood : Type 0 where
  pub state : ModelState
  pub team : Team

abbrev pub stood : ModelState → Team → Stood
stood s team = record { state = s; team = team }
