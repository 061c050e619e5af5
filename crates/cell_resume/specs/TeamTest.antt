-- The test of six machines, one after another.
use Rattle.std.specs.Prelude.{Result, Ok, Err}
use Rattle.cell_types.specs.declared.machine.Machine.TheVariants as machine
use Rattle.cell_rules.specs.ModelState.{ModelState}
use Rattle.cell_team.specs.Names.{Team}
use Rattle.cell_resume.specs.declared.checkpoint.Checkpoint.{Checkpoint}
use Rattle.cell_resume.specs.declared.fault.ResumeFault.{ResumeFault}
use Rattle.cell_resume.specs.Testing.{tested}
use Rattle.cell_resume.specs.FeedKeeps as feed
use Rattle.cell_resume.specs.TableKeeps as table
use Rattle.cell_resume.specs.RobotKeeps as robot
use Rattle.cell_resume.specs.PressKeeps as press
use Rattle.cell_resume.specs.DepositKeeps as deposit
use Rattle.cell_resume.specs.CraneKeeps as crane

-- if the test before gave a step, the tests after it go on
abbrev pub then_test : {P Q : Type 0} → Result P ResumeFault → (P → Result Q ResumeFault) → Result Q ResumeFault
then_test (Ok p) others = others p
then_test (Err fault) others = Err fault

abbrev pub team_in : Checkpoint → ModelState → Result Team ResumeFault
team_in c s =
    then_test (tested machine.Feed (feed.progress_at c.feed s) (λ p. feed.in_step p s)) (λ f.
    then_test (tested machine.Table (table.progress_at c.table s) (λ p. table.in_step p s)) (λ t.
    then_test (tested machine.Robot (robot.progress_at c.robot s) (λ p. robot.in_step p s)) (λ r.
    then_test (tested machine.Press (press.progress_at c.press s) (λ p. press.in_step p s)) (λ p.
    then_test (tested machine.Deposit (deposit.progress_at c.deposit s) (λ p. deposit.in_step p s)) (λ d.
    then_test (tested machine.Crane (crane.progress_at c.crane) (λ p. crane.in_step p s)) (λ h.
    Ok (record { feed = f; table = t; robot = r; press = p; deposit = d; crane = h })))))))
