-- Machines' steps that are the same by the program's `==` are one.
use Rattle.std.proofs.Common.{◌≡◌, ◌∙◌, Bool, true, ◌&&◌, ap}
use Rattle.std.proofs.lemmas.Bool.{and_parts}
use denote.Enum.Bare.{same_true}
use Rattle.cell_belts_crane.specs.contracts.crane.CraneStep.{the_type as crane_type}
use Rattle.cell_belts_crane.specs.contracts.crane.CraneStepPartialEq.TheImpl.{ghosts as crane_ghosts}
use Rattle.cell_belts_crane.specs.contracts.deposit.DepositStep.{the_type as deposit_type}
use Rattle.cell_belts_crane.specs.contracts.deposit.DepositStepPartialEq.TheImpl.{ghosts as deposit_ghosts}
use Rattle.cell_belts_crane.specs.contracts.feed.FeedStep.{the_type as feed_type}
use Rattle.cell_belts_crane.specs.contracts.feed.FeedStepPartialEq.TheImpl.{ghosts as feed_ghosts}
use Rattle.cell_robot.specs.contracts.robot.RobotStep.{the_type as robot_type}
use Rattle.cell_robot.specs.contracts.robot.RobotStepPartialEq.TheImpl.{ghosts as robot_ghosts}
use Rattle.cell_table_press.specs.contracts.press.PressStep.{the_type as press_type}
use Rattle.cell_table_press.specs.contracts.press.PressStepPartialEq.TheImpl.{ghosts as press_ghosts}
use Rattle.cell_table_press.specs.contracts.table.TableStep.{the_type as table_type}
use Rattle.cell_table_press.specs.contracts.table.TableStepPartialEq.TheImpl.{ghosts as table_ghosts}
use Rattle.cell_plant.specs.declared.frame.MachineSteps.{MachineSteps}

abbrev pub same_steps : MachineSteps → MachineSteps → Bool
same_steps a b =
    feed_ghosts.eq a.feed b.feed
    && (table_ghosts.eq a.table b.table
    && (robot_ghosts.eq a.robot b.robot && (press_ghosts.eq a.press b.press && (deposit_ghosts.eq a.deposit b.deposit && crane_ghosts.eq a.crane b.crane))))

pub one_steps : (a b : MachineSteps) → same_steps a b ≡ true → a ≡ b
one_steps a b e =
    let f = and_parts _ _ e in
    let t = and_parts _ _ f.1 in
    let r = and_parts _ _ t.1 in
    let p = and_parts _ _ r.1 in
    let d = and_parts _ _ p.1 in
    ap (λ x. record a { feed = x }) (same_true feed_type tt a.feed b.feed f.0)
    ∙ ap (λ x. record a { feed = b.feed; table = x }) (same_true table_type tt a.table b.table t.0)
    ∙ ap (λ x. record a { feed = b.feed; table = b.table; robot = x }) (same_true robot_type tt a.robot b.robot r.0)
    ∙ ap (λ x. record b { press = x; deposit = a.deposit; crane = a.crane }) (same_true press_type tt a.press b.press p.0)
    ∙ ap (λ x. record b { deposit = x; crane = a.crane }) (same_true deposit_type tt a.deposit b.deposit d.0)
    ∙ ap (λ x. record b { crane = x }) (same_true crane_type tt a.crane b.crane d.1)
