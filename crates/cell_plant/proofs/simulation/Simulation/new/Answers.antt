use Rattle.cell_plant.proofs.Names.{ap, ◌∙◌, cell_scales, five_gauges, sides_of, points_of, Sides, watch_steps, feed_steps, deposit_steps, crane_steps, press_steps, table_steps, gauges_of}
use Rattle.cell_plant.proofs.Stepping.{first_is}
use Rattle.cell_rules.specs.Benches.{Desk}
use Rattle.cell_robot.specs.RobotProgram.{robot_steps}
use Rattle.cell_plant.proofs.Starting.{ready_first}
use Rattle.cell_plant.proofs.simulation.Simulation.new.Goals as goal

pub returns : goal.returns
returns g c =
    let desk = c.new.ensures.desk in
    first_is (cell_scales c.args.cell) (five_gauges c.args.cell) c.args.opening _ _ _ _ _ (ap (λ d. d.opening) desk) (ap (λ d. d.state) desk) (ap (λ w. sides_of c.args.cell w) c.watch_at_start.ensures ∙ c.requires.made.begins) (ap (λ d. d.history) desk) c.empty_notebooks.ensures

pub invariant_of-result : goal.invariant_of-result
invariant_of-result g c =
    let cell = c.args.cell in
    let begins = c.requires.made.begins in
    let o = c.args.opening in
    let opening = c.new.result.opening in
    let seen = c.new.result.history.items in
    let none = ap (λ (d : Desk). d.history) c.new.ensures.desk in
    let same = ap (λ (d : Desk). d.opening) c.new.ensures.desk in
    record {
      fitted = c.requires.made.fitted;
      feed = let side = cell.feed.controller in ready_first feed_steps o opening seen side.stopped side.progress none same (ap (λ (s : Sides). s.feed.progress) begins);
      table = let p = cell.table.controller.program in let side = cell.table.controller in ready_first (table_steps p.turn.points (g.F4.Gauge.gives p.turn.gauge)) o opening seen side.stopped side.progress none same (ap (λ (s : Sides). s.table.progress) begins);
      robot = let p = cell.robot.controller.program in let side = cell.robot.controller in ready_first (robot_steps (points_of p) (gauges_of (g.F1.Gauge.gives p.arm1.gauge) (g.F2.Gauge.gives p.arm2.gauge) (g.F3.Gauge.gives p.rotation.gauge))) o opening seen side.stopped side.progress none same (ap (λ (s : Sides). s.robot.progress) begins);
      press = let side = cell.press.controller in ready_first press_steps o opening seen side.stopped side.progress none same (ap (λ (s : Sides). s.press.progress) begins);
      deposit = let side = cell.deposit.controller in ready_first deposit_steps o opening seen side.stopped side.progress none same (ap (λ (s : Sides). s.deposit.progress) begins);
      crane = let p = cell.crane.controller.program in let side = cell.crane.controller in ready_first (crane_steps p.gripper.points (g.F5.Gauge.gives p.gripper.gauge)) o opening seen side.stopped side.progress none same (ap (λ (s : Sides). s.crane.progress) begins);
      watch = let side = c.watch_at_start.result.controller in ready_first watch_steps o opening seen side.stopped side.progress none same (ap (λ s. s.progress) c.watch_at_start.ensures);
    }
