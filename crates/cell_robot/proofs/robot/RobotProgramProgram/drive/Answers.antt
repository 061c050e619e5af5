use Rattle.cell_robot.specs.RobotProgram.{robot_scales, gauges_of}
use Rattle.cell_robot.proofs.lemmas.RobotFacts.{meets-demands}
use Rattle.cell_robot.proofs.robot.RobotProgramProgram.drive.Goals as goal

pub returns-clause-motor_demands : goal.returns-clause-motor_demands
returns-clause-motor_demands g c = λ asks_nothing opening seen sound legal reached.
    let p = c.args.self.now in
    meets-demands (robot_scales p.arm1.points p.arm2.points p.rotation.points) (gauges_of (g.F1.Gauge.gives p.arm1.gauge) (g.F2.Gauge.gives p.arm2.gauge) (g.F3.Gauge.gives p.rotation.gauge)) opening seen c.args.progress _ sound legal reached
