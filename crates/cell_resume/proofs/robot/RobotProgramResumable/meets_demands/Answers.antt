use Rattle.cell_robot.specs.RobotProgram.{robot_scales, gauges_of}
use Rattle.cell_resume.proofs.RobotResumes.{robot_resumable}
use Rattle.cell_resume.proofs.robot.RobotProgramResumable.meets_demands.Goals as goal

pub returns : goal.returns
returns g c =
    let p = c.args.self.now in
    robot_resumable (robot_scales p.arm1.points p.arm2.points p.rotation.points) (gauges_of (g.F1.Gauge.gives p.arm1.gauge) (g.F2.Gauge.gives p.arm2.gauge) (g.F3.Gauge.gives p.rotation.gauge))
