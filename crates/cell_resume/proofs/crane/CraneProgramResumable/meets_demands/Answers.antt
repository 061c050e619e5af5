use Rattle.cell_resume.proofs.CraneResumes.{crane_resumable}
use Rattle.cell_resume.proofs.crane.CraneProgramResumable.meets_demands.Goals as goal

pub returns : goal.returns
returns g c = crane_resumable c.args.self.now.gripper.points (g.F.Gauge.gives c.args.self.now.gripper.gauge)
