use Rattle.cell_belts_crane.proofs.lemmas.CraneFacts.{holds-zone}
use Rattle.cell_belts_crane.proofs.crane.CraneProgramProgram.drive.Goals as goal

pub returns-clause-motor_demands : goal.returns-clause-motor_demands
returns-clause-motor_demands g c = λ asks_nothing opening seen sound legal reached on. holds-zone c.args.self.now.gripper.points (g.F.Gauge.gives c.args.self.now.gripper.gauge) opening seen c.args.progress sound legal reached
