use Rattle.cell_resume.proofs.DemandsMet.{demands_met}
use Rattle.cell_resume.proofs.resumable.ResumedProgram.drive.Goals as goal

pub returns-clause-motor_demands : goal.returns-clause-motor_demands
returns-clause-motor_demands g c = λ asks opening seen sound legal reached.
    let p = c.args.self.now in
    demands_met (g.P.Program.steps p.program) g.P.Resumable.in_step g.P.Resumable.knows c.meets_demands.ensures p.progress c.args.progress c.args.reading c.drive.result opening seen asks c.drive.ensures.drives sound legal reached
