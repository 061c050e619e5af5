use Rattle.cell_resume.proofs.TableResumes.{table_resumable}
use Rattle.cell_resume.proofs.table.TableProgramResumable.meets_demands.Goals as goal

pub returns : goal.returns
returns g c = table_resumable c.args.self.now.turn.points (g.F.Gauge.gives c.args.self.now.turn.gauge)
