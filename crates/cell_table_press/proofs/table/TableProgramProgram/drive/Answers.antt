use Rattle.cell_table_press.proofs.lemmas.TableFacts.{drives-held}
use Rattle.cell_table_press.proofs.table.TableProgramProgram.drive.Goals as goal

pub returns-clause-motor_demands : goal.returns-clause-motor_demands
returns-clause-motor_demands g c = λ asks_nothing opening seen sound legal reached on. drives-held c.args.self.now.turn.points (g.F.Gauge.gives c.args.self.now.turn.gauge) opening seen c.args.progress sound legal reached asks_nothing
