use Rattle.cell_table_press.proofs.lemmas.PressFacts.{drives-held}
use Rattle.cell_table_press.proofs.press.PressProgramProgram.drive.Goals as goal

pub returns-clause-motor_demands : goal.returns-clause-motor_demands
returns-clause-motor_demands c = λ asks_nothing opening seen sound legal reached on. drives-held opening seen c.args.progress sound legal reached asks_nothing
