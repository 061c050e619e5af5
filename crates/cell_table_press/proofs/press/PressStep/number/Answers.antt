use Rattle.cell_table_press.proofs.lemmas.StepNumbers.{press_tag, press_small}
use Rattle.cell_table_press.proofs.press.PressStep.number.Goals as goal

pub returns-clause-number : goal.returns-clause-number
returns-clause-number c = press_tag c.args.self

pub returns-clause-small : goal.returns-clause-small
returns-clause-small c = press_small c.args.self
