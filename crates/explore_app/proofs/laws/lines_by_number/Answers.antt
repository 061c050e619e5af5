use Rattle.explore_app.proofs.NumberLines as rows
use Rattle.explore_app.proofs.laws.lines_by_number.Goals as goal

pub returns-clause-numbers : goal.returns-clause-numbers
returns-clause-numbers c = rows.lines

pub returns-clause-machines : goal.returns-clause-machines
returns-clause-machines c = rows.machines

pub returns-clause-rings : goal.returns-clause-rings
returns-clause-rings c = rows.rings

pub returns-clause-rounds : goal.returns-clause-rounds
returns-clause-rounds c = rows.rounds

pub returns-clause-screens : goal.returns-clause-screens
returns-clause-screens c = rows.screens
