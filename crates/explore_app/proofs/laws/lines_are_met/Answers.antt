use Rattle.explore_app.proofs.LineRows.{choices-met, lines-met, tallies-met}
use Rattle.explore_app.proofs.laws.lines_are_met.Goals as goal

pub returns-clause-lines : goal.returns-clause-lines
returns-clause-lines c = lines-met

pub returns-clause-choices : goal.returns-clause-choices
returns-clause-choices c = choices-met

pub returns-clause-tallies : goal.returns-clause-tallies
returns-clause-tallies c = tallies-met
