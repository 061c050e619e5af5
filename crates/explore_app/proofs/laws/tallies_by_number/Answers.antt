use Rattle.explore_app.proofs.NumberTallies as rows
use Rattle.explore_app.proofs.laws.tallies_by_number.Goals as goal

pub returns-clause-tallies : goal.returns-clause-tallies
returns-clause-tallies c = rows.tallies

pub returns-clause-lines : goal.returns-clause-lines
returns-clause-lines c = rows.lines

pub returns-clause-liveness : goal.returns-clause-liveness
returns-clause-liveness c = rows.liveness
