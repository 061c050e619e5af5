use Rattle.film_app.proofs.LineRows.{line-examples}
use Rattle.film_app.proofs.laws.lines_are_met.Goals as goal

pub returns : goal.returns
returns c = line-examples
