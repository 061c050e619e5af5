use Rattle.film_app.proofs.PlainLines.{lines-plain}
use Rattle.film_app.proofs.laws.lines_need_no_escape.Goals as goal

pub returns : goal.returns
returns c = lines-plain
