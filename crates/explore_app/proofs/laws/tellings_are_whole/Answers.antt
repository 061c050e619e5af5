use Rattle.explore_app.proofs.ScreenRows.{tellings-whole}
use Rattle.explore_app.proofs.laws.tellings_are_whole.Goals as goal

pub returns : goal.returns
returns c = tellings-whole
