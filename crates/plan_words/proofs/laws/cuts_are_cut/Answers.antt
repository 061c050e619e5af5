use Rattle.plan_words.proofs.CutTables.{cuts_are_cut}
use Rattle.plan_words.proofs.laws.cuts_are_cut.Goals as goal

pub returns : goal.returns
returns g = cuts_are_cut
