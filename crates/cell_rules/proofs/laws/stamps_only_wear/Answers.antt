use Rattle.cell_rules.proofs.lemmas.Restamps.{stamps_only_wear}
use Rattle.cell_rules.proofs.laws.stamps_only_wear.Goals as goal

pub returns : goal.returns
returns c = stamps_only_wear
