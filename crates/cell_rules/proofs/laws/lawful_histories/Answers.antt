use Rattle.cell_rules.proofs.lemmas.Assembly.{lawful_at}
use Rattle.cell_rules.proofs.laws.lawful_histories.Goals as goal

pub returns : goal.returns
returns c = λ s h sound legal before more split. lawful_at s h before more sound legal split
