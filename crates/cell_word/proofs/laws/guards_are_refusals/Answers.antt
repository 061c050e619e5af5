use Rattle.cell_word.proofs.GuardsHold.{guards_hold, guards_ordered}
use Rattle.cell_word.proofs.laws.guards_are_refusals.Goals as goal

pub returns : goal.returns
returns c = record { first = guards_hold; order = guards_ordered }
