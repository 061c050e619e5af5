use Rattle.cell_types.proofs.WordLemmas.{zone_read}
use Rattle.cell_types.proofs.zone.Zone.read.Goals as goal

pub returns : goal.returns
returns c = λ zone. rw c.find_by_word.ensures (zone_read c.args.word.now zone)
