use Rattle.cell_types.proofs.WordLemmas.{place_read}
use Rattle.cell_types.proofs.place.Place.read.Goals as goal

pub returns : goal.returns
returns c = λ place. rw c.find_by_word.ensures (place_read c.args.word.now place)
