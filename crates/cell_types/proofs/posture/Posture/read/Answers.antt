use Rattle.cell_types.proofs.WordLemmas.{posture_read}
use Rattle.cell_types.proofs.posture.Posture.read.Goals as goal

pub returns : goal.returns
returns c = λ posture. rw c.find_by_word.ensures (posture_read c.args.word.now posture)
