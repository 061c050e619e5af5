use Rattle.cell_types.proofs.WordLemmas.{machine_read}
use Rattle.cell_types.proofs.machine.Machine.read.Goals as goal

pub returns : goal.returns
returns c = λ machine. rw c.find_by_word.ensures (machine_read c.args.word.now machine)
