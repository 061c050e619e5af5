use Rattle.cell_types.proofs.RefusalLemmas.{refusal_read}
use Rattle.cell_types.proofs.answer.Refusal.read.Goals as goal

pub returns : goal.returns
returns c = λ refusal. rw c.find_by_word.ensures (refusal_read c.args.word.now refusal)
