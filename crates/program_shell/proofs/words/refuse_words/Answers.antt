use Rattle.program_shell.proofs.lemmas.Prefixes.{written_prefix}
use Rattle.program_shell.proofs.words.refuse_words.Goals as goal

pub returns-clause-line : goal.returns-clause-line
returns-clause-line g c = written_prefix c.write_text.result _ _ c.args.why.now (rw c.as_bytes.ensures.value at c.write_text.ensures.ok) (rw c.as_bytes.ensures.value at c.write_text.ensures.err)
