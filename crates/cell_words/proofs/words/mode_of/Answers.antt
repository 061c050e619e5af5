use Rattle.std.proofs.Common.{rules}
use Rattle.cell_words.proofs.NumberLemmas.{flags_of_run}
use Rattle.cell_words.proofs.words.mode_of.Goals as goal

pub flags_in-turns-requires : goal.flags_in-turns-requires
flags_in-turns-requires c = flags_of_run _ _ _ c.in-Some-run-default.ensures.name c.in-Some-run-default.ensures.rows (search rules) c.requires
