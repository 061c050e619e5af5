use Rattle.std.proofs.Common.{arith}
use Rattle.cell_words.specs.Words.{max_tries, max_turns}
use Rattle.cell_words.proofs.words.flags_in.Goals as goal

pub number_in-requires : goal.number_in-requires
number_in-requires c = (max_turns, omega arith, c.requires.0)

pub number_in-requires-2 : goal.number_in-requires-2
number_in-requires-2 c = (max_tries, omega arith, c.requires.1)
