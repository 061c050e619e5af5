use Rattle.clap.specs.Words.{found_of}
use Rattle.cell_words.proofs.NumberLemmas.{flag_is_read, flag_number}
use Rattle.cell_words.proofs.words.number_in.Goals as goal

pub unreachable-requires : goal.unreachable-requires
unreachable-requires c = flag_is_read c.get_one.result (found_of c.args.flags.now) c.args.flag.now c.get_one.ensures.value c.requires.0 c.requires.1 c.requires.2 c.in_default.is

pub returns : goal.returns
returns c = flag_number c.get_one.result (found_of c.args.flags.now) c.args.flag.now c.get_one.ensures.value c.requires.0 c.requires.1 c.requires.2 c.in-Some.number c.in-Some.is
