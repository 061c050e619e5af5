use Rattle.cell_word.proofs.ZonesAtOnce.{codes_at_once}
use Rattle.cell_word.proofs.state_words.are_lawful_codes.Goals as goal

pub returns : goal.returns
returns c = codes_at_once c.args.word c.requires.clear
