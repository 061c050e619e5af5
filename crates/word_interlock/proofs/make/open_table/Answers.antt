use Rattle.std.proofs.Common.{[]}
use Rattle.word_interlock.proofs.Keeps.{opens}
use Rattle.word_interlock.proofs.make.open_table.Goals as goal

pub of_words-requires : goal.of_words-requires
of_words-requires g c =
    let r = c.args.origin.now.rules in opens (g.R.Rules.book r) (g.met.R.Rules.lawful r) r _ _ [] c.pack.ensures c.requires.sound
