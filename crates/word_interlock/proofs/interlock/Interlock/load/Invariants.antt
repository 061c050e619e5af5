use Rattle.std.proofs.Common.{[]}
use Rattle.word_interlock.specs.Views.{view_of}
use Rattle.word_interlock.specs.Rule.{looked}
use Rattle.word_interlock.proofs.interlock.Interlock.load.Given as goal

abbrev pub ghosts-load_for : goal.ghosts-load_for
ghosts-load_for g a = record { then = λ st me word me'. looked (g.R.Rules.book a.self.now.rules) a.self.now.rules a.call [] (view_of a.pass.now) word me' }
