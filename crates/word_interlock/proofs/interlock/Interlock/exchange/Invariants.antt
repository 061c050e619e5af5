use Rattle.word_interlock.specs.Views.{view_of}
use Rattle.word_interlock.specs.Rule.{exchanged}
use Rattle.word_interlock.proofs.interlock.Interlock.exchange.Given as goal

abbrev pub ghosts-exchange_for : goal.ghosts-exchange_for
ghosts-exchange_for g a = record { then = λ st me word me'. exchanged (g.R.Rules.book a.self.now.rules) a.self.now.rules a.call a.old (view_of a.pass.now) word me' }
