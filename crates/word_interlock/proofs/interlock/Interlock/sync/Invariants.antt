use Rattle.word_interlock.specs.Rule.{gathered}
use Rattle.word_interlock.proofs.interlock.Interlock.sync.Given as goal

abbrev pub ghosts-sync_for : goal.ghosts-sync_for
ghosts-sync_for g a = record { then = λ st me word me'. gathered (g.R.Rules.book a.self.now.rules) a.self.now.rules me word me' }
