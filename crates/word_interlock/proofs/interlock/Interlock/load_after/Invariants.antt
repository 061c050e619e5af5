use Rattle.std.proofs.Common.{[], ◌∷◌}
use Rattle.word_interlock.specs.Views.{view_of, told_by}
use Rattle.word_interlock.specs.Rule.{looked}
use Rattle.word_interlock.proofs.interlock.Interlock.load_after.Given as goal

abbrev pub ghosts-load_after_for : goal.ghosts-load_after_for
ghosts-load_after_for g a = record { then = λ st me word me'. looked (g.R.Rules.book a.self.now.rules) a.self.now.rules a.call (told_by a.receipt ∷ []) (view_of a.pass.now) word me' }
