use Rattle.word_interlock.specs.Settling.{IsStillBusy}
use Rattle.word_interlock.proofs.interlock.Interlock.settle.Given as goal

abbrev pub invariant-loop-busy : goal.invariant-loop-busy
invariant-loop-busy g l = IsStillBusy (g.R.Rules.book l.fn.self.rules) l.fn.self.tries l._busy l.fn.pass l.pass
