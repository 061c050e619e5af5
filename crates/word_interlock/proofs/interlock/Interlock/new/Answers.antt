use Rattle.word_interlock.proofs.Closing.{fresh_bunch}
use Rattle.word_interlock.proofs.interlock.Interlock.new.Goals as goal

pub invariant_of-result : goal.invariant_of-result
invariant_of-result g c = fresh_bunch g.R.Rules.book c.args.rules c.args.opening _ _ c.requires.sound c.in-Some.ensures.own
