use Rattle.std.proofs.Common.{arith}
use Rattle.plan_words.proofs.WordNumbers.{no_zone}
use Rattle.plan_words.proofs.words.Words.zone.Goals as goal

pub loop-word-preserved : goal.loop-word-preserved
loop-word-preserved c =
    no_zone c.args.self.now c.args.zone c.loop-word.word c.number_in-number.result c.zones-zones.result.now c.zones-zones.ensures.zones c.number_in-number.ensures (omega arith)
    c.loop-word.invariant

pub returns-clause-none : goal.returns-clause-none
returns-clause-none c = λ _ n l. c.loop-word.invariant n (omega arith)
