use Rattle.std.proofs.Common.{arith}
use Rattle.plan_words.proofs.WordNumbers.{no_place}
use Rattle.plan_words.proofs.words.Words.place.Goals as goal

pub loop-word-preserved : goal.loop-word-preserved
loop-word-preserved c =
    no_place c.args.self.now c.args.place c.loop-word.word c.number_in-number.result c.places-places.result.now c.places-places.ensures.places c.number_in-number.ensures (omega arith)
    c.loop-word.invariant

pub returns-clause-none : goal.returns-clause-none
returns-clause-none c = λ _ n l. c.loop-word.invariant n (omega arith)
