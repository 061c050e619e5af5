use Rattle.std.proofs.Common.{arith}
use Rattle.plan_words.proofs.WordNumbers.{no_pose}
use Rattle.plan_words.proofs.words.Words.pose.Goals as goal

pub loop-word-preserved : goal.loop-word-preserved
loop-word-preserved c =
    no_pose c.args.self.now c.args.pose c.loop-word.word c.number_in-number.result c.poses-poses.result.now c.poses-poses.ensures.poses c.number_in-number.ensures (omega arith)
    c.loop-word.invariant

pub returns-clause-none : goal.returns-clause-none
returns-clause-none c = λ _ n l. c.loop-word.invariant n (omega arith)
