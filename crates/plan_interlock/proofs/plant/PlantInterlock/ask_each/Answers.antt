use Rattle.std.proofs.Common.{arith}
use Rattle.plan_interlock.proofs.EachWord.{ask_more}
use Rattle.plan_interlock.proofs.plant.PlantInterlock.ask_each.Goals as goal

pub loop-word-preserved : goal.loop-word-preserved
loop-word-preserved c =
    let e = c.ask.ensures in
    let few = c.words-word-end.ensures.few in
    let low = c.loop-word-test.true in
    ask_more c.args.call c.args.self.now c.args.pass.now c.loop-word.pass c.ask.new.pass c.loop-word.replies c.loop-word.word c.ask.result (omega (arith, few, low)) c.loop-word.invariant e.asked e.other_words e.pass
