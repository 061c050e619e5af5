use Rattle.plan_interlock.proofs.Opening.{opened_more, passes_more}
use Rattle.plan_interlock.proofs.plant_make.open_words.Goals as goal

pub words-preserved : goal.words-preserved
words-preserved c =
    let made = c.in-Ok.ensures in
    let word = c.in-Some.word in record {
      opened = opened_more c.words.yielded word c.args.tries c.words.interlocks.items c.push.new.self.items c.in-Ok.interlock c.words.invariant.opened c.in_ok-push.ensures.items made.rules made.opening made.limit;
      passes = passes_more c.words.interlocks.items c.push.new.self.items c.in-Ok.interlock word.rules c.words.passes.items c.push-in-words.new.self.items c.in-Ok.all c.words.invariant.passes c.in_ok-push.ensures.items c.in_ok-push-2.ensures.items made.rules made.passes;
    }
