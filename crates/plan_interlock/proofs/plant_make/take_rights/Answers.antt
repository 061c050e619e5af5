use Rattle.plan_interlock.proofs.Opening.{left_more, rights_more}
use Rattle.plan_interlock.proofs.plant_make.take_rights.Goals as goal

pub loop-word-preserved : goal.loop-word-preserved
loop-word-preserved c =
    let words = c.args.interlocks.now in
    let k = c.loop-word.word in
    let i = c.index-interlocks-word.result in
    let p = c.index_mut.result.now in
    let q = c.take_pass-right.new.passes in
    let right = c.take_pass-right.result in
    let took = c.take_pass-right.ensures in
    let read = c.index_mut.ensures.value in record {
      rights = rights_more words k c.args.actor i c.loop-word-test.true c.index-interlocks-word.is c.requires.next.0 c.loop-word.passes.items p q right c.loop-word.rights.items c.push.new.self.items (c.loop-word.invariant.left c.requires.next.0 c.requires.next.1) read took.taken took.table took.same c.loop-word.invariant.rights c.in_ok-push.ensures.items;
      left = λ rest first. left_more words k c.args.actor i c.loop-word-test.true c.index-interlocks-word.is rest c.loop-word.passes.items p q right (c.loop-word.invariant.left rest first) read took.taken took.table took.same;
    }
