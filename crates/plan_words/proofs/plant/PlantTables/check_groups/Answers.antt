use Rattle.std.proofs.Common.{arith}
use Rattle.plan_words.proofs.WordFaults.{alone_more}
use Rattle.plan_words.proofs.plant.PlantTables.check_groups.Goals as goal

pub loop-label-preserved : goal.loop-label-preserved
loop-label-preserved c =
    alone_more c.args.self.now c.args.groups.now c.loop-label.label-index _ c.in_ok-word.field-0 (omega arith) c.loop-label.invariant c.in_ok-word.ensures.word c.in_ok-word.ensures.plan
