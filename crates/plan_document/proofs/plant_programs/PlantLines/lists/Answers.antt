use Rattle.std.proofs.Common.{arith}
use Rattle.plan_document.specs.PlantPrograms.{IsRoutedProgram}
use Rattle.plan_document.proofs.Growing.{numbered_zip_more}
use Rattle.plan_document.proofs.plant_programs.PlantLines.lists.Goals as goal

pub loop-i-preserved : goal.loop-i-preserved
loop-i-preserved c =
    let self = c.args.self.now in
    numbered_zip_more (IsRoutedProgram self.document.now self.words.now self.made.now.plans.items) (λ list. list.items) self.document.now.machines.items c.loop-i.i c.index.result.now c.loop-i.lists.items c.push.new.self.items c.in_ok-list.list
    (omega (arith, c.len-i-end.ensures)) c.index.ensures c.loop-i.invariant c.in_ok-list.ensures c.in_ok-push.ensures.items
