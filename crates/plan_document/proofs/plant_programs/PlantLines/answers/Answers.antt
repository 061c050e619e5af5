use Rattle.std.proofs.Common.{arith, string_bytes, subst}
use Rattle.plan_document.specs.PlantPrograms.{IsRouted}
use Rattle.plan_document.proofs.Growing.{mapped_all, mapped_more}
use Rattle.plan_document.proofs.plant_programs.PlantLines.answers.Goals as goal

pub loop-item-preserved : goal.loop-item-preserved
loop-item-preserved c =
    let self = c.args.self.now in
    let routed = IsRouted self.document.now self.words.now self.made.now.plans.items c.args.machine in
    mapped_more string_bytes routed c.args.lines.now c.loop-item.item c.index-lines-item.result c.loop-item.answers.items c.push.new.self.items c.in_ok-answer.answer
    (omega arith) c.index-lines-item.is c.loop-item.invariant (subst (λ text. routed text c.in_ok-answer.answer) c.as_str.ensures.value c.in_ok-answer.ensures) c.in_ok-push.ensures.items

pub returns : goal.returns
returns c =
    let self = c.args.self.now in
    mapped_all string_bytes (IsRouted self.document.now self.words.now self.made.now.plans.items c.args.machine) c.args.lines.now c.loop-item.item c.loop-item.answers.items c.loop-item-test.false c.loop-item.invariant
