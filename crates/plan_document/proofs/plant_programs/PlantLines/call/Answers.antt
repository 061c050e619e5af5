use Rattle.std.proofs.Common.{◌∙◌, arith, inl, inr, refl, sym, subst}
use Rattle.plan_document.specs.PlantPrograms.{Asks, AsksOnWord}
use Rattle.plan_document.proofs.PlantLines.{item_at, item_same, line_stands}
use Rattle.plan_document.proofs.Written.{if_ok_more}
use Rattle.plan_document.proofs.plant_programs.PlantLines.call.Goals as goal

pub returns-then-has_line : goal.returns-then-has_line
returns-then-has_line c =
    let self = c.args.self.now in
    let part = c.index.result.now in
    let found = c.index-then-has_line.result.now in
    let here = item_at self.made.now.documents.items c.args.word part (omega (arith, c.requires.made.count, c.requires.word)) c.index.ensures in
    if_ok_more c.asked_in.result (Asks found c.args.machine c.args.line.now) (AsksOnWord self.document.now self.words.now self.made.now.plans.items c.args.word c.args.machine c.args.line.now)
    (λ call asks plan is. inr (
      sym (c.has_line.ensures ∙ line_stands self.document.now part self.words.now c.args.word c.args.machine c.args.line.now (c.requires.made.plans c.args.word part plan here is).rows) ∙ c.if-has_line.true,
      subst (λ p. Asks p c.args.machine c.args.line.now call) (item_same self.made.now.plans.items c.args.word found plan c.requires.word c.index-then-has_line.ensures is) asks,
    ))
    c.asked_in.ensures

pub returns-else-has_line : goal.returns-else-has_line
returns-else-has_line c plan is =
    let self = c.args.self.now in
    let part = c.index.result.now in
    let here = item_at self.made.now.documents.items c.args.word part (omega (arith, c.requires.made.count, c.requires.word)) c.index.ensures in
    inl (
      sym (c.has_line.ensures ∙ line_stands self.document.now part self.words.now c.args.word c.args.machine c.args.line.now (c.requires.made.plans c.args.word part plan here is).rows) ∙ c.if-has_line.false,
      refl,
    )
