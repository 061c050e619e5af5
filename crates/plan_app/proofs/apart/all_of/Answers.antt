use Rattle.std.proofs.Common.{subst}
use Rattle.plan_app.specs.Screens.{IsScreen, IsUnfinished}
use Rattle.plan_app.proofs.apart.all_of.Goals as goal

pub returns-in_ok-large_words-in-Unfinished : goal.returns-in_ok-large_words-in-Unfinished
returns-in_ok-large_words-in-Unfinished c = λ groups.
    let n = c.args.plan.now.named.now in
    let ps = c.args.plan.now.programs.now in
    let opening = c.args.opening.now in
    let is : IsUnfinished c.args.most n ps opening c.in-Unfinished.extent =
    subst (IsScreen c.args.most n ps opening) c.in-Unfinished.is c.in_ok-text.ensures in
    (c.in-Unfinished.extent, is, c.in_ok-large_words-in-Unfinished.ensures)
