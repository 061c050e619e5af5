use Rattle.std.proofs.Common.{sym, subst}
use Rattle.plan_app.specs.Apart.{IsPart, group_of}
use Rattle.plan_app.proofs.GroupsTold.{part_told}
use Rattle.plan_app.proofs.apart.told_alone.Goals as goal

pub returns : goal.returns
returns c =
    let n = c.args.plan.now.named.now in
    let ps = c.args.plan.now.programs.now in
    let opening = c.args.opening.now in
    let ours = group_of c.args.groups.now c.args.first in
    subst (IsPart c.args.most n ps opening ours) (sym c.told_by.ensures)
    (part_told c.args.most n ps opening ours c.in_ok-screen.screen c.in_ok-screen.ensures)
