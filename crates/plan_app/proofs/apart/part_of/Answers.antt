use Rattle.std.proofs.Common.{◌∙◌, IfOk, ap, subst}
use Rattle.plan_explorer.specs.Groups.{alone, group_in, in_group}
use Rattle.plan_app.specs.Apart.{IsPart, group_of}
use Rattle.plan_app.proofs.apart.part_of.Goals as goal

pub returns : goal.returns
returns c =
    let groups = c.args.groups.now in
    let ours = group_of groups c.args.first in
    let is = c.in_ok-programs.ensures
    ∙ ap (λ g. alone (in_group (group_in groups) g) c.args.plan.now.programs.now) c.group_number-group.ensures in
    subst (λ qs. IfOk c.told_alone.result (λ told. IsPart c.args.most c.args.plan.now.named.now qs c.args.opening.now ours told)) is
    c.told_alone.ensures
