use Rattle.std.proofs.Common.{true, false, ◌∙◌, subst, sym}
use Rattle.plan_explorer.specs.Groups.{AreGroups, AreSmallest, group_in}
use Rattle.plan_app.specs.Apart.{told_of}
use Rattle.plan_app.proofs.Inputs.{ok_more}
use Rattle.plan_app.proofs.GroupsTold.{exploration_is}
use Rattle.plan_app.proofs.apart.exploration_of.Goals as goal

pub returns-then-some_are_apart : goal.returns-then-some_are_apart
returns-then-some_are_apart c =
    let groups = c.groups_of-groups.result in
    exploration_is c.args.most true (told_of c.args.plan.now.named c.args.plan.now.programs c.args.opening.now) groups c.parts_of.result
    (subst (λ t. AreGroups t (group_in groups)) c.plan.ensures c.groups_of-groups.ensures.apart)
    (subst (λ t. AreSmallest t (group_in groups)) c.plan.ensures c.groups_of-groups.ensures.smallest)
    (sym c.some_are_apart.ensures ∙ c.if-some_are_apart.true) c.parts_of.ensures

pub returns-else-some_are_apart : goal.returns-else-some_are_apart
returns-else-some_are_apart c =
    let groups = c.groups_of-groups.result in
    exploration_is c.args.most false (told_of c.args.plan.now.named c.args.plan.now.programs c.args.opening.now) groups c.all_of.result
    (subst (λ t. AreGroups t (group_in groups)) c.plan.ensures c.groups_of-groups.ensures.apart)
    (subst (λ t. AreSmallest t (group_in groups)) c.plan.ensures c.groups_of-groups.ensures.smallest)
    (sym c.some_are_apart.ensures ∙ c.if-some_are_apart.false)
    (ok_more c.all_of.result _ _ c.all_of.ensures (λ found is. is groups))
