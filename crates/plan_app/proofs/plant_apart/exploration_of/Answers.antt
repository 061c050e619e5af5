use Rattle.std.proofs.Common.{true, false, ◌∙◌, ap, subst, sym}
use Rattle.plan_explorer.specs.Groups.{group_in}
use Rattle.plan_liveness.specs.PlantGroups.{AreGroups, AreSmallest}
use Rattle.plan_app.specs.Apart.{some_are_apart}
use Rattle.plan_app.specs.PlantScreens.{told_of}
use Rattle.plan_app.proofs.Inputs.{ok_more}
use Rattle.plan_app.proofs.GroupsTold.{exploration_is}
use Rattle.plan_app.proofs.plant_apart.exploration_of.Goals as goal

pub returns-then-some_are_apart : goal.returns-then-some_are_apart
returns-then-some_are_apart c =
    let plant = c.args.plant.now in
    let groups = c.plant_groups_of-groups.result in
    exploration_is c.args.most true (told_of plant.plans.now plant.programs.now.programs plant.openings.now) groups
    c.parts_of.result (subst (λ ts. AreGroups ts (group_in groups)) c.requires.tables c.plant_groups_of-groups.ensures.apart)
    (subst (λ ts. AreSmallest ts (group_in groups)) c.requires.tables c.plant_groups_of-groups.ensures.smallest)
    (ap (some_are_apart groups) (sym c.calls.ensures) ∙ sym c.some_are_apart.ensures ∙ c.if-some_are_apart.true) c.parts_of.ensures

pub returns-else-some_are_apart : goal.returns-else-some_are_apart
returns-else-some_are_apart c =
    let plant = c.args.plant.now in
    let groups = c.plant_groups_of-groups.result in
    exploration_is c.args.most false (told_of plant.plans.now plant.programs.now.programs plant.openings.now) groups
    c.all_of.result (subst (λ ts. AreGroups ts (group_in groups)) c.requires.tables c.plant_groups_of-groups.ensures.apart)
    (subst (λ ts. AreSmallest ts (group_in groups)) c.requires.tables c.plant_groups_of-groups.ensures.smallest)
    (ap (some_are_apart groups) (sym c.calls.ensures) ∙ sym c.some_are_apart.ensures ∙ c.if-some_are_apart.false)
    (ok_more c.all_of.result _ _ c.all_of.ensures (λ found is. is groups))
