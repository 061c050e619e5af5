use Rattle.std.proofs.Common.{◌∙◌, ◌≤◌, IfOk, ap, length, subst, sym}
use Rattle.plan_explorer.specs.Groups.{group_in, in_group}
use Rattle.plan_liveness.specs.PlantGroups.{alone}
use Rattle.plan_app.specs.PlantScreens.{IsPart}
use Rattle.plan_app.proofs.plant_apart.part_of.Goals as goal

pub told_of-requires : goal.told_of-requires
told_of-requires c =
    let is = c.requires.opened in
    record {
      tables = is.tables;
      words = subst (λ k. k ≤ length c.args.plant.now.tables.now) (sym c.in_ok-programs.ensures.words) is.words;
      at_most = is.at_most;
      openings = is.openings;
    }

pub returns : goal.returns
returns c =
    let plant = c.args.plant.now in
    let groups = c.args.groups.now in
    let number = c.group_number-number.ensures in
    let same = c.in_ok-programs.ensures.programs ∙ ap (λ g. alone (in_group (group_in groups) g) plant.programs.now.programs) number in
    subst (λ g. IfOk c.told_of.result
    (λ told. IsPart c.args.most (in_group (group_in groups) g) plant.plans.now
    (alone (in_group (group_in groups) (group_in groups c.args.first)) plant.programs.now.programs) plant.openings.now told)) number
    (subst (λ qs. IfOk c.told_of.result
    (λ told. IsPart c.args.most (in_group (group_in groups) c.group_number-number.result) plant.plans.now qs plant.openings.now told)) same
    c.told_of.ensures)
