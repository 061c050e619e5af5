use Rattle.std.proofs.Common.{◌≡◌, ◌++◌, ◌∙◌, ap, length, refl, string_bytes, subst}
use Rattle.plan_liveness.specs.PlantGroups.{alone}
use Rattle.plan_app.specs.Apart.{group_of, head_of}
use Rattle.plan_app.specs.PlantScreens.{IsPart, TellsPlant, names_text}
use Rattle.plan_app.proofs.plant_apart.push_part.Goals as goal

pub returns-in_ok-push_told-in-Ok-clause-told : goal.returns-in_ok-push_told-in-Ok-clause-told
returns-in_ok-push_told-in-Ok-clause-told c =
    let plant = c.args.plant.now in
    let ours = group_of c.args.groups.now c.args.first in
    let qs = alone ours plant.programs.now.programs in
    let found = string_bytes c.in-Ok.found in
    let names = names_text plant.plans.now c.args.groups.now c.args.first (length plant.programs.now.programs) in
    let named : c.as_str.result.now ≡ names = c.as_str.ensures.value ∙ (c.in_ok-names-in-Ok.ensures ∙ ap (names_text plant.plans.now c.args.groups.now c.args.first) c.count.ensures.count) in
    let also : c.as_str-in-Ok.result.now ≡ found = c.as_str-in-Ok.ensures.value in
    let pushed : string_bytes c.push_told.new.text ≡ string_bytes c.args.text.now ++ (head_of c.as_str.result.now ++ c.as_str-in-Ok.result.now) =
    c.in_ok-push_told-in-Ok.ensures in
    let said : TellsPlant ours plant.plans.now qs plant.openings.now c.in-Ok.well found =
    subst (IsPart c.args.most ours plant.plans.now qs plant.openings.now) c.in-Ok.is c.in_ok-well.ensures in (
      head_of names ++ found,
      (found, said, refl),
      pushed ∙ (λ i. string_bytes c.args.text.now ++ (head_of (named i) ++ also i)),
    )
