use Rattle.std.proofs.Common.{◌≡◌, ◌++◌, ◌∙◌, ap, length, refl, string_bytes, subst}
use Rattle.plan_explorer.specs.Groups.{alone}
use Rattle.plan_app.specs.Apart.{IsPart, TellsAlone, group_of, head_of, names_text}
use Rattle.plan_app.proofs.apart.push_part.Goals as goal

pub returns-in_ok-push_told-in-Ok-clause-told : goal.returns-in_ok-push_told-in-Ok-clause-told
returns-in_ok-push_told-in-Ok-clause-told c =
    let n = c.args.plan.now.named.now in
    let ours = group_of c.args.groups.now c.args.first in
    let qs = alone ours c.args.plan.now.programs.now in
    let found = string_bytes c.in-Ok.found in
    let names = names_text n c.args.groups.now c.args.first (length c.args.plan.now.programs.now) in
    let named : c.as_str.result.now ≡ names = c.as_str.ensures.value ∙ (c.in_ok-names-in-Ok.ensures ∙ ap (names_text n c.args.groups.now c.args.first) c.count.ensures.count) in
    let also : c.as_str-in-Ok.result.now ≡ found = c.as_str-in-Ok.ensures.value in
    let pushed : string_bytes c.push_told.new.text ≡ string_bytes c.args.text.now ++ (head_of c.as_str.result.now ++ c.as_str-in-Ok.result.now) =
    c.in_ok-push_told-in-Ok.ensures in
    let said : TellsAlone n qs c.args.opening.now ours c.in-Ok.well found =
    subst (IsPart c.args.most n qs c.args.opening.now ours) c.in-Ok.is c.in_ok-well.ensures in (
      head_of names ++ found,
      (found, said, refl),
      pushed ∙ (λ i. string_bytes c.args.text.now ++ (head_of (named i) ++ also i)),
    )
