use Rattle.std.proofs.Common.{subst}
use Rattle.plan_rules.specs.Sound.{IsSound}
use Rattle.plan_explorer.specs.GroupLaws.{MachinesAreApart}
use Rattle.plan_liveness.specs.Groups.{GroupsGoOn}
use Rattle.plan_liveness.specs.GroupStarving.{GroupsStarve}
use Rattle.plan_app.proofs.PartsSpeak.{parts_speak}
use Rattle.plan_app.proofs.laws.parts_speak_of_all.Goals as goal

pub returns : goal.returns
returns c =
    let n = c.args.plan.now.named in
    let ps = c.args.plan.now.programs in
    let s = c.args.opening.now in
    parts_speak n ps s
    (subst (λ t. MachinesAreApart t ps s) c.plan-2.ensures c.groups_are_apart.ensures.apart)
    (subst (λ t. GroupsGoOn t ps s) c.plan-3.ensures c.groups_go_on.ensures)
    (subst (λ t. GroupsStarve t ps s) c.plan-4.ensures c.groups_starve.ensures)
    (subst (λ t. IsSound t s) c.plan.ensures c.starts_are_sound.ensures)
