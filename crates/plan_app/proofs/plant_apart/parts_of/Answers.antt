use Rattle.std.proofs.Common.{◌+◌, ◌<◌, ◌∙◌, IfErr, IfOk, arith, length, string_bytes, subst, sym}
use Rattle.plan_liveness.specs.PlantGroups.{alone}
use Rattle.plan_app.specs.Apart.{AddsPart, TellsParts, group_of}
use Rattle.plan_app.specs.PlantScreens.{IsUnfinished, told_of}
use Rattle.plan_app.proofs.GroupsTold.{large_is_told, next_part, no_part}
use Rattle.plan_app.proofs.plant_apart.parts_of.Goals.{then-is_first+in_ok-part+in-Ok, else-is_first}
use Rattle.plan_app.proofs.plant_apart.parts_of.Goals as goal

pub machines-preserved : goal.machines-preserved
machines-preserved c =
    let plant = c.args.plant.now in
    let v = told_of plant.plans.now plant.programs.now.programs plant.openings.now in
    let groups = c.args.groups.now in
    let m = c.machines.machine in
    let before = string_bytes c.machines.text in
    elim c.if-is_first.branch [
      | then-is_first+in_ok-part+in-Ok w ↦
          (let after = string_bytes w.push_part.new.text in
          let adds : AddsPart v groups m w.in-Ok.part before after =
          subst (λ found. IfOk found (λ well. AddsPart v groups m well before after)) w.in-Ok.is w.in_ok-part.ensures.told in
          subst (λ text. TellsParts v groups (m + 1) c.if-is_first.well (string_bytes text)) (sym w.text-is)
          (subst (λ well. TellsParts v groups (m + 1) well after) (sym (w.well-is ∙ w.both-well.ensures))
          (next_part v groups m c.machines.well w.in-Ok.part before after (sym c.is_first.ensures ∙ w.if-is_first.true)
          c.machines.invariant adds)))
      | else-is_first w ↦
          subst (λ text. TellsParts v groups (m + 1) c.if-is_first.well (string_bytes text)) (sym w.text-is)
          (subst (λ well. TellsParts v groups (m + 1) well before) (sym w.well-is)
          (no_part v groups m c.machines.well before (sym c.is_first.ensures ∙ w.if-is_first.false) c.machines.invariant))
    ]

pub returns-in-Err : goal.returns-in-Err
returns-in-Err c =
    let plans = c.args.plant.now.plans.now in
    let ps = c.args.plant.now.programs.now.programs in
    let ss = c.args.plant.now.openings.now in
    let groups = c.args.groups.now in
    let m = c.machines.machine in
    let is : IsUnfinished c.args.most plans (alone (group_of groups m) ps) ss c.in-Err.extent =
    subst (λ found. IfErr found (IsUnfinished c.args.most plans (alone (group_of groups m) ps) ss)) c.in-Err.is c.in_ok-part.ensures.large in
    let few : m < length ps = let h = c.machines-test.true in let e = c.count-machine-end.ensures.count in omega arith in
    large_is_told c.args.most (told_of plans ps ss) groups m c.in-Err.extent c.large_part.result few is c.large_part.ensures
