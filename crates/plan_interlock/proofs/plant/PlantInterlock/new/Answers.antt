use Rattle.std.proofs.Common.{◌≡◌, All, ap, subst, sym, ◌∙◌}
use Rattle.plan_interlock.specs.Plant.{IsOfPlant}
use Rattle.plan_interlock.specs.PlantMake.{callers, machines_of, passes_left}
use Rattle.plan_interlock.proofs.Opening.{all_left, all_of_plant}
use Rattle.plan_interlock.proofs.plant.PlantInterlock.new.Goals as goal

pub take_passes-requires-clause-all : goal.take_passes-requires-clause-all
take_passes-requires-clause-all c =
    let n = c.in_ok-machines.machines in
    let words = c.in-Ok.words.items in
    let same = subst (All (λ w. machines_of w ≡ n)) c.as_slice.ensures.value c.in_ok-machines.ensures.machines in
    c.in-Ok.ensures.passes
    ∙ (all_left n words c.args.words.items c.in_ok-machines.ensures.few c.in-Ok.ensures.opened.rules same
    ∙ ap (λ ws. passes_left ws (callers n)) (sym c.as_slice-2.ensures.value))

pub returns-clause-own : goal.returns-clause-own
returns-clause-own c =
    let passes = c.in-Ok-take_passes.passes.items in
    subst (λ ws. All (IsOfPlant ws) passes) c.as_slice-2.ensures.value (all_of_plant c.as_slice-2.result.now (callers c.in_ok-machines.machines) passes c.in-Ok-take_passes.ensures)
