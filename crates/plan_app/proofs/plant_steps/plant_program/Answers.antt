use Rattle.std.proofs.Common.{◌∙◌, ◌+◌, ap, arith, length, refl, subst}
use Rattle.std.proofs.lemmas.List.{length_push}
use Rattle.plan_explorer.specs.PlantPrograms.{routed_of}
use Rattle.plan_app.specs.WholePrograms.{HasNoNext, IsNext}
use Rattle.plan_app.proofs.Merging.{few_steps, no_program, one_more}
use Rattle.plan_app.proofs.plant_steps.plant_program.Goals as goal

pub returns-in-None-clause-none : goal.returns-in-None-clause-none
returns-in-None-clause-none c = λ none.
    let plant = c.args.plant.now in
    let plans = plant.plans.items in
    let calls = routed_of plant.programs.programs c.args.machine in
    let done = c.loop-count.done.items in
    let no_next : HasNoNext plans calls c.args.machine done =
    subst (HasNoNext plans calls c.args.machine) c.deref.ensures.value (c.in-None.ensures.none refl) in
    no_program plans calls c.args.machine done c.requires.some c.loop-count.invariant.first no_next (c.if_ended.ensures.none none)

pub loop-count-preserved : goal.loop-count-preserved
loop-count-preserved c =
    let plant = c.args.plant.now in
    let plans = plant.plans.items in
    let calls = routed_of plant.programs.programs c.args.machine in
    let done = c.loop-count.done.items in
    let next : IsNext plans calls c.args.machine done c.in-Some.next =
    subst (λ steps. IsNext plans calls c.args.machine steps c.in-Some.next) c.deref.ensures.value c.in-Some.ensures.next in
    record {
      first = one_more plans calls c.args.machine done c.push.new.self.items c.in-Some.next c.loop-count.invariant.first next c.in_ok-push-in-Some.ensures.items;
      count = ap length c.in_ok-push-in-Some.ensures.items ∙ length_push done c.in-Some.next ∙ ap (λ n. n + 1) c.loop-count.invariant.count;
    }

pub returns-clause-none : goal.returns-clause-none
returns-clause-none c = λ same.
    let plant = c.args.plant.now in
    let few = few_steps plant.plans.items (routed_of plant.programs.programs c.args.machine) c.args.machine c.loop-count.done.items c.requires.some c.loop-count.invariant.first in
    let count = c.loop-count.invariant.count in
    let limit = c.step_limit-count-end.ensures in
    let all = c.loop-count-test.false in
    absurd (omega (arith, few, count, limit, all))
