use Rattle.std.proofs.Common.{◌≡◌, ◌<◌, ◌∙◌, ap, length, slice_get, Some, refl, sym, subst}
use Rattle.plan_types.specs.declared.call.Call.TheVariants.{Inquire}
use Rattle.plan_controller.specs.declared.step.Step.TheVariants as step
use Rattle.plan_explorer.specs.PlantPrograms.{routed_of}
use Rattle.plan_workers.specs.PlantSteps.{steps_on}
use Rattle.plan_workers.specs.declared.routed_step.RoutedStep.TheVariants.{Run}
use Rattle.plan_app.specs.WholePrograms.{AreAllAt, IsNext, program_on, routed, word_by}
use Rattle.plan_app.proofs.Merging.{found_as, found_await, found_do, found_none, found_run, next_word, not_both}
use Rattle.plan_app.proofs.plant_steps.next_step.Goals as goal

pub returns-in-Some-Do-clause-none : goal.returns-in-Some-Do-clause-none
returns-in-Some-Do-clause-none c = λ none next is.
    let plant = c.args.plant.now in
    let plans = plant.plans.items in
    let m = c.args.machine in
    let calls = routed_of plant.programs.programs m in
    let done = c.args.done.now in
    let call = c.next_call-routed.result in
    let word = c.word_of-word.result in
    let few : word_by call < length plans =
    next_word plans plant.programs.programs plant.programs.words m _ call c.words.ensures.programs c.requires.words.programs c.requires.some c.next_call-routed.ensures in
    let own : c.next_on.result ≡ slice_get (program_on plans m word) (length (steps_on word done)) =
    subst (λ ps. c.next_on.result ≡ slice_get (program_on ps m word) (length (steps_on word done))) c.deref.ensures.value c.next_on.ensures in
    let seen = found_as plans calls m done next call c.next_on.result word c.next_call-routed.ensures c.word_of-word.ensures few own is in
    let asks : call ≡ Some (routed (word_by call) c.in-Some-Do.call) =
    found_do plans calls m next call c.next_on.result c.in-Some-Do.call c.in-Some-Do.faults (c.in-Some-Do.is ∙ ap Some c.in-Some-Do.field-0-is) seen in
    not_both c.asked_step.result none
    (c.asked_step.ensures.asks.1 (subst (λ k. call ≡ Some (routed k c.in-Some-Do.call)) (sym c.word_of-word.ensures) asks))

pub returns-in-Some-Await-clause-none : goal.returns-in-Some-Await-clause-none
returns-in-Some-Await-clause-none c = λ none next is.
    let plant = c.args.plant.now in
    let plans = plant.plans.items in
    let m = c.args.machine in
    let calls = routed_of plant.programs.programs m in
    let done = c.args.done.now in
    let call = c.next_call-routed.result in
    let word = c.word_of-word.result in
    let few : word_by call < length plans =
    next_word plans plant.programs.programs plant.programs.words m _ call c.words.ensures.programs c.requires.words.programs c.requires.some c.next_call-routed.ensures in
    let own : c.next_on.result ≡ slice_get (program_on plans m word) (length (steps_on word done)) =
    subst (λ ps. c.next_on.result ≡ slice_get (program_on ps m word) (length (steps_on word done))) c.deref.ensures.value c.next_on.ensures in
    let seen = found_as plans calls m done next call c.next_on.result word c.next_call-routed.ensures c.word_of-word.ensures few own is in
    let asks : call ≡ Some (routed (word_by call) (Inquire c.in-Some-Await.zone)) =
    found_await plans calls m next call c.next_on.result c.in-Some-Await.zone (c.in-Some-Await.is ∙ ap Some c.in-Some-Await.field-0-is) seen in
    not_both c.awaited_step.result none
    (c.awaited_step.ensures.asks.1 (subst (λ k. call ≡ Some (routed k (Inquire c.in-Some-Await.zone))) (sym c.word_of-word.ensures) asks))

pub returns-in-Some-Run-clause-none : goal.returns-in-Some-Run-clause-none
returns-in-Some-Run-clause-none c = λ none next is.
    let plant = c.args.plant.now in
    let plans = plant.plans.items in
    let m = c.args.machine in
    let calls = routed_of plant.programs.programs m in
    let done = c.args.done.now in
    let call = c.next_call-routed.result in
    let word = c.word_of-word.result in
    let few : word_by call < length plans =
    next_word plans plant.programs.programs plant.programs.words m _ call c.words.ensures.programs c.requires.words.programs c.requires.some c.next_call-routed.ensures in
    let own : c.next_on.result ≡ slice_get (program_on plans m word) (length (steps_on word done)) =
    subst (λ ps. c.next_on.result ≡ slice_get (program_on ps m word) (length (steps_on word done))) c.deref.ensures.value c.next_on.ensures in
    let seen = found_as plans calls m done next call c.next_on.result word c.next_call-routed.ensures c.word_of-word.ensures few own is in
    let run : next ≡ Run c.in-Some-Run.motors c.in-Some-Run.until =
    found_run plans calls m next call c.next_on.result c.in-Some-Run.motors c.in-Some-Run.until (c.in-Some-Run.is ∙ ap Some c.in-Some-Run.field-0-is) seen in
    let all : AreAllAt plans m done (Some (step.Run c.in-Some-Run.motors c.in-Some-Run.until)) =
    λ k low. (subst (IsNext plans calls m done) run is).on_words k (step.Run c.in-Some-Run.motors c.in-Some-Run.until) low refl in
    not_both c.run_step.result none (c.run_step.ensures.runs.1 all)

pub returns-in-None-clause-none : goal.returns-in-None-clause-none
returns-in-None-clause-none c = λ none next is.
    let plant = c.args.plant.now in
    let plans = plant.plans.items in
    let m = c.args.machine in
    let calls = routed_of plant.programs.programs m in
    let done = c.args.done.now in
    let call = c.next_call-routed.result in
    let word = c.word_of-word.result in
    let few : word_by call < length plans =
    next_word plans plant.programs.programs plant.programs.words m _ call c.words.ensures.programs c.requires.words.programs c.requires.some c.next_call-routed.ensures in
    let own : c.next_on.result ≡ slice_get (program_on plans m word) (length (steps_on word done)) =
    subst (λ ps. c.next_on.result ≡ slice_get (program_on ps m word) (length (steps_on word done))) c.deref.ensures.value c.next_on.ensures in
    let seen = found_as plans calls m done next call c.next_on.result word c.next_call-routed.ensures c.word_of-word.ensures few own is in
    found_none plans calls m next call c.next_on.result c.in-None.is seen
