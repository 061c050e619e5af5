use Rattle.std.proofs.Common.{◌<◌, ◌+◌, ◌∙◌, ap, length, map, refl, subst, sym, arith}
use Rattle.std.proofs.lemmas.List.{get_or_default, length-map, length_push, map_push}
use Rattle.std.proofs.lemmas.Option.{slice_get_read, slice_get_within}
use Rattle.std.specs.Global.{Vec}
use Rattle.plan_types.specs.declared.answer.Event.{Event}
use Rattle.plan_explorer.specs.Plants.{no_state, state_on}
use Rattle.plan_app.specs.declared.plant_run.PlantRunFault.TheVariants.{Memory}
use Rattle.plan_app.proofs.PlantRunning.{IsExplainedOn, explained_there, one_history_more, unexplained_at}
use Rattle.plan_app.proofs.plant_run.histories_of.Goals as goal

pub loop-word-preserved : goal.loop-word-preserved
loop-word-preserved c =
    let plans = c.args.plans.now in
    let starts = c.args.starts.now in
    let backs = c.args.backs.now in
    let word = c.loop-word.word in
    let plan = c.index-plans-word.result in
    let few : word < length plans = c.loop-word-test.true in
    let within : word < length starts = subst (λ n. word < n) (sym c.requires.starts) few in
    let there = slice_get_read plans (length plans) word plan refl few c.index-plans-word.is in
    let old = c.loop-word.histories.items in
    let new = c.in_ok-history.history in
    let pushed = c.in_ok-push.ensures.items in
    let count = c.loop-word.invariant.count in
    record {
      count = ap length pushed ∙ length_push old new ∙ ap (λ n. n + 1) count;
      explained = one_history_more (IsExplainedOn plans starts backs) word
          (map (λ (h : Vec Event). h.items) old) _ new.items c.loop-word.invariant.explained
          (length-map old (λ (h : Vec Event). h.items) ∙ count)
          (explained_there plans starts backs word plan _ new.items there
          (get_or_default starts word _ no_state within) c.in_ok-history.ensures.history)
          (ap (map (λ (h : Vec Event). h.items)) pushed ∙ map_push (λ (h : Vec Event). h.items) old new);
    }

pub returns-clause-explained : goal.returns-clause-explained
returns-clause-explained c = λ word plan there.
    c.loop-word.invariant.explained word
    (omega (arith, c.loop-word-test.false, slice_get_within c.args.plans.now word plan there)) plan there

pub returns-in_err-history-clause-fault : goal.returns-in_err-history-clause-fault
returns-in_err-history-clause-fault c =
    let plans = c.args.plans.now in
    let starts = c.args.starts.now in
    let word = c.loop-word.word in
    let plan = c.index-plans-word.result in
    let few : word < length plans = c.loop-word-test.true in
    let within : word < length starts = subst (λ n. word < n) (sym c.requires.starts) few in
    unexplained_at plans starts c.args.backs.now word plan _ c.in_err-history.field-0.0 c.from_residual.result
    (slice_get_read plans (length plans) word plan refl few c.index-plans-word.is)
    (get_or_default starts word _ no_state within) c.in_err-history.ensures.fault c.from_residual.ensures.1

pub returns-in_err-push-clause-fault : goal.returns-in_err-push-clause-fault
returns-in_err-push-clause-fault c =
    let plans = c.args.plans.now in
    let starts = c.args.starts.now in
    let word = c.loop-word.word in
    let plan = c.index-plans-word.result in
    let few : word < length plans = c.loop-word-test.true in
    unexplained_at plans starts c.args.backs.now word plan
    (state_on starts word) Memory c.from_residual-in_err-push.result
    (slice_get_read plans (length plans) word plan refl few c.index-plans-word.is)
    refl tt c.from_residual-in_err-push.ensures.1
