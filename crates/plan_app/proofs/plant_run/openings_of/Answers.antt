use Rattle.std.proofs.Common.{◌<◌, ◌+◌, ◌++◌, ◌∷◌, ◌∙◌, [], ap, length, refl, subst, sym, take}
use Rattle.std.proofs.lemmas.List.{get_or_default, map_more, take_more}
use Rattle.std.proofs.lemmas.List.Elements.{All-push, All-same}
use Rattle.std.proofs.lemmas.Option.{slice_get_read}
use Rattle.plan_explorer.specs.Plants.{no_state}
use Rattle.plan_interlock.specs.Book.{plan_of}
use Rattle.plan_interlock.specs.PlantMake.{OpensSoundly}
use Rattle.plan_interlock.specs.declared.plant_make.WordOpening.{WordOpening}
use Rattle.plan_document.specs.declared.resolving.ProgrammedPlan.{ProgrammedPlan}
use Rattle.plan_text.specs.HistoryLaws.{IsStartOf}
use Rattle.plan_app.specs.PlantStarts.{tables_of}
use Rattle.plan_app.proofs.PlantRunning.{one_more_of}
use Rattle.plan_app.proofs.plant_run.openings_of.Goals as goal

pub opening_of-requires : goal.opening_of-requires
opening_of-requires c =
    let plans = c.args.plans.now in
    let starts = c.args.starts.now in
    let word = c.loop-word.word in
    let plan = c.index-plans-word.result in
    let few : word < length plans = c.loop-word-test.true in
    let within : word < length starts = subst (λ n. word < n) (sym c.requires.count) few in
    subst (IsStartOf plan.named) (get_or_default starts word no_state _ within)
    (c.requires.each word plan (slice_get_read plans (length plans) word plan refl few c.index-plans-word.is))

pub loop-word-preserved : goal.loop-word-preserved
loop-word-preserved c =
    let plans = c.args.plans.now in
    let starts = c.args.starts.now in
    let word = c.loop-word.word in
    let plan = c.index-plans-word.result in
    let few : word < length plans = c.loop-word-test.true in
    let within : word < length starts = subst (λ n. word < n) (sym c.requires.count) few in
    let old = c.loop-word.openings.items in
    let more = c.push.new.self.items in
    let opening = c.in_ok-opening_of.field-0 in
    let pushed = c.in_ok-push.ensures.items in
    let made = c.in_ok-opening_of.ensures in
    let before = c.loop-word.invariant in
    record {
      sound = All-same OpensSoundly more _ pushed (All-push OpensSoundly old opening before.sound made.sound);
      rules = one_more_of (λ (o : WordOpening). plan_of o.rules) old more opening (tables_of (take word plans))
          (tables_of (take (word + 1) plans)) plan.named.plan before.rules pushed made.rules
          (map_more (λ (p : ProgrammedPlan). p.named.plan) plans word plan few
          ∙ ap (λ (p : ProgrammedPlan). tables_of (take word plans) ++ p.named.plan ∷ []) (sym c.index-plans-word.is));
      states = one_more_of (λ (o : WordOpening). o.state) old more opening (take word starts)
          (take (word + 1) starts) _ before.states pushed made.state (take_more starts word _ within);
    }
