use Rattle.std.proofs.Common.{◌≡◌, ◌∙◌, ◌<◌, [], ap, length, inl, inr, sym, subst, arith}
use Rattle.std.proofs.lemmas.Bool.{cases_lt}
use Rattle.std.proofs.lemmas.List.{get_or-map, get_or_default, length-map}
use Rattle.plan_types.specs.Plan.{IsPlan}
use Rattle.plan_types.specs.Table.{plan_table}
use Rattle.plan_rules.specs.Sound.{IsSound}
use Rattle.plan_explorer.specs.Plants.{no_state, state_on, table_on}
use Rattle.plan_document.specs.declared.resolving.ProgrammedPlan.{ProgrammedPlan}
use Rattle.plan_app.specs.PlantStarts.{tables_of}
use Rattle.plan_app.proofs.laws.are_sound.Goals as goal

pub loop-word-preserved : goal.loop-word-preserved
loop-word-preserved c w l =
    let plans = c.args.plans.now in
    let ts = tables_of plans in
    let word = c.loop-word.word in
    let plan = c.index-plans-word.result in
    let below : word < length plans = c.loop-word-test.true in
    let there : word < length c.args.openings.now = omega (arith, below, c.requires.openings) in
    let table : plan.named.plan ≡ table_on ts word =
    ap (λ (p : ProgrammedPlan). p.named.plan) c.index-plans-word.is
    ∙ sym (get_or-map (λ (p : ProgrammedPlan). p.named.plan) plans word plan (plan_table 0 [] [] []) below) in
    let sound : IsSound plan.named.plan (state_on c.args.openings.now word) =
    subst (IsSound plan.named.plan) (get_or_default c.args.openings.now word _ no_state there) c.is_sound.ensures.sound in
    elim (cases_lt w word) [
      | inl less ↦ c.loop-word.invariant w less
      | inr past ↦
          let is : word ≡ w = omega (arith, l, past) in
          subst (λ x. IsPlan (table_on ts x) × IsSound (table_on ts x) (state_on c.args.openings.now x)) is
          (subst IsPlan table c.is_sound.ensures.plan, subst (λ t. IsSound t (state_on c.args.openings.now word)) table sound)
    ]

pub returns-clause-plans : goal.returns-clause-plans
returns-clause-plans c k d l =
    let plans = c.args.plans.now in
    let tables = tables_of plans in
    let below : k < c.loop-word.word = omega (arith, l, c.loop-word-test.false, length-map plans (λ (p : ProgrammedPlan). p.named.plan)) in
    subst IsPlan (get_or_default tables k (plan_table 0 [] [] []) d l) (c.loop-word.invariant k below).0
