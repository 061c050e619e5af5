use Rattle.std.proofs.Common.{◌≡◌, ◌≤◌, inl, inr, length, map, subst, sym, arith}
use Rattle.std.specs.Global.{Vec}
use Rattle.csv_rows.specs.ScriptEnd.{max_records}
use Rattle.plan_types.proofs.lemmas.Below.{below_next}
use Rattle.plan_types.specs.declared.answer.Event.{Event}
use Rattle.plan_app.specs.PlantRunTexts.{history_on}
use Rattle.plan_app.proofs.PlantRunning.{history_there}
use Rattle.plan_app.proofs.plant_run.long_word.Goals as goal

pub loop-word-preserved : goal.loop-word-preserved
loop-word-preserved c = λ word few.
    let histories = c.args.histories.now in
    let all = map (λ (h : Vec Event). h.items) histories in
    let here = c.loop-word.word in
    let found = c.index-histories-word.result in
    let own : history_on all here ≡ found.items =
    history_there histories here found c.loop-word-test.true c.index-histories-word.is in
    let small : length found.items ≤ max_records =
    omega (arith, c.len.ensures, c.if-len-gt-MAX_CALLS.false, found.ok.0) in
    elim (below_next word here (omega (arith, few))) [
      | inl low ↦ c.loop-word.invariant word low
      | inr same ↦ subst (λ w. length (history_on all w) ≤ max_records) (sym same)
          (subst (λ h. length h ≤ max_records) (sym own) small)
    ]
