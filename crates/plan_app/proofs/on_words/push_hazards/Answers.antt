use Rattle.plan_app.specs.OnWords as spec
use Rattle.plan_header.proofs.lemmas.Lines.{one_more}
use Rattle.plan_app.proofs.on_words.push_hazards.Goals as goal

pub hazards-preserved : goal.hazards-preserved
hazards-preserved c =
    one_more (spec.hazard_line c.args.plans.now c.args.titles.now c.args.keepers.now) _ _ _ c.hazards.hazard c.hazards.invariant
    c.in_ok-push_hazard.ensures
