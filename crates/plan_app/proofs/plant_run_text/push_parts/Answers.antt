use Rattle.std.proofs.Common.{map}
use Rattle.plan_app.specs.PlantRunTexts as spec
use Rattle.plan_header.proofs.lemmas.Lines.{one_more}
use Rattle.plan_app.proofs.plant_run_text.push_parts.Goals as goal

pub words-preserved : goal.words-preserved
words-preserved c =
    one_more (spec.part_on c.args.plans.now c.args.starts.now (map (λ h. h.items) c.args.histories.now)) _ _ _ c.words.word c.words.invariant
    c.in_ok-push_part.ensures
