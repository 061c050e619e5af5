use Rattle.plan_header.specs.PlantHeaders as spec
use Rattle.plan_header.proofs.lemmas.Lines.{one_more}
use Rattle.plan_header.proofs.plants.push_headers.Goals as goal

pub words-preserved : goal.words-preserved
words-preserved c =
    one_more (spec.header_on c.args.plans.now) _ _ _ c.words.word c.words.invariant c.in_ok-push_header_on.ensures
