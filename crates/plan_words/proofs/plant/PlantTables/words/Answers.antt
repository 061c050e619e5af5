use Rattle.std.proofs.Common.{◌∙◌, sym, subst}
use Rattle.plan_types.specs.Plan.{IsPlan}
use Rattle.plan_words.specs.Plant.{shared_word}
use Rattle.plan_words.proofs.WordFaults.{plan_at}
use Rattle.plan_words.proofs.plant.PlantTables.words.Goals as goal

pub word_of_plan-requires-clause-plan : goal.word_of_plan-requires-clause-plan
word_of_plan-requires-clause-plan c =
    subst (λ groups. IsPlan (shared_word c.args.self.now groups).table) (sym (c.labels.ensures ∙ c.groups-item.is))
    (plan_at c.args.self.now c.args.sharers.now c.loop-groups.groups-index c.groups-item.result c.requires.plans c.loop-groups-test.true)
