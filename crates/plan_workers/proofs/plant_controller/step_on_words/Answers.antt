use Rattle.plan_workers.proofs.EachTurn.{stands_on_words}
use Rattle.plan_workers.proofs.plant_controller.step_on_words.Goals as goal

pub returns-clause-on_words : goal.returns-clause-on_words
returns-clause-on_words c = stands_on_words c.args.words c.args.steps.now c.args.place c.step_at.result c.requires c.step_at.ensures
