use Rattle.plan_words.proofs.Motors.{hazards_never_run}
use Rattle.plan_words.proofs.laws.hazards_never_run_between_words.Goals as goal

pub returns : goal.returns
returns c = hazards_never_run
