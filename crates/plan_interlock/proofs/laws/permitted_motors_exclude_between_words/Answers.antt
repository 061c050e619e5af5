use Rattle.plan_interlock.proofs.EachRun.{loads_keep_apart}
use Rattle.plan_interlock.proofs.laws.permitted_motors_exclude_between_words.Goals as goal

pub returns : goal.returns
returns c = loads_keep_apart c.hazards_never_run_between_words.ensures c.one_word_keeps_motors_apart.ensures
