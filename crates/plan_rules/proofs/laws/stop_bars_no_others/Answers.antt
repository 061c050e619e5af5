use Rattle.plan_rules.proofs.Unbarred.{stop_bars_no_others}
use Rattle.plan_rules.proofs.laws.stop_bars_no_others.Goals as goal

pub returns : goal.returns
returns c = stop_bars_no_others
