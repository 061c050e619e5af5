use Rattle.plan_app.proofs.HazardRows.{are-kept, hazard-lines, lead-lines}
use Rattle.plan_app.proofs.laws.hazard_lines_are_met.Goals as goal

pub returns : goal.returns
returns c = record { lines = hazard-lines; leads = lead-lines; kept = are-kept }
