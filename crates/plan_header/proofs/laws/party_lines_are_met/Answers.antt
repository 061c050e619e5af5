use Rattle.plan_header.proofs.HeaderRows.{party-lines}
use Rattle.plan_header.proofs.laws.party_lines_are_met.Goals as goal

pub returns : goal.returns
returns c = party-lines
