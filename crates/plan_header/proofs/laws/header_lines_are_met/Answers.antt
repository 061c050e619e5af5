use Rattle.plan_header.proofs.HeaderRows.{capitals-made, header-lines}
use Rattle.plan_header.proofs.laws.header_lines_are_met.Goals as goal

pub returns : goal.returns
returns c = record { lines = header-lines; capitals = capitals-made }
