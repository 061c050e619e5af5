use Rattle.plan_header.proofs.HeaderRows.{mask-lines}
use Rattle.plan_header.proofs.laws.masks_are_printed.Goals as goal

pub returns : goal.returns
returns c = mask-lines
