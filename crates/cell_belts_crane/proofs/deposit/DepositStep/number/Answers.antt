use Rattle.cell_belts_crane.proofs.lemmas.StepNumbers.{deposit_tag}
use Rattle.cell_belts_crane.proofs.deposit.DepositStep.number.Goals as goal

pub returns : goal.returns
returns c = deposit_tag c.args.self
