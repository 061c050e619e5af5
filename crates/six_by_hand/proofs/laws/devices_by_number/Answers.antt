use Rattle.six_by_hand.proofs.ByNumber.{devices_by_number}
use Rattle.six_by_hand.proofs.laws.devices_by_number.Goals as goal

pub returns : goal.returns
returns c = devices_by_number
