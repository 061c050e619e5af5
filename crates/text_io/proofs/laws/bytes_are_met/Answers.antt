use Rattle.text_io.proofs.ByteRows.{bytes_are_met}
use Rattle.text_io.proofs.laws.bytes_are_met.Goals as goal

pub returns : goal.returns
returns c = bytes_are_met
