use Rattle.cell_word.proofs.Names.{◌∙◌, nat_eq, ap}
use Rattle.std.proofs.Common.{bit_and}
use Rattle.cell_word.specs.Layout as layout
use Rattle.cell_word.proofs.Windows.{moved_down}
use Rattle.cell_word.proofs.parties.ZoneBits.has_plate.Goals as goal

pub returns : goal.returns
returns c = ap (λ n. nat_eq (bit_and n 4) 4) c.lowest.ensures ∙ moved_down c.args.self.word (layout.zone_bit c.args.self.zone) 2 1 1
