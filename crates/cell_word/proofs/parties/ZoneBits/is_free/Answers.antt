use Rattle.cell_word.proofs.Names.{◌∙◌, nat_eq, ap}
use Rattle.std.proofs.Common.{bit_and}
use Rattle.cell_word.specs.Layout as layout
use Rattle.cell_word.proofs.Windows.{lowest_field}
use Rattle.cell_word.proofs.parties.ZoneBits.is_free.Goals as goal

pub returns : goal.returns
returns c = ap (λ n. nat_eq (bit_and n 3) 0) c.lowest.ensures ∙ lowest_field c.args.self.word (layout.zone_bit c.args.self.zone) 2 0
