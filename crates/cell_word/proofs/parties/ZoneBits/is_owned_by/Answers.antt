use Rattle.cell_word.proofs.Names.{◌∙◌, nat_eq, ap₂, Some}
use Rattle.std.proofs.Common.{bit_and}
use Rattle.cell_word.specs.Layout as layout
use Rattle.cell_word.specs.Parties as parties
use Rattle.cell_word.proofs.Windows.{lowest_field}
use Rattle.cell_word.proofs.parties.ZoneBits.is_owned_by.Goals as goal

pub returns : goal.returns
returns c =
    let z = c.args.self.zone in
    ap₂ (λ n code. nat_eq (bit_and n 3) code) c.lowest.ensures (c.code.ensures.code z)
    ∙ lowest_field c.args.self.word (layout.zone_bit z) 2 (layout.owner_code z (Some (parties.machine_of z c.args.party)))
