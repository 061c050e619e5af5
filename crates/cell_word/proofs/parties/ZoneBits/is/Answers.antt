use Rattle.cell_word.proofs.Names.{◌+◌, ◌/◌, ◌^◌, ◌∙◌, nat_eq, ap, ap₂, shr-shr}
use Rattle.std.proofs.Common.{bit_and}
use Rattle.cell_word.specs.Layout as layout
use Rattle.cell_word.proofs.Windows.{lowest_field}
use Rattle.cell_word.proofs.parties.ZoneBits.is.Goals as goal

pub returns : goal.returns
returns c =
    let w = c.args.self.word in
    let k = layout.zone_bit c.args.self.zone in
    let code = layout.posture_code c.args.posture in
    ap₂ (λ n code. nat_eq (bit_and (n / 2 ^ 3) 3) code) c.lowest.ensures c.posture_code.ensures.code
    ∙ ap (λ n. nat_eq (bit_and n 3) code) (shr-shr w k 3)
    ∙ lowest_field w (k + 3) 2 code
