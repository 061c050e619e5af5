use Rattle.cell_word.proofs.Names.{◌≡◌, ◌-◌, ◌*◌, ◌%◌, ◌<◌, ◌^◌, ap, ◌∙◌, arith, one_shl, shl_whole, pow_pos, pattern}
use Rattle.cell_word.proofs.patterns.Pattern.field.Goals as goal

pub returns : goal.returns
returns c =
    let w = c.args.width in
    let k = c.args.lowest in
    let v = c.args.value in
    let one : (1 * 2 ^ w) % 2 ^ 64 ≡ 2 ^ w = one_shl w 64 c.requires.narrow in
    let ones : 2 ^ w - 1 < 2 ^ w = omega (arith, pow_pos w) in
    let mask : ((2 ^ w - 1) * 2 ^ k) % 2 ^ 64 ≡ (2 ^ w - 1) * 2 ^ k = shl_whole (2 ^ w - 1) w k 64 ones (omega arith) in
    let wanted : (v * 2 ^ k) % 2 ^ 64 ≡ v * 2 ^ k = shl_whole v w k 64 c.requires.fits (omega arith) in
    ap (λ n. pattern (((n - 1) * 2 ^ k) % 2 ^ 64) ((v * 2 ^ k) % 2 ^ 64)) one
    ∙ ap (λ m. pattern m ((v * 2 ^ k) % 2 ^ 64)) mask
    ∙ ap (pattern ((2 ^ w - 1) * 2 ^ k)) wanted
