use Rattle.std.proofs.Common.{◌≡◌, ◌+◌, ◌-◌, ◌≤◌, length, take, drop, ap, ◌∙◌, sym, arith, length-take, length-drop}
use lib.Seq.{paste}
use Rattle.std.proofs.lemmas.List.{drop-take}
use Rattle.std.proofs.lemmas.List.Edits.{take-paste}
use Rattle.text_io.proofs.block.Block.remove_first.Goals as goal

pub returns : goal.returns
returns c =
    let all = c.self.inside.bytes in
    let n = c.args.count in
    let left = c.self.inside.len - n in
    let same : left ≡ 0 + left = omega arith in
    let size = ap length c.self.view_is in
    let within : n ≤ c.self.inside.len = omega (arith, c.requires, size, length-take c.self.inside.len all) in
    let room : n + left ≡ c.self.inside.len = omega (arith, within) in
    let fits : c.self.inside.len ≤ length all = omega (arith, c.self.invariant, c.self.told) in
    ap (take left) c.copy_within.ensures.after ∙ ap (λ k. take k (paste all 0 (drop n all) left)) same
    ∙ take-paste all 0 (drop n all) left (omega (arith, fits)) (omega (arith, fits, length-drop n all)) ∙ sym (drop-take n left all) ∙ ap (λ k. drop n (take k all)) room ∙ ap (drop n) c.self.view_is
