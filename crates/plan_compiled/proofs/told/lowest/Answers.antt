use Rattle.std.proofs.Common.{◌≡◌, ◌*◌, ◌%◌, ◌<◌, ◌≤◌, ◌^◌, sym, subst, arith}
use Rattle.std.proofs.Math.Nat.{pow-le-pow_right}
use Rattle.std.proofs.lemmas.Nat.{mod_below, one_shl, pow_pos}
use Rattle.plan_compiled.proofs.told.lowest.Goals as goal

pub returns-clause-few : goal.returns-clause-few
returns-clause-few c =
    let bits = c.args.bits in
    let rest = c.args.rest in
    let unit : (1 * 2 ^ bits) % 2 ^ 64 ≡ 2 ^ bits = one_shl bits 64 (omega (arith, c.requires)) in
    let small : rest % 2 ^ bits < 2 ^ bits = mod_below rest (2 ^ bits) (pow_pos bits) in
    let most : 2 ^ bits ≤ 2 ^ 5 = pow-le-pow_right (omega arith) c.requires in
    subst (λ m. rest % m < 32) (sym unit) (omega (arith, small, most))
