use Rattle.std.proofs.Common.{◌^◌, ◌∙◌, arith}
use Rattle.std.proofs.lemmas.Nat.{shl_whole, pow-add, mul-add-lt}
use Rattle.std.specs.Int.Bits.{or_shifted_r}
use Rattle.plan_motors.proofs.mask.with_bits.Goals as goal

pub returns-clause-value : goal.returns-clause-value
returns-clause-value c =
    let whole = shl_whole c.args.value c.args.width c.args.lowest 64 c.requires.fits (omega arith) in
    rw whole (or_shifted_r c.args.value c.args.lowest c.args.word c.requires.below ∙ omega arith)

pub returns-clause-below : goal.returns-clause-below
returns-clause-below c =
    rw (returns-clause-value c) (rw (pow-add 2 c.args.lowest c.args.width) (omega (arith, mul-add-lt c.args.value (2 ^ c.args.lowest) c.args.word (2 ^ c.args.width) c.requires.fits c.requires.below)))
