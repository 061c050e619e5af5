use Rattle.std.proofs.Common.{◌≡◌, arith, subst}
use Rattle.std.proofs.lemmas.Int.{ints}
use Rattle.cell_parts.specs.Shows.{ShowsRaw}
use Rattle.cell_parts.proofs.potentiometer.MeasuredAxis.tick.Goals as goal

pub invariant_of-self-else-self-before : goal.invariant_of-self-else-self-before
invariant_of-self-else-self-before c =
    let stays : c.args.self.now.axis.position ≡ c.after_tick-self.result.position = omega (arith, ints) in
    record { shows = subst (λ p. ShowsRaw c.args.self.now.points p c.args.self.now.raw) stays c.args.self.now.shows }
