use Rattle.std.proofs.Common.{◌≡◌, w32, rules}
use Rattle.std.proofs.lemmas.Int.{to_z-of_z}
use mir.Val.{SFits}
use Rattle.cell_sensors.specs.Curve.{ends_of, pairs_of}
use Rattle.cell_sensors.proofs.LineCurve.{ends_make_curve, ends_read_line}
use Rattle.cell_sensors.proofs.curve.Curve.of_line.Goals as goal

pub unwrap-requires : goal.unwrap-requires
unwrap-requires c =
    let low : SFits w32 c.at_lo.result = search rules in
    let high : SFits w32 c.at_hi.result = search rules in
    c.new.ensures.ok.1 (rw (to_z-of_z w32 c.at_lo.result low, to_z-of_z w32 c.at_hi.result high, c.raw_lo.ensures.value, c.at_lo.ensures.value, c.raw_hi.ensures.value, c.at_hi.ensures.value) (ends_make_curve c.args.points c.raw_lo.ensures.limits))

pub returns-clause-line : goal.returns-clause-line
returns-clause-line c =
    let pairs : pairs_of c.unwrap.result ≡ ends_of c.args.points = search rules in
    rw pairs (λ raw v on. ends_read_line c.args.points raw v on)
