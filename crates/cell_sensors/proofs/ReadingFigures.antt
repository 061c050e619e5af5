-- What curves read, in figures.
use Rattle.std.proofs.Common.{pos, [], ◌∷◌, refl, arith}
use Rattle.std.specs.Prelude.{neg_ℤ}
use Rattle.cell_sensors.specs.Names.{IsCurve}
use Rattle.cell_sensors.specs.CurveExamples.{quarters, bulging, sunk, falling, even, steps, ReadingExamples}
use Rattle.cell_sensors.proofs.CurveReads.{reads}
use Rattle.cell_sensors.proofs.lemmas.CurveTestLemmas.{curve_of_pass}

bulges : IsCurve quarters bulging
bulges = curve_of_pass quarters bulging refl

falls : IsCurve sunk falling
falls = curve_of_pass sunk falling refl

pub readings : ReadingExamples
readings = record {
  bulges = bulges;
  at_0 = reads bulging 0 0 (pos 0) bulges.rising (omega arith) (omega arith) (omega arith) tt tt;
  at_1 = reads bulging 0 1 (pos 0) bulges.rising (omega arith) (omega arith) (omega arith) tt tt;
  at_500 = reads bulging 0 500 (pos 127) bulges.rising (omega arith) (omega arith) (omega arith) tt tt;
  at_1000 = reads bulging 0 1000 (pos 254) bulges.rising (omega arith) (omega arith) (omega arith) tt tt;
  at_1500 = reads bulging 1 1500 (pos 377) bulges.rising (omega arith) (omega arith) (omega arith) tt tt;
  at_1999 = reads bulging 1 1999 (pos 499) bulges.rising (omega arith) (omega arith) (omega arith) tt tt;
  at_3000 = reads bulging 2 3000 (pos 750) bulges.rising (omega arith) (omega arith) (omega arith) tt tt;
  at_4000 = reads bulging 2 4000 (pos 1000) bulges.rising (omega arith) (omega arith) (omega arith) tt tt;
  falls = falls;
  at_11 = reads falling 0 11 (neg_ℤ (pos 4)) falls.rising (omega arith) (omega arith) (omega arith) tt tt;
  at_13 = reads falling 1 13 (neg_ℤ (pos 3)) falls.rising (omega arith) (omega arith) (omega arith) tt tt;
  at_14 = reads falling 1 14 (neg_ℤ (pos 4)) falls.rising (omega arith) (omega arith) (omega arith) tt tt;
  at_16 = reads falling 2 16 (neg_ℤ (pos 4)) falls.rising (omega arith) (omega arith) (omega arith) tt tt;
  at_17 = reads falling 2 17 (neg_ℤ (pos 2)) falls.rising (omega arith) (omega arith) (omega arith) tt tt;
  fewest_pairs = curve_of_pass quarters ((0, pos 0) ∷ (4000, pos 1000) ∷ []) refl;
  most_pairs = curve_of_pass even (steps 32) refl;
}
