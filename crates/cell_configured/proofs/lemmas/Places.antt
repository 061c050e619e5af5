-- A configuration's curves, each in its axis's place.
use Rattle.std.proofs.Common.{◌≡◌, ◌≤◌, ℕ, ℤ, List, [], ◌∷◌, map, sym, ◌∙◌, subst}
use lib.ListN.{get_or}
use Rattle.cell_sensors.specs.Names.{Scale, Curved, IsOnCurve, pairs_of}
use Rattle.cell_sensors.specs.Line.{KeepsCalibration, IsReading}
use Rattle.cell_parts.specs.Axes.{AreCellScales, CellScales, IsAxisScale, arm_end, rotation_end, turn_end, gripper_end}
use Rattle.cell_plant.specs.Machines.{CellGauges, on_curves}
use Rattle.cell_plant.proofs.lemmas.Gauged.{GiveAsMuch}
use Rattle.cell_config.specs.Configured.{AreAxisScales, AreCurvesOf, in_order}

-- what reads a curve keeps the curve's calibration, by whatever name it has
pub keeps_curve : {pre : ℕ → Type 0} {post : ℕ → ℤ → Type 0} {s t : Scale} → s ≡ t → ((raw : ℕ) → t.raw_lo ≤ raw → raw ≤ t.raw_hi → pre raw) → ((raw : ℕ) (v : ℤ) → post raw v → IsReading t raw v) → KeepsCalibration pre post s
keeps_curve {pre = pre} {post = post} e callable near =
    subst (λ (x : Scale). KeepsCalibration pre post x) (sym e)
    (record { callable = callable; near = λ raw low high v k. near raw v k })

-- the scales of the curves at the five places; what a place gives beyond the last curve doesn't matter
pub record AreScalesAt (curves : List Curved) (a b c d e : Curved) (cell : CellScales) : Type 0 where
  pub arm1 : cell.arm1 ≡ (get_or curves 0 a).scale
  pub arm2 : cell.arm2 ≡ (get_or curves 1 b).scale
  pub rotation : cell.rotation ≡ (get_or curves 2 c).scale
  pub turn : cell.turn ≡ (get_or curves 3 d).scale
  pub gripper : cell.gripper ≡ (get_or curves 4 e).scale

module _ (cell other : CellScales) (a b c d e : Curved) where
  -- five scales say that there are five curves
  in_places : (curves : List Curved) → map (λ curve. curve.scale) curves ≡ in_order cell → AreScalesAt curves a b c d e other → in_order cell ≡ in_order other
  in_places [] at k = cc
  in_places (v ∷ []) at k = cc
  in_places (v ∷ w ∷ []) at k = cc
  in_places (v ∷ w ∷ x ∷ []) at k = cc
  in_places (v ∷ w ∷ x ∷ y ∷ []) at k = cc
  in_places (v ∷ w ∷ x ∷ y ∷ z ∷ []) at k =
      let h0 : other.arm1 ≡ v.scale = k.arm1 in
      let h1 : other.arm2 ≡ w.scale = k.arm2 in
      let h2 : other.rotation ≡ x.scale = k.rotation in
      let h3 : other.turn ≡ y.scale = k.turn in
      let h4 : other.gripper ≡ z.scale = k.gripper in
      rw (h0, h1, h2, h3, h4) (sym at)
  in_places (v ∷ w ∷ x ∷ y ∷ z ∷ more ∷ rest) at k = cc

same_arm1 : (x y : CellScales) → in_order x ≡ in_order y → x.arm1 ≡ y.arm1
same_arm1 x y h = cc

same_arm2 : (x y : CellScales) → in_order x ≡ in_order y → x.arm2 ≡ y.arm2
same_arm2 x y h = cc

same_rotation : (x y : CellScales) → in_order x ≡ in_order y → x.rotation ≡ y.rotation
same_rotation x y h = cc

same_turn : (x y : CellScales) → in_order x ≡ in_order y → x.turn ≡ y.turn
same_turn x y h = cc

same_gripper : (x y : CellScales) → in_order x ≡ in_order y → x.gripper ≡ y.gripper
same_gripper x y h = cc

-- scales in the same places are the same, and fit the same axes
pub same_scales : (x y : CellScales) → in_order x ≡ in_order y → x ≡ y
same_scales x y h =
    let arm1 = same_arm1 x y h in
    let arm2 = same_arm2 x y h in
    let rotation = same_rotation x y h in
    let turn = same_turn x y h in
    let gripper = same_gripper x y h in
    λ i. record { arm1 = arm1 i; arm2 = arm2 i; rotation = rotation i; turn = turn i; gripper = gripper i }

pub fit_alike : (x y : CellScales) → in_order x ≡ in_order y → AreCellScales x → AreCellScales y
fit_alike x y h k = record {
  arm1 = subst (IsAxisScale arm_end) (same_arm1 x y h) k.arm1;
  arm2 = subst (IsAxisScale arm_end) (same_arm2 x y h) k.arm2;
  rotation = subst (IsAxisScale rotation_end) (same_rotation x y h) k.rotation;
  turn = subst (IsAxisScale turn_end) (same_turn x y h) k.turn;
  gripper = subst (IsAxisScale gripper_end) (same_gripper x y h) k.gripper;
}

-- the scales of the curves at the five places fit the axes
pub curves_fit : (points : List Scale) (curves : List Curved) → AreAxisScales points → AreCurvesOf points curves → (a b c d e : Curved) (cell : CellScales) → AreScalesAt curves a b c d e cell → AreCellScales cell
curves_fit points curves fits at a b c d e cell k = fit_alike fits.0 cell (in_places fits.0 cell a b c d e curves (at ∙ fits.1) k) fits.2

-- so the points are theirs, in order
pub curves_in_order : (points : List Scale) (curves : List Curved) → AreAxisScales points → AreCurvesOf points curves → (a b c d e : Curved) (cell : CellScales) → AreScalesAt curves a b c d e cell → points ≡ in_order cell
curves_in_order points curves fits at a b c d e cell k = fits.1 ∙ in_places fits.0 cell a b c d e curves (at ∙ fits.1) k

-- what the curves at the five places give is on the curves
pub record AreOnCurvesAt (curves : List Curved) (a b c d e : Curved) (gives : CellGauges) : Type 0 where
  pub arm1 : (raw : ℕ) (v : ℤ) → gives.arm1 raw v → IsOnCurve (pairs_of (get_or curves 0 a)) raw v
  pub arm2 : (raw : ℕ) (v : ℤ) → gives.arm2 raw v → IsOnCurve (pairs_of (get_or curves 1 b)) raw v
  pub rotation : (raw : ℕ) (v : ℤ) → gives.rotation raw v → IsOnCurve (pairs_of (get_or curves 2 c)) raw v
  pub turn : (raw : ℕ) (v : ℤ) → gives.turn raw v → IsOnCurve (pairs_of (get_or curves 3 d)) raw v
  pub gripper : (raw : ℕ) (v : ℤ) → gives.gripper raw v → IsOnCurve (pairs_of (get_or curves 4 e)) raw v

module _ (cell : CellScales) (a b c d e : Curved) (scales : CellScales) (gives : CellGauges) where
  as_placed : (curves : List Curved) → map (λ curve. curve.scale) curves ≡ in_order cell → AreOnCurvesAt curves a b c d e gives → GiveAsMuch scales gives (on_curves (map pairs_of curves))
  as_placed [] at k = cc
  as_placed (v ∷ []) at k = cc
  as_placed (v ∷ w ∷ []) at k = cc
  as_placed (v ∷ w ∷ x ∷ []) at k = cc
  as_placed (v ∷ w ∷ x ∷ y ∷ []) at k = cc
  as_placed (v ∷ w ∷ x ∷ y ∷ z ∷ []) at k =
      record {
        arm1 = λ raw n near given. k.arm1 raw n given;
        arm2 = λ raw n near given. k.arm2 raw n given;
        rotation = λ raw n near given. k.rotation raw n given;
        turn = λ raw n near given. k.turn raw n given;
        gripper = λ raw n near given. k.gripper raw n given;
      }
  as_placed (v ∷ w ∷ x ∷ y ∷ z ∷ more ∷ rest) at k = cc

pub on_curves_as : (points : List Scale) (curves : List Curved) → AreAxisScales points → AreCurvesOf points curves → (a b c d e : Curved) (scales : CellScales) (gives : CellGauges) → AreOnCurvesAt curves a b c d e gives
    → GiveAsMuch scales gives (on_curves (map pairs_of curves))
on_curves_as points curves fits at a b c d e scales gives k = as_placed fits.0 a b c d e scales gives curves (at ∙ fits.1) k
