-- By curves, a simulation that goes well has one text.
use Rattle.std.proofs.Common.{◌≡◌, ℕ, zero, suc, ◌+◌, ℤ, List, [], ◌∷◌, inl, inr, Option, None, refl, sym, ap, ◌∙◌, subst, arith}
use Rattle.cell_sensors.specs.Names.{Scale, IsScale, IsLineRoundedDown, Pair, AreNeighbours, IsCurve, IsOnCurve, ends_of, line_through, pair_at}
use Rattle.cell_sensors.proofs.lemmas.LineLemmas.{one_line_at}
use Rattle.cell_notes.specs.declared.run_record.RunRecord.{RunRecord}
use Rattle.cell_parts.specs.Axes.{AreCellScales, CellScales}
use Rattle.cell_plant.specs.Names.{TellsRun, GiveOne, GivesOne, SayTheSame, on_curves}
use Rattle.cell_plant.proofs.lemmas.OneRecord.{says_one}
use Rattle.cell_config.specs.ConfigLaws.{AreCalibrated, HaveCurves, IsCurveOf}
use Rattle.cell_config.specs.Configured.{in_order}
use Rattle.cell_config.specs.Settings.{Settings}
use Rattle.cell_config.proofs.lemmas.CalibratedLaws.{calibrated}
use Rattle.cell_report.specs.Report.{report_text}
use Rattle.cell_report.specs.declared.audit_faults.AuditFault.{AuditFault}
use Rattle.cell_app.specs.OneText.{OneByCurves, ReportsAreOne}
use Rattle.cell_app.specs.Served.{HasOneReport, TellsRunOf}
use Rattle.cell_configured.proofs.lemmas.Places.{fit_alike, same_scales}

-- records that say the same have one report
one_text : (audit : Option AuditFault) (r s : RunRecord) → SayTheSame r s → report_text s audit ≡ report_text r audit
unfolding report_text
one_text audit r s k = rw (k.start, k.counts, k.status, k.end, k.axes) refl

one_by_curves : OneByCurves
one_by_curves c curves opening turns r s scales one k l fine fine' audit =
    one_text audit r s (says_one c (on_curves curves) opening turns r s scales one k l fine fine')

-- a curve reads one position at a raw value: the law of `cell_sensors`
abbrev pub OnePosition : Type 0
OnePosition =
    (s : Scale) (pairs : List Pair) (raw : ℕ) (v w : ℤ) → IsCurve s pairs → IsOnCurve pairs raw v → IsOnCurve pairs raw w → w ≡ v

on_line : (s : Scale) (raw : ℕ) (v : ℤ) (i : ℕ) → AreNeighbours (ends_of s) i raw → IsLineRoundedDown (line_through (pair_at (ends_of s) i) (pair_at (ends_of s) (i + 1))) raw v → IsLineRoundedDown s raw v
on_line s raw v zero between rounded = record { not_above = rounded.not_above; next_above = rounded.next_above }
on_line s raw v (suc i) between rounded = absurd (omega (arith, between.within))

line_gives_one : (s : Scale) → IsScale s → GivesOne (IsOnCurve (ends_of s))
line_gives_one s k raw v w one other = one_line_at s raw v w k (on_line s raw v one.left one.neighbours one.rounded) (on_line s raw w other.left other.neighbours other.rounded)

-- so gauges on the curves of five scales give one position
module _ (law : OnePosition) where
  gives_one : (s : Scale) (pairs : List Pair) → IsScale s → IsCurveOf s pairs → GivesOne (IsOnCurve pairs)
  gives_one s pairs k (inl line) = subst (λ (ps : List Pair). GivesOne (IsOnCurve ps)) (sym line) (line_gives_one s k)
  gives_one s pairs k (inr curve) = λ raw v w. law s pairs raw v w curve

  give_one : (c : CellScales) (curves : List (List Pair)) → AreCellScales c → HaveCurves (in_order c) curves → GiveOne (on_curves curves)
  give_one c [] fit k = absurd k
  give_one c (arm1 ∷ []) fit k = absurd k.1
  give_one c (arm1 ∷ arm2 ∷ []) fit k = absurd k.1.1
  give_one c (arm1 ∷ arm2 ∷ rotation ∷ []) fit k = absurd k.1.1.1
  give_one c (arm1 ∷ arm2 ∷ rotation ∷ turn ∷ []) fit k = absurd k.1.1.1.1
  give_one c (arm1 ∷ arm2 ∷ rotation ∷ turn ∷ gripper ∷ []) fit k =
      record {
        arm1 = gives_one c.arm1 arm1 fit.arm1.scale k.0;
        arm2 = gives_one c.arm2 arm2 fit.arm2.scale k.1.0;
        rotation = gives_one c.rotation rotation fit.rotation.scale k.1.1.0;
        turn = gives_one c.turn turn fit.turn.scale k.1.1.1.0;
        gripper = gives_one c.gripper gripper fit.gripper.scale k.1.1.1.1.0;
      }
  give_one c (arm1 ∷ arm2 ∷ rotation ∷ turn ∷ gripper ∷ more ∷ rest) fit k = absurd k.1.1.1.1.1

  -- the bytes give one start, one schedule, and gauges that give one position
  one_report : (bytes : List ℕ) (r : RunRecord) → TellsRunOf bytes r → HasOneReport bytes r
  one_report bytes r k fine s audit l fine' =
      let fit_settings : AreCalibrated k.settings = calibrated bytes k.settings k.said in
      let given = sym l.said ∙ k.said in
      let same : l.settings ≡ k.settings = cc in
      let points : in_order l.scales ≡ in_order k.scales = sym l.points ∙ ap (λ (x : Settings). x.points) same ∙ k.points in
      let scales : l.scales ≡ k.scales = same_scales l.scales k.scales points in
      let placed = subst (λ (x : CellScales). TellsRun x (on_curves l.settings.curves) l.settings.start l.settings.schedule s) scales l.run in
      let other = subst (λ (x : Settings). TellsRun k.scales (on_curves x.curves) x.start x.schedule s) same placed in
      let fit = fit_alike fit_settings.points.0 k.scales (sym fit_settings.points.1 ∙ k.points) fit_settings.points.2 in
      one_by_curves k.scales k.settings.curves k.settings.start k.settings.schedule r s fit
      (give_one k.scales k.settings.curves fit (subst (λ (x : List Scale). HaveCurves x k.settings.curves) k.points fit_settings.curves))
      k.run other fine fine' audit

  pub one_reports : ReportsAreOne
  one_reports = record {
    curves = one_by_curves;
    report = one_report;
    text = λ bytes text other k l. l.1.1.1 ∙ k.1.0.1 k.1.1.0 l.0 None l.1.0.0 l.1.1.0 ∙ sym k.1.1.1;
  }
