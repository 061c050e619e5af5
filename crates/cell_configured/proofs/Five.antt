-- What has been seen of a configured cell, by its five points and curves.
use Rattle.std.proofs.Common.{◌≡◌, ◌∙◌, List, Result, map, subst, sym}
use Rattle.cell_sensors.specs.Names.{Curved, Scale, pairs_of}
use Rattle.cell_parts.specs.Axes.{CellScales}
use Rattle.cell_plant.specs.Machines.{on_curves}
use Rattle.cell_plant.specs.Names.{SeesBeginning, SeesRun}
use Rattle.cell_plant.specs.declared.frame.Frame.{Frame}
use Rattle.cell_config.specs.Configured.{in_order}
use Rattle.cell_config.specs.declared.configuration.Config.{Config}
use Rattle.cell_configured.specs.Laws.{BeginningsAreSeen, HasFive, RunsAreSeen}
use Rattle.cell_configured.proofs.lemmas.Places.{same_scales}

abbrev five : Scale → Scale → Scale → Scale → Scale → CellScales
five p q r s t = record { arm1 = p; arm2 = q; rotation = r; turn = s; gripper = t }

these : (config : Config) (p q r s t : Scale) (a b c d e : Curved) → HasFive config p q r s t a b c d e → (scales : CellScales) → config.points ≡ in_order scales → scales ≡ five p q r s t
these config p q r s t a b c d e has scales is = same_scales scales (five p q r s t) (sym is ∙ has.points)

module _ {W E : Type 0} (sees : W → Frame → Result (Unit {0}) E → W → Type 0) where
  pub runs : RunsAreSeen sees
  runs config p q r s t a b c d e has turns w v run seen =
      subst (λ (curves : List Curved). SeesRun sees (five p q r s t) (on_curves (map pairs_of curves)) config.start turns w v run) has.curves
      (subst (λ (scales : CellScales). SeesRun sees scales (on_curves (map pairs_of config.curves)) config.start turns w v run)
      (these config p q r s t a b c d e has seen.0 seen.1.0) seen.1.1)

  pub beginnings : BeginningsAreSeen sees
  beginnings config p q r s t a b c d e has turns w v fault seen =
      subst (λ (curves : List Curved). SeesBeginning sees (five p q r s t) (on_curves (map pairs_of curves)) config.start turns w v fault) has.curves
      (subst (λ (scales : CellScales). SeesBeginning sees scales (on_curves (map pairs_of config.curves)) config.start turns w v fault)
      (these config p q r s t a b c d e has seen.0 seen.1.0) seen.1.1)
