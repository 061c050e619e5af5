-- What an observer has seen of a configured cell's run.
use Rattle.std.proofs.Common.{◌≡◌, List, Result, Ok, Err, IfOk, IfErr}
use Rattle.cell_notes.specs.declared.schedule.Turn.{Turn}
use Rattle.cell_notes.specs.declared.run_record.RunRecord.{RunRecord}
use Rattle.cell_rules.specs.ModelState.{ModelState}
use Rattle.cell_sensors.specs.Scale.{Scale}
use Rattle.cell_parts.specs.Axes.{CellScales}
use Rattle.cell_config.specs.Configured.{in_order}
use Rattle.cell_plant.specs.Names.{CellGauges, SeesBeginning, SeesRun}
use Rattle.cell_plant.specs.declared.observer.SeenFault.{SeenFault}
use Rattle.cell_plant.specs.declared.frame.Frame.{Frame}
use Rattle.cell_plant.proofs.lemmas.Gauged.{GiveAsMuch, sees_as, beginning_as}

module _ {W E : Type 0} (sees : W → Frame → Result (Unit {0}) E → W → Type 0) (c : CellScales) (gives other : CellGauges) (points : List Scale) (opening : ModelState) (turns : List Turn) (w v : W) (fits : points ≡ in_order c) where
  sees_run : (r : Result RunRecord (SeenFault E)) → IfOk r (SeesRun sees c gives opening turns w v) → GiveAsMuch c gives other → IfOk r (λ run. (x : CellScales) × ((points ≡ in_order x) × SeesRun sees x other opening turns w v run))
  sees_run (Ok run) k much = (c, (fits, sees_as sees c gives other much opening turns w v run k))
  sees_run (Err fault) k much = tt

  sees_beginning : (r : Result RunRecord (SeenFault E)) → IfErr r (SeesBeginning sees c gives opening turns w v) → GiveAsMuch c gives other → IfErr r (λ fault. (x : CellScales) × ((points ≡ in_order x) × SeesBeginning sees x other opening turns w v fault))
  sees_beginning (Ok run) k much = tt
  sees_beginning (Err fault) k much = (c, (fits, beginning_as sees c gives other much opening turns w v fault k))

  -- both, by what the gauges give
  pub sees_both : (r : Result RunRecord (SeenFault E)) → IfOk r (SeesRun sees c gives opening turns w v) → IfErr r (SeesBeginning sees c gives opening turns w v) → GiveAsMuch c gives other
      → IfOk r (λ run. (x : CellScales) × ((points ≡ in_order x) × SeesRun sees x other opening turns w v run)) × IfErr r (λ fault. (x : CellScales) × ((points ≡ in_order x) × SeesBeginning sees x other opening turns w v fault))
  sees_both r run ended much = (sees_run r run much, sees_beginning r ended much)
