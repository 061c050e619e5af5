-- A run of a configuration by six workers.
use Rattle.std.proofs.Common.{◌≡◌, ℕ, List, map, Result, Ok, Err, IfOk}
use Rattle.cell_sensors.specs.Names.{Scale, Curved, pairs_of}
use Rattle.cell_parts.specs.Axes.{CellScales}
use Rattle.cell_plant.specs.Machines.{CellGauges, on_curves}
use Rattle.cell_types.specs.declared.machine.Machine.{Machine}
use Rattle.cell_rules.specs.ModelState.{ModelState}
use Rattle.cell_notes.specs.declared.run_record.RunRecord.{RunRecord}
use Rattle.cell_workers.specs.Records.{TellsWork}
use Rattle.cell_threads.specs.Workers.{GateOf}
use Rattle.cell_workers.proofs.lemmas.Recording.{work_as}
use Rattle.cell_config.specs.Configured.{AreAxisScales, AreCurvesOf, in_order}
use Rattle.cell_configured.proofs.lemmas.Places.{AreOnCurvesAt, AreScalesAt, curves_in_order, on_curves_as}

-- by gauges that give what is on its curves
module _ (points : List Scale) (curves : List Curved) (fits : AreAxisScales points) (at : AreCurvesOf points curves) (a b c d e : Curved) (opening : ModelState) where
  pub worked_so : {E : Type 0} → (tries turns : ℕ) (gate : Machine → GateOf) (result : Result RunRecord E) (scales : CellScales) (gives : CellGauges) → IfOk result (TellsWork scales gives opening tries turns gate)
      → AreScalesAt curves a b c d e scales → AreOnCurvesAt curves a b c d e gives
      → IfOk result (λ r. (x : CellScales) × (points ≡ in_order x) × TellsWork x (on_curves (map pairs_of curves)) opening tries turns gate r)
  worked_so tries turns gate (Ok r) scales gives k in_place on =
      (scales, curves_in_order points curves fits at a b c d e scales in_place, work_as scales gives (on_curves (map pairs_of curves)) (on_curves_as points curves fits at a b c d e scales gives on) opening tries turns gate r k)
  worked_so tries turns gate (Err e) scales gives k in_place on = tt
