-- The fields of a record by the last moments of the machines.
use Rattle.std.proofs.Common.{ℕ, [], ◌∷◌, ◌∙◌, ap}
use Rattle.cell_rules.specs.Types.{Machine, Feed, Table, Robot, Press, Deposit, Crane, Watch}
use Rattle.cell_rules.specs.Names.{ModelState, noted}
use Rattle.cell_notes.specs.declared.run_record.RunRecord.{RunRecord}
use Rattle.cell_parts.specs.Axes.{CellScales}
use Rattle.cell_plant.specs.Names.{CellGauges}
use Rattle.cell_threads.specs.Workers.{GateOf}
use Rattle.cell_workers.proofs.Names.{has_status_by}
use Rattle.cell_workers.specs.LastMoments.{MomentsAreTold}
use Rattle.cell_workers.specs.Records.{TellsWork}

pub moments-told : (c : CellScales) (gives : CellGauges) (gate : Machine → GateOf) (opening : ModelState) (tries limit : ℕ) (r : RunRecord)
    (k : TellsWork c gives opening tries limit gate r) → MomentsAreTold c gives gate opening tries limit r k
moments-told c gives gate opening tries limit r k = record {
  start = k.start;
  end = k.end;
  axes = k.axes;
  counts =
      k.counts ∙ ap (λ w. (k.last Feed).counts ∷ (k.last Table).counts ∷ (k.last Robot).counts ∷ (k.last Press).counts ∷ (k.last Deposit).counts ∷ (k.last Crane).counts ∷ w.counts ∷ []) k.watch_rests.0;
  status =
      k.status ∙ ap (λ w. k.statuses Feed ∷ k.statuses Table ∷ k.statuses Robot ∷ k.statuses Press ∷ k.statuses Deposit ∷ k.statuses Crane ∷ w ∷ []) k.watch_rests.1;
  journals = k.journals;
  counted = k.counted;
  silent_watch = k.journals Watch ∙ ap (λ w. noted opening w.line.seen Watch) k.watch_rests.0;
  over_one_interlock = λ m. k.opened;
  worked = k.works;
  ended = λ m works. has_status_by (gate m) limit (k.last m).side.stopped (k.last m).counts.turns (k.statuses m) (k.works m works).ends;
  legal = k.audited.legal;
  own = λ m. (k.seen m).own;
}
