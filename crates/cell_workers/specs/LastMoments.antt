-- What a record says of the last moment of each machine, whichever the opening, the tries, the turns and the gate.
use Rattle.std.specs.Prelude.{◌≡◌, ℕ, true, [], ◌∷◌, Some}
use Rattle.cell_rules.specs.Types.{Machine, Feed, Table, Robot, Press, Deposit, Crane, Watch, journal_of}
use Rattle.cell_rules.specs.Names.{IsLegal, ModelState, after, noted, own_events}
use Rattle.cell_notes.specs.Names.{no_counts}
use Rattle.cell_notes.specs.declared.run_record.RunRecord.{RunRecord}
use Rattle.cell_notes.specs.declared.status.Status.TheVariants.{Fine}
use Rattle.cell_parts.specs.Axes.{CellScales}
use Rattle.cell_plant.specs.Names.{CellGauges, steps_by, rig_of}
use Rattle.cell_threads.specs.Laws.{HasStatusBy}
use Rattle.cell_threads.specs.Lines.{passes}
use Rattle.cell_threads.specs.Workers.{AreCountsOf, GateOf, HasEnded}
use Rattle.cell_workers.specs.Records.{TellsWork, first_moment, has_worker}

-- each field of the record, by the last moments; and what the one history is
pub record MomentsAreTold (c : CellScales) (gives : CellGauges) (gate : Machine → GateOf) (opening : ModelState)
    (tries limit : ℕ) (r : RunRecord) (k : TellsWork c gives opening tries limit gate r) : Type 0 where
  pub start : r.start ≡ opening
  pub end : r.end ≡ Some (after opening k.history)
  pub axes : r.axes
      ≡ (k.last Press).side.part.position ∷ (k.last Robot).side.part.arm1.position
      ∷ (k.last Robot).side.part.arm2.position ∷ (k.last Robot).side.part.rotation.position
      ∷ (k.last Table).side.part.lift.position ∷ (k.last Table).side.part.turn.position
      ∷ (k.last Crane).side.part.travel.position ∷ (k.last Crane).side.part.gripper.position ∷ []
  pub counts : r.counts
      ≡ (k.last Feed).counts ∷ (k.last Table).counts ∷ (k.last Robot).counts ∷ (k.last Press).counts
      ∷ (k.last Deposit).counts ∷ (k.last Crane).counts ∷ no_counts ∷ []
  pub status : r.status
      ≡ k.statuses Feed ∷ k.statuses Table ∷ k.statuses Robot ∷ k.statuses Press ∷ k.statuses Deposit
      ∷ k.statuses Crane ∷ Fine ∷ []
  pub journals : (m : Machine) → journal_of r.journals m ≡ noted opening (k.last m).line.seen m
  pub counted : (m : Machine) → AreCountsOf (journal_of r.journals m) (k.last m).counts
  pub silent_watch : journal_of r.journals Watch ≡ []
  pub over_one_interlock : (m : Machine) → (first_moment k.interlock m).line.opening ≡ opening
  pub worked : (m : Machine) → has_worker m ≡ true
      → HasEnded (passes tries) (steps_by c gives m) (rig_of c m) (gate m) limit (first_moment k.interlock m)
      (k.last m) (k.statuses m)
  pub ended : (m : Machine) → has_worker m ≡ true → HasStatusBy (k.last m).side.stopped (k.statuses m)
  pub legal : IsLegal opening k.history
  pub own : (m : Machine) → own_events k.history m ≡ own_events (k.last m).line.seen m

abbrev pub RecordsTellMoments : CellScales → CellGauges → (Machine → GateOf) → Type 0
RecordsTellMoments c gives gate =
    (opening : ModelState) (tries limit : ℕ) (r : RunRecord) (k : TellsWork c gives opening tries limit gate r)
    → MomentsAreTold c gives gate opening tries limit r k
