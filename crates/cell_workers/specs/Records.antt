-- What a record says of six workers over one interlock.
use Rattle.std.specs.Prelude.{◌≡◌, ℕ, Bool, true, false, List, map, Some}
use Rattle.cell_rules.specs.Types.{Machine, Feed, Table, Robot, Press, Deposit, Crane, Watch, Event, all_machines}
use Rattle.cell_rules.specs.Types.{journal_of}
use Rattle.cell_rules.specs.Names.{ModelState, after, noted, Waits, LawfulThroughout, IsAudited}
use Rattle.cell_interlock.specs.Views.{PassView, InterlockView}
use Rattle.cell_interlock.specs.Fresh.{fresh_pass}
use Rattle.cell_notes.specs.Names.{no_counts}
use Rattle.cell_notes.specs.declared.run_record.RunRecord.{RunRecord}
use Rattle.cell_notes.specs.declared.status.Status.{Status}
use Rattle.cell_notes.specs.declared.status.Status.TheVariants.{Fine}
use Rattle.cell_parts.specs.Names.{CellScales}
use Rattle.cell_parts.specs.declared.plant.PlantState.{PlantState}
use Rattle.cell_plant.specs.Names.{CellGauges, ProgressOf, PartOf, any_near, steps_by, rig_of, side_in}
use Rattle.cell_plant.specs.Names.{sides_at_start, positions_in}
use Rattle.cell_threads.specs.Lines.{passes}
use Rattle.cell_threads.specs.Workers.{GateOf, WorkerMoment, HasEnded, AreCountsOf}

-- the six machines have workers, the watch none
abbrev pub has_worker : Machine → Bool
has_worker Watch = false
has_worker _ = true

abbrev pub MomentOf : Machine → Type 0
MomentOf m = WorkerMoment PassView (ProgressOf m) (PartOf m)

-- before its first turn a worker has a pass that has seen nothing, and its machine is at its start
abbrev pub first_moment : InterlockView → (m : Machine) → MomentOf m
first_moment i m = record { line = fresh_pass i m; side = side_in (sides_at_start i.opening) m; counts = no_counts }

-- the parts of the machines when their workers end; these aren't states of one moment
abbrev pub parts_at_ends : ((m : Machine) → MomentOf m) → PlantState
parts_at_ends last =
    record {
      feed = (last Feed).side.part;
      table = (last Table).side.part;
      robot = (last Robot).side.part;
      press = (last Press).side.part;
      deposit = (last Deposit).side.part;
      crane = (last Crane).side.part;
    }

-- A record is of six workers, one for each machine, over one interlock. It gives the turns of each, by what the gauges
-- may give, from its machine's start to its last moment; the watch does nothing. There is one history, lawful
-- throughout: each has seen a prefix of it, with all events of its machine; the journals are those of this history, and
-- the end is the state after it.
pub record TellsWork (scales : CellScales) (gives : CellGauges) (opening : ModelState) (tries limit : ℕ)
    (gate : Machine → GateOf) (r : RunRecord) : Type 0 where
  pub interlock : InterlockView
  pub opened : interlock.opening ≡ opening
  pub last : (m : Machine) → MomentOf m
  pub statuses : Machine → Status
  pub works : (m : Machine) → has_worker m ≡ true
      → HasEnded (passes tries) (steps_by scales gives m) (rig_of scales m) (gate m) limit
      (first_moment interlock m) (last m) (statuses m)
  pub watch_rests : (last Watch ≡ first_moment interlock Watch) × (statuses Watch ≡ Fine)
  pub history : List Event
  pub lawful : LawfulThroughout opening history
  pub seen : (m : Machine) → Waits m (last m).line.seen history
  pub start : r.start ≡ opening
  pub counts : r.counts ≡ map (λ m. (last m).counts) all_machines
  pub status : r.status ≡ map statuses all_machines
  pub journals : (m : Machine) → journal_of r.journals m ≡ noted opening (last m).line.seen m
  pub counted : (m : Machine) → AreCountsOf (journal_of r.journals m) (last m).counts
  pub audited : IsAudited opening (journal_of r.journals) r.end history
  pub end : r.end ≡ Some (after opening history)
  pub axes : r.axes ≡ positions_in (parts_at_ends last)

-- likewise by gauges that may give any position near their lines
abbrev pub TellsAnyWork : CellScales → ModelState → ℕ → ℕ → (Machine → GateOf) → RunRecord → Type 0
TellsAnyWork scales = TellsWork scales (any_near scales)
