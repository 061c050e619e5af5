-- The record of a literal run, and records that are of no run.
use Rattle.std.specs.Prelude.{◌≡◌, ℕ, ◌<◌, ℤ, pos, true, false, List, [], ◌∷◌, Some, None, Ok, Err}
use Rattle.cell_rules.specs.Types.{Machine, Feed, Table, Robot, Press, Deposit, Crane, Watch, Z1, Z2, Z3, Z4, Z6}
use Rattle.cell_rules.specs.Types.{Closed, OpenIn, Claim, Inquire, Stop, Resume, Done, Refused, Shown, Shut, Jump}
use Rattle.cell_rules.specs.Types.{Event, Entry, Journals, Settled, Busy, journal_of}
use Rattle.cell_sensors.specs.declared.sense.SensorFault.TheVariants.{Low}
use Rattle.cell_rules.specs.declared.heard.LineFault.TheVariants.{Memory as NoRoom}
use Rattle.cell_rules.specs.Names.{ModelState, IsLegal, after, noted}
use Rattle.cell_control.specs.declared.fault.CtlFault.TheVariants as fault
use Rattle.cell_belts_crane.specs.CraneProgram.{crane_start}
use Rattle.cell_robot.specs.RobotProgram.{robot_start}
use Rattle.cell_table_press.specs.Names.{press_start, table_start}
use Rattle.cell_notes.specs.Names.{no_counts}
use Rattle.cell_notes.specs.declared.counts.Counts.{Counts}
use Rattle.cell_notes.specs.declared.run_record.RunRecord.{RunRecord}
use Rattle.cell_notes.specs.declared.schedule.Turn.{Turn}
use Rattle.cell_notes.specs.declared.status.Status.{Status}
use Rattle.cell_notes.specs.declared.status.Status.TheVariants.{Fine, Worn, Sensor, Memory}
use Rattle.cell_notes.specs.declared.status.Status.TheVariants.{Refused as WasRefused}
use Rattle.cell_unit.specs.Sides.{side_of}
use Rattle.cell_parts.specs.Names.{CellScales, empty_cell, at, robot_at, table_at, crane_at, held_by}
use Rattle.cell_parts.specs.declared.plant.PlantState.{PlantState}
use Rattle.cell_plant.specs.CellStates.{CellState, Sides, sides_at_start, cell_at_start}
use Rattle.cell_plant.specs.Cells.{TellsRun}
use Rattle.cell_plant.specs.Machines.{any_near}
use Rattle.cell_plant.specs.Records.{IsRecordOf, positions_in}
use Rattle.cell_plant.specs.Runs.{Step}
use Rattle.cell_plant.specs.RunExamples.{opening, entered, stopped, at_first, at_last, cell_of, asks, passes}
use Rattle.cell_plant.specs.RunExamples.{schedule, steps, turn_of}
use Rattle.cell_plant.specs.Watch.{watch_noting}

-- ---- the record of the literal run

-- a plant whose axes are all at different positions
abbrev pub axes_apart : PlantState
axes_apart = record empty_cell {
  press = at 1;
  robot = robot_at (at 2) (at 3) (at 4);
  table = table_at (at 5) (at 6);
  crane = crane_at (at 7) (at 8);
}

-- the counts of a machine; those of all machines, by what feed, press and watch did
abbrev pub counts_of : ℕ → ℕ → ℕ → ℕ → ℕ → Counts
counts_of turns done read refused busy = record {
  turns = turns;
  done = done;
  read = read;
  refused = refused;
  busy = busy;
}

abbrev pub counts_by : Counts → Counts → Counts → List Counts
counts_by feed press watch = feed ∷ no_counts ∷ no_counts ∷ press ∷ no_counts ∷ no_counts ∷ watch ∷ []

abbrev pub status_by : Status → Status → List Status
status_by feed press = feed ∷ Fine ∷ Fine ∷ press ∷ Fine ∷ Fine ∷ Fine ∷ []

-- the axes; all but the press, the robot's rotation and the gripper start at 0
abbrev pub axes_by : ℕ → ℕ → ℕ → List ℤ
axes_by press rotation gripper = pos press ∷ pos 0 ∷ pos 0 ∷ pos rotation ∷ pos 0 ∷ pos 0 ∷ pos 0 ∷ pos gripper ∷ []

abbrev pub done_entry : Entry
done_entry = record { call = Claim Z6; answer = Done; stamp = 1 }

abbrev pub refused_entry : Entry
refused_entry = record { call = Claim Z1; answer = Refused (Shut Closed); stamp = 1 }

abbrev pub stop_entry : Entry
stop_entry = record { call = Stop; answer = Done; stamp = 2 }

-- the feed belt's journal and the watch's
abbrev pub journal_by : List Entry → List Entry → Machine → List Entry
journal_by feed watch Feed = feed
journal_by feed watch Watch = watch
journal_by feed watch _ = []

abbrev pub AreJournals : Journals → List Entry → Type 0
AreJournals journals feed = (m : Machine) → journal_of journals m ≡ journal_by feed (stop_entry ∷ []) m

pub record IsOfLiteralRun (r : RunRecord) : Type 0 where
  pub start : r.start ≡ opening
  pub counts : r.counts ≡ counts_by (counts_of 2 1 0 1 0) (counts_of 2 0 0 0 1) (counts_of 1 1 0 0 0)
  pub status : r.status ≡ status_by Fine Memory
  pub journals : AreJournals r.journals (done_entry ∷ refused_entry ∷ [])
  pub end : r.end ≡ Some stopped
  pub axes : r.axes ≡ axes_by 1000 300 900

-- ---- the record of steps and of a last state in which the machines differ; they aren't of a run

abbrev pub steps_apart : List Step
steps_apart =
    asks Feed (Claim Z6) (Ok (Settled Done 1)) at_first
    ∷ asks Table (Inquire Z2) (Ok (Settled (Shown None false Closed) 1)) at_first
    ∷ asks Robot (Claim Z2) (Ok (Settled (Refused (Shut Closed)) 1)) at_first
    ∷ asks Press (Claim Z3) (Ok (Busy 1 1)) at_first
    ∷ asks Deposit (Claim Z4) (Err NoRoom) at_first
    ∷ record (passes Crane at_first) { taken = true }
    ∷ record (passes Crane at_first) { taken = true }
    ∷ asks Watch Stop (Ok (Settled Done 2)) at_first
    ∷ asks Watch Resume (Ok (Settled Done 3)) at_first
    ∷ []

abbrev pub sides_apart : Sides
sides_apart =
    record (sides_at_start opening) {
      table = side_of (table_start opening) (Some fault.Worn) axes_apart.table;
      robot = side_of (robot_start opening) (Some (fault.Sensor Low)) axes_apart.robot;
      press = side_of (press_start opening) (Some (fault.Refused Jump)) axes_apart.press;
      crane = side_of (crane_start opening) (Some fault.Memory) axes_apart.crane;
      watch = side_of (watch_noting true) (Some fault.Worn) tt;
    }

abbrev pub last_apart : CellState
last_apart = cell_of entered sides_apart

abbrev pub journals_apart : Machine → List Entry
journals_apart Feed = done_entry ∷ []
journals_apart Table = record { call = Inquire Z2; answer = Shown None false Closed; stamp = 1 } ∷ []
journals_apart Robot = record { call = Claim Z2; answer = Refused (Shut Closed); stamp = 1 } ∷ []
journals_apart Watch = stop_entry ∷ record { call = Resume; answer = Done; stamp = 3 } ∷ []
journals_apart _ = []

pub record IsOfApart (r : RunRecord) : Type 0 where
  pub counts : r.counts ≡ counts_of 1 1 0 0 0 ∷ counts_of 1 0 1 0 0 ∷ counts_of 1 0 0 1 0 ∷ counts_of 1 0 0 0 1
      ∷ counts_of 1 0 0 0 0 ∷ counts_of 2 0 0 0 0 ∷ counts_of 2 2 0 0 0 ∷ []
  pub status : r.status ≡ Fine ∷ Worn ∷ Sensor ∷ WasRefused ∷ Fine ∷ Memory ∷ Worn ∷ []
  pub journals : (m : Machine) → journal_of r.journals m ≡ journals_apart m
  pub end : r.end ≡ Some entered
  pub axes : r.axes ≡ pos 1 ∷ pos 2 ∷ pos 3 ∷ pos 4 ∷ pos 5 ∷ pos 6 ∷ pos 7 ∷ pos 8 ∷ []

-- ---- records that are wrong in one thing

abbrev pub IsRecord : RunRecord → Type 0
IsRecord r = IsRecordOf opening steps at_last r

abbrev pub with_feed_counts : RunRecord → Counts → RunRecord
with_feed_counts r feed = record r { counts = counts_by feed (counts_of 2 0 0 0 1) (counts_of 1 1 0 0 0) }

pub record WrongRecords (r : RunRecord) : Type 0 where
  pub start : ¬ IsRecord (record r { start = entered })
  pub turns : ¬ IsRecord (with_feed_counts r (counts_of 3 1 0 1 0))
  pub done : ¬ IsRecord (with_feed_counts r (counts_of 2 2 0 1 0))
  pub read : ¬ IsRecord (with_feed_counts r (counts_of 2 1 1 1 0))
  pub refused : ¬ IsRecord (with_feed_counts r (counts_of 2 1 0 0 0))
  pub busy : ¬ IsRecord (with_feed_counts r (counts_of 2 1 0 1 1))
  pub counts_of_others : ¬ IsRecord
      (record r { counts = counts_by (counts_of 2 0 0 0 1) (counts_of 2 1 0 1 0) (counts_of 1 1 0 0 0) })
  pub watch_uncounted : ¬ IsRecord
      (record r { counts = counts_by (counts_of 2 1 0 1 0) (counts_of 2 0 0 0 1) no_counts })
  pub status : ¬ IsRecord (record r { status = status_by Fine Fine })
  pub status_of_another : ¬ IsRecord (record r { status = status_by Memory Fine })
  pub end : ¬ IsRecord (record r { end = Some opening })
  pub no_end : ¬ IsRecord (record r { end = None })
  pub axis : ¬ IsRecord (record r { axes = axes_by 1000 300 880 })
  pub axes_swapped : ¬ IsRecord (record r { axes = axes_by 300 1000 900 })
  pub entry_left_out : (journals : Journals) → AreJournals journals (done_entry ∷ [])
      → ¬ IsRecord (record r { journals = journals })
  pub entry_twice : (journals : Journals) → AreJournals journals (done_entry ∷ refused_entry ∷ refused_entry ∷ [])
      → ¬ IsRecord (record r { journals = journals })
  pub entries_swapped : (journals : Journals) → AreJournals journals (refused_entry ∷ done_entry ∷ [])
      → ¬ IsRecord (record r { journals = journals })
  pub another_stamp : (journals : Journals)
      → AreJournals journals (done_entry ∷ record refused_entry { stamp = 0 } ∷ [])
      → ¬ IsRecord (record r { journals = journals })

-- ---- records of runs of a schedule, and records that are of no such run

-- the press is at its top, but its zone is open as if the press were at its middle
abbrev pub open_too_early : ModelState
open_too_early = held_by Press Z3 OpenIn

-- the record of a run with no turn
abbrev pub IsOfNoTurn : ModelState → RunRecord → Type 0
IsOfNoTurn s r = IsRecordOf s [] (cell_at_start s) r

-- a record is of a legal history from its start, which leads to its end; each machine has noted its own events of it
pub record IsOfLegalHistory (opening : ModelState) (r : RunRecord) : Type 0 where
  pub seen : List Event
  pub start : r.start ≡ opening
  pub legal : IsLegal opening seen
  pub journals : (m : Machine) → journal_of r.journals m ≡ noted opening seen m
  pub end : r.end ≡ Some (after opening seen)

-- the crane's potentiometer has no raw value; the crane has stopped by its sensors
abbrev pub IsUnread : CellScales → Type 0
IsUnread c = c.gripper.raw_hi < c.gripper.raw_lo

abbrev pub HasBlindCrane : RunRecord → Type 0
HasBlindCrane r = r.status ≡ Fine ∷ Fine ∷ Fine ∷ Fine ∷ Fine ∷ Sensor ∷ Fine ∷ []

-- the record of a run in which the watch stops the cell, and no other machine has a turn
abbrev pub first_stop : Machine → List Entry
first_stop Watch = record { call = Stop; answer = Done; stamp = 1 } ∷ []
first_stop _ = []

pub record IsOfOneStop (r : RunRecord) : Type 0 where
  pub start : r.start ≡ opening
  pub counts : r.counts ≡ counts_by no_counts no_counts (counts_of 1 1 0 0 0)
  pub status : r.status ≡ status_by Fine Fine
  pub journals : (m : Machine) → journal_of r.journals m ≡ first_stop m
  pub end : r.end ≡ Some (record opening { stamp = 1; stopped = true })
  pub axes : r.axes ≡ axes_by 1000 300 900

-- by gauges that may give any position near their lines
abbrev pub Tells : CellScales → ModelState → List Turn → RunRecord → Type 0
Tells c = TellsRun c (any_near c)

pub record RecordExamples (c : CellScales) (r : RunRecord) : Type 0 where
  pub axes : positions_in axes_apart ≡ pos 1 ∷ pos 2 ∷ pos 3 ∷ pos 4 ∷ pos 5 ∷ pos 6 ∷ pos 7 ∷ pos 8 ∷ []
  pub figures : IsRecord r → IsOfLiteralRun r
  pub recorded : IsOfLiteralRun r → IsRecord r
  pub apart : IsRecordOf opening steps_apart last_apart r → IsOfApart r
  pub wrong : WrongRecords r
  pub of_run : IsOfLiteralRun r → Tells c opening schedule r
  pub of_no_turn : IsOfNoTurn opening r → Tells c opening [] r
  pub of_the_watch : IsOfOneStop r → Tells c opening (turn_of Watch ∷ []) r
  pub only_no_turn : Tells c opening [] r → IsOfNoTurn opening r
  pub unread : IsUnread c → Tells c opening (turn_of Crane ∷ []) r → HasBlindCrane r
  pub lawful : (s : ModelState) (turns : List Turn) → Tells c s turns r → IsOfLegalHistory s r
  -- turns were made up; one was left out, or one of the watch; the run begins unsafely
  pub made_up : IsOfLiteralRun r → ¬ Tells c opening [] r
  pub left_out : IsOfNoTurn opening r → ¬ Tells c opening (turn_of Feed ∷ []) r
  pub watch_left_out : IsOfNoTurn opening r → ¬ Tells c opening (turn_of Watch ∷ []) r
  pub begins_unsafely : ¬ Tells c open_too_early [] r
