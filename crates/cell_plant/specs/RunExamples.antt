-- A literal run and its turns, and examples that are wrong in one thing.
use Rattle.std.specs.Prelude.{◌≡◌, ◌≢◌, true, false, List, [], ◌∷◌, map, Some, None, Result, Ok, Err}
use Rattle.cell_rules.specs.Types.{Machine, Feed, Press, Watch, Z1, Z3, Z6, FeedEnd, Closed, Moving, Call, Claim}
use Rattle.cell_rules.specs.Types.{Stop, Resume, Done, Refused, Shut, Stopped, NotStopped, Reply, Settled, Busy}
use Rattle.cell_rules.specs.Types.{all_machines}
use Rattle.cell_devices.specs.declared.motor.Direction.TheVariants.{Minus as Downward}
use Rattle.cell_devices.specs.declared.motor.Motor.TheVariants.{Minus}
use Rattle.cell_rules.specs.Names.{ModelState, empty, insert_place, start_state}
use Rattle.cell_rules.specs.declared.heard.LineFault.{LineFault}
use Rattle.cell_rules.specs.declared.heard.LineFault.TheVariants.{Memory as NoRoom}
use Rattle.cell_control.specs.declared.fault.CtlFault.TheVariants.{Memory}
use Rattle.cell_belts_crane.specs.declared.feed.FeedStep.TheVariants.{ClaimExit}
use Rattle.cell_table_press.specs.Names.{press_start}
use Rattle.cell_table_press.specs.declared.press.PressStep.TheVariants.{MoveToBottom}
use Rattle.cell_table_press.specs.declared.press.PressProgress.{PressProgress}
use Rattle.cell_notes.specs.declared.schedule.Turn.{Turn}
use Rattle.cell_unit.specs.Sides.{Side, side_of}
use Rattle.cell_parts.specs.Names.{CellScales, feed_at_start, press_at_start, table_at_start, at, driven_at}
use Rattle.cell_parts.specs.Names.{belt_with, with_zone, all_free, held_by}
use Rattle.cell_parts.specs.declared.axis.Axis.{Axis}
use Rattle.cell_parts.specs.Plant.{plant_at_start}
use Rattle.cell_plant.specs.CellStates.{CellState, Sides, plant_of, side_in, sides_at_start, cell_at_start}
use Rattle.cell_plant.specs.Runs.{Step, TakesTurn, IsPassedOver, IsRun, goes_on, end_of}
use Rattle.cell_plant.specs.Watch.{watch_noting}

-- the run begins with a plate at the end of the feed belt
abbrev pub opening : ModelState
opening = start_state (insert_place empty FeedEnd) 0

-- after the feed belt has claimed its entry
abbrev pub entered : ModelState
entered = record (with_zone opening Feed Z6 Closed) { stamp = 1 }

abbrev pub sides_entered : Sides
sides_entered = record (sides_at_start opening)
    { feed = side_of (record { step = ClaimExit; entry = false; last = true }) None (feed_at_start opening) }

-- after the press has stopped, too
abbrev pub sides_press_stopped : Sides
sides_press_stopped = record sides_entered { press = side_of (press_start opening) (Some Memory) press_at_start }

-- after the watch has stopped the cell, too; and after it has resumed it
abbrev pub stopped : ModelState
stopped = record entered { stamp = 2; stopped = true }

abbrev pub sides_last : Sides
sides_last = record sides_press_stopped { watch = side_of (watch_noting true) None tt }

abbrev pub resumed : ModelState
resumed = record entered { stamp = 3 }

abbrev pub cell_of : ModelState → Sides → CellState
cell_of s sides = record { interlock = s; side = side_in sides }

abbrev pub at_first : CellState
at_first = cell_at_start opening

abbrev pub at_entered : CellState
at_entered = cell_of entered sides_entered

abbrev pub at_press_stopped : CellState
at_press_stopped = cell_of entered sides_press_stopped

abbrev pub at_last : CellState
at_last = cell_of stopped sides_last

abbrev pub at_resumed : CellState
at_resumed = cell_of resumed sides_press_stopped

-- a turn in which this was asked and came back, and no part moves; a turn that is passed over
abbrev pub asks : Machine → Call → Result Reply LineFault → CellState → Step
asks m c r w = record { machine = m; taken = true; asked = Some (c, r); set = w; moved = w }

abbrev pub passes : Machine → CellState → Step
passes m w = record { machine = m; taken = false; asked = None; set = w; moved = w }

-- Six turns: the feed belt claims its entry; the press finds the interlock busy; the feed belt is refused its exit;
-- there is no room for the press's claim; so the press has stopped; the watch stops the cell.
abbrev pub claims_entry : Step
claims_entry = asks Feed (Claim Z6) (Ok (Settled Done 1)) at_entered

abbrev pub finds_busy : Step
finds_busy = asks Press (Claim Z3) (Ok (Busy 1 1)) at_entered

abbrev pub is_refused : Step
is_refused = asks Feed (Claim Z1) (Ok (Settled (Refused (Shut Closed)) 1)) at_entered

abbrev pub finds_no_room : Step
finds_no_room = asks Press (Claim Z3) (Err NoRoom) at_press_stopped

abbrev pub stops_cell : Step
stops_cell = asks Watch Stop (Ok (Settled Done 2)) at_last

-- then the watch would resume
abbrev pub resumes_cell : Step
resumes_cell = asks Watch Resume (Ok (Settled Done 3)) at_resumed

abbrev pub watch_finds_busy : Step
watch_finds_busy = asks Watch Resume (Ok (Busy 1 2)) at_last

abbrev pub turn_of : Machine → Turn
turn_of m = record { machine = m; busy = false }

abbrev pub busy_turn_of : Machine → Turn
busy_turn_of m = record { machine = m; busy = true }

abbrev pub schedule : List Turn
schedule = turn_of Feed ∷ busy_turn_of Press ∷ turn_of Feed ∷ turn_of Press ∷ turn_of Press ∷ turn_of Watch ∷ []

abbrev pub steps : List Step
steps = claims_entry ∷ finds_busy ∷ is_refused ∷ finds_no_room ∷ passes Press at_press_stopped ∷ stops_cell ∷ []

-- the press goes down from its top
abbrev pub falling : Axis → Side PressProgress Axis
falling a = side_of (record { step = MoveToBottom; loaded = false; forged = false; direction = Downward }) None a

abbrev pub press_falls : Axis → CellState
press_falls a = cell_of (held_by Press Z3 Moving) (record (sides_at_start all_free) { press = falling a })

abbrev pub falls : Axis → Axis → Step
falls set moved = record {
  machine = Press;
  taken = true;
  asked = None;
  set = press_falls set;
  moved = press_falls moved;
}

abbrev pub falls_to : Axis → Step
falls_to a = falls (driven_at 1000 Minus) a

-- the same while the feed belt waits for its exit
abbrev pub belt_waits : Axis → CellState
belt_waits a = cell_of (with_zone entered Press Z3 Moving) (record sides_entered { press = falling a })

abbrev pub waits : Step
waits = asks Feed (Claim Z1) (Ok (Settled (Refused (Shut Closed)) 1)) (belt_waits (driven_at 980 Minus))

-- The watch stops a stopped cell again; it resumes, and still notes the stop; it resumes before its first stop.
abbrev pub stops_again : Step
stops_again = asks Watch Stop (Ok (Settled (Refused Stopped) 2)) at_last

abbrev pub resumes_unnoted : Step
resumes_unnoted = asks Watch Resume (Ok (Settled Done 3)) (cell_of resumed sides_last)

abbrev pub resumes_at_first : Step
resumes_at_first = asks Watch Resume (Ok (Settled (Refused NotStopped) 1)) at_press_stopped

-- ---- one turn

-- the first step leads to these states instead
abbrev pub claims_leading_to : CellState → CellState → Step
claims_leading_to set moved = record claims_entry { set = set; moved = moved }

-- the table is higher up; the feed belt runs
abbrev pub table_lifted : CellState
table_lifted = cell_of entered
    (record sides_entered { table = record (sides_entered.table) { part = record table_at_start { lift = at 20 } } })

abbrev pub feed_runs : CellState
feed_runs = cell_of entered
    (record sides_entered { feed = record (sides_entered.feed) { part = belt_with (Some 900) true } })

pub record TurnExamples (c : CellScales) : Type 0 where
  pub done : TakesTurn c Feed false at_first claims_entry
  pub busy : TakesTurn c Press true at_entered finds_busy
  pub refused : TakesTurn c Feed false at_entered is_refused
  pub no_room : TakesTurn c Press false at_entered finds_no_room
  pub drives : TakesTurn c Press false (press_falls (at 1000)) (falls_to (driven_at 980 Minus))
  pub meanwhile : TakesTurn c Feed false (belt_waits (driven_at 980 Minus)) waits
  pub stops : TakesTurn c Watch false at_press_stopped stops_cell
  pub resumes : TakesTurn c Watch false at_last resumes_cell
  pub watch_busy : TakesTurn c Watch true at_last watch_finds_busy
  -- each is wrong in one thing
  pub not_taken : ¬ TakesTurn c Feed false at_first (record claims_entry { taken = false })
  pub asks_nothing : ¬ TakesTurn c Feed false at_first (record claims_entry { asked = None })
  pub answered_otherwise : ¬ TakesTurn c Feed false at_first
      (record claims_entry { asked = Some (Claim Z6, Ok (Settled (Refused (Shut Closed)) 1)) })
  pub another_stamp : ¬ TakesTurn c Feed false at_first (record claims_entry
      { asked = Some (Claim Z6, Ok (Settled Done 0)) })
  pub asks_another : ¬ TakesTurn c Feed false at_first (record claims_entry
      { asked = Some (Claim Z1, Ok (Settled Done 1)) })
  pub busy_unasked : ¬ TakesTurn c Press false at_entered finds_busy
  pub no_room_though_busy : ¬ TakesTurn c Press true at_entered finds_no_room
  pub changes_nothing : ¬ TakesTurn c Feed false at_first (claims_leading_to at_first at_first)
  pub another_is_set : ¬ TakesTurn c Feed false at_first (claims_leading_to table_lifted table_lifted)
  pub another_moves : ¬ TakesTurn c Feed false at_first (claims_leading_to at_entered table_lifted)
  pub another_goes_on : ¬ TakesTurn c Feed false (belt_waits (driven_at 980 Minus))
      (record waits { moved = belt_waits (driven_at 960 Minus) })
  pub moves_unset : ¬ TakesTurn c Feed false at_first (claims_leading_to at_entered feed_runs)
  pub stays_though_set : ¬ TakesTurn c Press false (press_falls (at 1000)) (falls_to (driven_at 1000 Minus))
  pub moves_too_far : ¬ TakesTurn c Press false (press_falls (at 1000)) (falls_to (driven_at 960 Minus))
  pub interlock_changes : ¬ TakesTurn c Feed false at_first (claims_leading_to at_entered
      (cell_of opening sides_entered))
  pub stops_twice : ¬ TakesTurn c Watch false at_last stops_again
  pub resumes_first : ¬ TakesTurn c Watch false at_press_stopped resumes_at_first
  pub watch_notes_nothing : ¬ TakesTurn c Watch false at_last resumes_unnoted

pub record PassExamples : Type 0 where
  pub passed : IsPassedOver at_press_stopped (passes Press at_press_stopped)
  pub taken : ¬ IsPassedOver at_press_stopped (record (passes Press at_press_stopped) { taken = true })
  pub asks : ¬ IsPassedOver at_press_stopped (record (passes Press at_press_stopped)
      { asked = Some (Claim Z3, Err NoRoom) })
  pub is_set : ¬ IsPassedOver at_press_stopped (record (passes Press at_press_stopped) { set = at_entered })
  pub moves : ¬ IsPassedOver at_press_stopped (record (passes Press at_press_stopped) { moved = at_entered })

-- ---- runs

pub record ScheduleExamples (c : CellScales) : Type 0 where
  pub starts : (s : ModelState) → plant_of (cell_at_start s) ≡ plant_at_start s
  pub run : IsRun c at_first schedule steps
  pub ends : end_of at_first steps ≡ at_last
  -- who takes a turn: at the start, and once the press has stopped
  pub all_go_on : map (goes_on at_first) all_machines ≡ true ∷ true ∷ true ∷ true ∷ true ∷ true ∷ true ∷ []
  pub others_go_on : map (goes_on at_last) all_machines ≡ true ∷ true ∷ true ∷ false ∷ true ∷ true ∷ true ∷ []
  pub no_turn : IsRun c at_first [] []
  pub two_turns : IsRun c at_entered (busy_turn_of Press ∷ turn_of Press ∷ []) (finds_busy ∷ finds_no_room ∷ [])
  pub two_ticks : IsRun c (press_falls (at 1000)) (turn_of Press ∷ turn_of Press ∷ [])
      (falls_to (driven_at 980 Minus) ∷ falls (driven_at 980 Minus) (driven_at 960 Minus) ∷ [])
  pub stop_and_resume :
      IsRun c at_press_stopped (turn_of Watch ∷ turn_of Watch ∷ []) (stops_cell ∷ resumes_cell ∷ [])
  -- two turns, or their steps, swapped; a turn left out; a step too many, and no step
  pub turns_swapped : ¬ IsRun c at_entered (turn_of Press ∷ busy_turn_of Press ∷ []) (finds_busy ∷ finds_no_room ∷ [])
  pub steps_swapped : ¬ IsRun c at_first (turn_of Feed ∷ turn_of Feed ∷ []) (is_refused ∷ claims_entry ∷ [])
  pub turn_left_out : ¬ IsRun c at_first schedule (claims_entry ∷ is_refused ∷ finds_no_room
      ∷ passes Press at_press_stopped ∷ stops_cell ∷ [])
  pub last_left_out : ¬ IsRun c at_first (turn_of Feed ∷ turn_of Watch ∷ []) (claims_entry ∷ [])
  pub step_too_many : ¬ IsRun c at_first (turn_of Feed ∷ []) (claims_entry ∷ passes Watch at_entered ∷ [])
  pub all_left_out : ¬ IsRun c at_first (turn_of Feed ∷ []) []
  -- a step with another machine's name, taken or passed over, and a step that begins elsewhere
  pub of_another : (m : Machine) → m ≢ Press
      → ¬ IsRun c at_entered (busy_turn_of Press ∷ []) (record finds_busy { machine = m } ∷ [])
  pub passed_by_another : (m : Machine) → m ≢ Press → ¬ IsRun c at_last (turn_of Press ∷ []) (passes m at_last ∷ [])
  pub from_elsewhere : ¬ IsRun c at_first (turn_of Feed ∷ busy_turn_of Press ∷ [])
      (claims_entry ∷ asks Press (Claim Z3) (Ok (Busy 1 0)) at_first ∷ [])
  -- a stopped machine asks, or takes a turn; and a machine, or the watch, that goes on is passed over
  pub stopped_asks : ¬ IsRun c at_last (turn_of Press ∷ []) (finds_no_room ∷ [])
  pub stopped_goes_on : ¬ IsRun c at_last (turn_of Press ∷ []) (record (passes Press at_last) { taken = true } ∷ [])
  pub watch_passed_over : ¬ IsRun c at_last (turn_of Watch ∷ []) (passes Watch at_last ∷ [])
  pub passed_over : ¬ IsRun c at_entered (turn_of Press ∷ []) (passes Press at_entered ∷ [])

-- ---- all of these

pub record RunExamples (c : CellScales) : Type 0 where
  pub turns : TurnExamples c
  pub passes : PassExamples
  pub runs : ScheduleExamples c
