-- What events do, as tables, and a legal history counted by hand. In it a plate goes along the feed belt and onto the
-- table, and the cell is stopped and goes on.
use Rattle.std.specs.Prelude.{◌≡◌, ℕ, pos, true, false, List, [], ◌∷◌, count_by, filter, map, take, Some}
use Rattle.std.specs.Prelude.{None, Ok, Err}
use Rattle.cell_rules.specs.Types.{Machine, Feed, Robot, Press, Deposit, Watch, Zone, Z1, Z2, Z3, Z4, Z5, Z6, Place}
use Rattle.cell_rules.specs.Types.{FeedEntry, FeedEnd, Arm1, PressIn, PressOut, Arm2, DepEntry, DepEnd}
use Rattle.cell_rules.specs.Types.{Closed, Moving, OpenIn, OpenOut, Turning, Loading, Travelling}
use Rattle.cell_rules.specs.Types.{Running, Landing, Halted, Call, Claim, Give, Yield}
use Rattle.cell_rules.specs.Types.{Take, Release, SetPose, Advance, Inquire, Stop, Resume, Held, Stopped, Worn}
use Rattle.cell_rules.specs.Types.{NoPlate, NotStopped, Jump, Answer, Done, Shown, Refused, Event, Entry}
use Rattle.cell_rules.specs.Types.{all_machines, all_places, all_poses, all_zones}
use Rattle.cell_types.specs.declared.machine.Machine.TheVariants.{Table as TableMachine, Crane as CraneMachine}
use Rattle.cell_types.specs.declared.place.Place.TheVariants.{Table, Crane}
use Rattle.cell_types.specs.declared.reply.Reply.TheVariants.{Settled as settled, Busy as busy}
use Rattle.cell_rules.specs.declared.heard.LineFault.TheVariants.{Memory}
use Rattle.cell_rules.specs.declared.bench.LastCall.TheVariants.{Nothing, Settled, Busy, OutOfMemory}
use Rattle.cell_rules.specs.BenchView.{last_event, last_of}
use Rattle.cell_rules.specs.FirstVersion.{has_call}
use Rattle.cell_rules.specs.History.{after, changes_by_others, done_count, empties, fills, gains, given_place, gives}
use Rattle.cell_rules.specs.History.{is_done, is_emptied_by, is_filled_by, is_gain, is_given_into, is_loss, is_resume}
use Rattle.cell_rules.specs.History.{is_stop, is_taken_from, loses, own_events, plates_at, plates_in_transfer}
use Rattle.cell_rules.specs.History.{posture_by_events, posture_given, taken_place, takes, IsLegal}
use Rattle.cell_rules.specs.Journal.{event_by, noted}
use Rattle.cell_rules.specs.Laws.{done, is_barred}
use Rattle.cell_rules.specs.ModelState.{ModelState}
use Rattle.cell_rules.specs.PlaceSet.{empty, insert_place}
use Rattle.cell_rules.specs.RefusalLaws.{is_no_later, refused}
use Rattle.cell_rules.specs.Reply.{other_party, reply}
use Rattle.cell_rules.specs.Restamping.{restamped, same_flag}
use Rattle.cell_rules.specs.Rights.{needs}
use Rattle.cell_rules.specs.Seen.{event, heard_after, heard_nothing}
use Rattle.cell_rules.specs.Start.{start_state}
use Rattle.cell_rules.specs.StateTables.{in_use}
use Rattle.cell_rules.specs.StopLaws.{running}

-- ---- zones gained and lost: after a machine's call, by which machines, and which zones of its own

abbrev pub gainers : Machine → Call → Zone → List Machine
gainers n c z = filter (λ m. gains n c m z) all_machines

abbrev pub losers : Machine → Call → Zone → List Machine
losers n c z = filter (λ m. loses n c m z) all_machines

pub record GainTable : Type 0 where
  pub by_claim : gainers Deposit (Claim Z5) Z5 ≡ Deposit ∷ []
  pub by_give_of_guest : gainers Robot (Give Z4) Z4 ≡ Deposit ∷ []
  pub by_give_of_host : gainers Press (Give Z3) Z3 ≡ Robot ∷ []
  pub by_yield_of_guest : gainers CraneMachine (Yield Z6) Z6 ≡ Feed ∷ []
  pub by_yield_of_host : gainers TableMachine (Yield Z1) Z1 ≡ Feed ∷ []
  pub by_stranger : gainers Press (Yield Z6) Z6 ≡ []
  pub by_give_of_stranger : gainers Watch (Give Z2) Z2 ≡ []
  pub by_release : gainers Robot (Release Z2) Z2 ≡ []
  pub by_take : gainers Robot (Take Z2) Z2 ≡ []
  pub this_zone_only : filter (gains Robot (Claim Z3) Robot) all_zones ≡ Z3 ∷ []
  pub given_zone_only : filter (gains Robot (Give Z4) Deposit) all_zones ≡ Z4 ∷ []
  pub yielded_zone_only : filter (gains Deposit (Yield Z5) CraneMachine) all_zones ≡ Z5 ∷ []
  pub lost_by_give : losers Robot (Give Z4) Z4 ≡ Robot ∷ []
  pub lost_by_yield : losers Deposit (Yield Z5) Z5 ≡ Deposit ∷ []
  pub lost_by_release : losers Feed (Release Z6) Z6 ≡ Feed ∷ []
  pub kept_by_take : losers Feed (Take Z6) Z6 ≡ []
  pub kept_by_claim : losers Feed (Claim Z6) Z6 ≡ []
  pub kept_by_pose : losers Feed (SetPose Halted) Z6 ≡ []
  pub left_zone_only : filter (loses Robot (Release Z2) Robot) all_zones ≡ Z2 ∷ []
  pub handed_zone_only : filter (loses Robot (Give Z3) Robot) all_zones ≡ Z3 ∷ []
  pub passed_zone_only : filter (loses Robot (Yield Z4) Robot) all_zones ≡ Z4 ∷ []
  pub done_claim : is_gain (done Robot (Claim Z3)) Robot Z3 ≡ true
  pub refused_claim : is_gain (refused Robot (Claim Z3) Stopped) Robot Z3 ≡ false
  pub done_release : is_loss (done Robot (Release Z3)) Robot Z3 ≡ true
  pub refused_release : is_loss (refused Robot (Release Z3) Worn) Robot Z3 ≡ false
  pub other_of_feed : map (other_party Feed) (Z1 ∷ Z6 ∷ []) ≡ TableMachine ∷ CraneMachine ∷ []
  pub other_of_table : map (other_party TableMachine) (Z1 ∷ Z2 ∷ []) ≡ Feed ∷ Robot ∷ []
  pub other_of_robot : map (other_party Robot) (Z2 ∷ Z3 ∷ Z4 ∷ []) ≡ TableMachine ∷ Press ∷ Deposit ∷ []
  pub other_of_press : other_party Press Z3 ≡ Robot
  pub other_of_deposit : map (other_party Deposit) (Z4 ∷ Z5 ∷ []) ≡ Robot ∷ CraneMachine ∷ []
  pub other_of_crane : map (other_party CraneMachine) (Z5 ∷ Z6 ∷ []) ≡ Deposit ∷ Feed ∷ []
  -- the zones that a call needs
  pub needed_by_give : filter (needs Robot (Give Z3)) all_zones ≡ Z3 ∷ []
  pub needed_by_yield : filter (needs Feed (Yield Z6)) all_zones ≡ Z6 ∷ []
  pub needed_by_take : filter (needs CraneMachine (Take Z5)) all_zones ≡ Z5 ∷ []
  pub needed_by_release : filter (needs Deposit (Release Z4)) all_zones ≡ Z4 ∷ []
  pub needed_by_pose : filter (needs Deposit (SetPose Landing)) all_zones ≡ Z4 ∷ Z5 ∷ []
  pub needed_by_pose_of_table : filter (needs TableMachine (SetPose Turning)) all_zones ≡ Z1 ∷ Z2 ∷ []
  pub needed_by_forging : filter (needs Press Advance) all_zones ≡ Z3 ∷ []
  pub none_by_belt : filter (needs Feed Advance) all_zones ≡ []
  pub none_by_claim : filter (needs Feed (Claim Z1)) all_zones ≡ []
  pub none_by_inquiry : filter (needs Watch (Inquire Z2)) all_zones ≡ []

-- ---- places filled and emptied, and zones that plates enter and leave

abbrev pub emptied_places : Machine → Call → List Place
emptied_places m c = filter (empties m c) all_places

abbrev pub filled_places : Machine → Call → List Place
filled_places m c = filter (fills m c) all_places

pub record PlaceTable : Type 0 where
  pub feed_gives : map (given_place Feed) all_zones ≡ Some FeedEnd ∷ None ∷ None ∷ None ∷ None ∷ None ∷ []
  pub table_gives : map (given_place TableMachine) all_zones ≡ None ∷ Some Table ∷ None ∷ None ∷ None ∷ None ∷ []
  pub robot_gives : map (given_place Robot) all_zones ≡ None ∷ None ∷ Some Arm1 ∷ Some Arm2 ∷ None ∷ None ∷ []
  pub press_gives : map (given_place Press) all_zones ≡ None ∷ None ∷ Some PressOut ∷ None ∷ None ∷ None ∷ []
  pub deposit_gives : map (given_place Deposit) all_zones ≡ None ∷ None ∷ None ∷ None ∷ Some DepEnd ∷ None ∷ []
  pub crane_gives : map (given_place CraneMachine) all_zones ≡ None ∷ None ∷ None ∷ None ∷ None ∷ Some Crane ∷ []
  pub feed_takes : map (taken_place Feed) all_zones ≡ None ∷ None ∷ None ∷ None ∷ None ∷ Some FeedEntry ∷ []
  pub table_takes : map (taken_place TableMachine) all_zones ≡ Some Table ∷ None ∷ None ∷ None ∷ None ∷ None ∷ []
  pub robot_takes : map (taken_place Robot) all_zones ≡ None ∷ Some Arm1 ∷ Some Arm2 ∷ None ∷ None ∷ None ∷ []
  pub press_takes : map (taken_place Press) all_zones ≡ None ∷ None ∷ Some PressIn ∷ None ∷ None ∷ None ∷ []
  pub deposit_takes : map (taken_place Deposit) all_zones ≡ None ∷ None ∷ None ∷ Some DepEntry ∷ None ∷ None ∷ []
  pub crane_takes : map (taken_place CraneMachine) all_zones ≡ None ∷ None ∷ None ∷ None ∷ Some Crane ∷ None ∷ []
  pub emptied_by_give : emptied_places Robot (Give Z4) ≡ Arm2 ∷ []
  pub emptied_by_take : emptied_places Robot (Take Z3) ≡ []
  pub emptied_by_yield : emptied_places Robot (Yield Z4) ≡ []
  pub emptied_by_feed : emptied_places Feed Advance ≡ FeedEntry ∷ []
  pub emptied_by_press : emptied_places Press Advance ≡ PressIn ∷ []
  pub emptied_by_deposit : emptied_places Deposit Advance ≡ DepEntry ∷ []
  pub filled_by_take : filled_places Robot (Take Z3) ≡ Arm2 ∷ []
  pub filled_by_give : filled_places Robot (Give Z4) ≡ []
  pub filled_by_feed : filled_places Feed Advance ≡ FeedEnd ∷ []
  pub filled_by_press : filled_places Press Advance ≡ PressOut ∷ []
  pub filled_by_deposit : filled_places Deposit Advance ≡ DepEnd ∷ []
  pub filled_by_crane : filled_places CraneMachine Advance ≡ []
  pub done_take : is_filled_by PressIn (done Press (Take Z3)) ≡ true
  pub refused_take : is_filled_by PressIn (refused Press (Take Z3) NoPlate) ≡ false
  pub done_give : is_emptied_by Table (done TableMachine (Give Z2)) ≡ true
  pub refused_give : is_emptied_by Table (refused TableMachine (Give Z2) NoPlate) ≡ false
  pub given : filter (gives (Give Z4)) all_zones ≡ Z4 ∷ []
  pub not_given : filter (gives (Yield Z4)) all_zones ≡ []
  pub taken : filter (takes (Take Z5)) all_zones ≡ Z5 ∷ []
  pub not_taken : filter (takes (Give Z5)) all_zones ≡ []
  pub given_into : is_given_into Z6 (done CraneMachine (Give Z6)) ≡ true
  pub refused_into : is_given_into Z6 (refused CraneMachine (Give Z6) Worn) ≡ false
  pub taken_from : is_taken_from Z2 (done Robot (Take Z2)) ≡ true
  pub refused_from : is_taken_from Z2 (refused Robot (Take Z2) Worn) ≡ false

-- ---- postures, stops, and orders of refusals

-- a call of each kind, and each pose
abbrev pub some_calls : List Call
some_calls = Claim Z6 ∷ Give Z5 ∷ Yield Z4 ∷ Take Z3 ∷ Release Z2 ∷ Advance ∷ Inquire Z1 ∷ Stop ∷ Resume ∷ []

pub record CallTable : Type 0 where
  pub loading : map (λ z. posture_given TableMachine (SetPose Loading) z Moving) all_zones
      ≡ OpenIn ∷ Closed ∷ Moving ∷ Moving ∷ Moving ∷ Moving ∷ []
  pub feed_halts : map (λ z. posture_given Feed Advance z Moving) all_zones
      ≡ Moving ∷ Moving ∷ Moving ∷ Moving ∷ Moving ∷ Closed ∷ []
  pub deposit_halts : map (λ z. posture_given Deposit Advance z Moving) all_zones
      ≡ Moving ∷ Moving ∷ Moving ∷ Closed ∷ Closed ∷ Moving ∷ []
  pub press_stays : map (λ z. posture_given Press Advance z OpenOut) all_zones
      ≡ OpenOut ∷ OpenOut ∷ OpenOut ∷ OpenOut ∷ OpenOut ∷ OpenOut ∷ []
  pub others_stay : map (λ c. posture_given Deposit c Z5 OpenOut) some_calls
      ≡ OpenOut ∷ OpenOut ∷ OpenOut ∷ OpenOut ∷ OpenOut ∷ Closed ∷ OpenOut ∷ OpenOut ∷ OpenOut ∷ []
  pub barred : map is_barred some_calls
      ≡ true ∷ true ∷ false ∷ false ∷ false ∷ false ∷ false ∷ false ∷ false ∷ []
  pub barred_poses : filter (λ p. is_barred (SetPose p)) all_poses ≡ Turning ∷ Travelling ∷ Running ∷ []
  pub of_first_version : map has_call some_calls
      ≡ true ∷ true ∷ true ∷ true ∷ true ∷ true ∷ true ∷ false ∷ false ∷ []
  pub poses_of_first_version : filter (λ p. has_call (SetPose p)) all_poses ≡ all_poses
  pub runs_again : (running in_use).stopped ≡ false
  pub else_the_same : record (running in_use) { stopped = true } ≡ in_use
  pub other_stamp : (restamped in_use 77).stamp ≡ 77
  pub but_for_the_stamp : restamped (restamped in_use 77) 1048575 ≡ in_use
  pub done_answers : map (λ a. is_done (event Feed Advance a)) (Done ∷ Shown None true Moving ∷ Refused Jump ∷ [])
      ≡ true ∷ false ∷ false ∷ []
  pub earlier : is_no_later (12 ∷ 5 ∷ 11 ∷ 7 ∷ []) 5 7 ≡ true
  pub itself : is_no_later (12 ∷ 5 ∷ 11 ∷ 7 ∷ []) 7 7 ≡ true
  pub later : is_no_later (12 ∷ 5 ∷ 11 ∷ 7 ∷ []) 7 12 ≡ false
  pub not_in_it : is_no_later (12 ∷ 5 ∷ 11 ∷ 7 ∷ []) 8 7 ≡ false
  pub before_none : is_no_later (12 ∷ 5 ∷ 11 ∷ 7 ∷ []) 5 8 ≡ false
  pub same_flags : map (same_flag true) (true ∷ false ∷ []) ≡ true ∷ false ∷ []
  pub same_unset : map (same_flag false) (true ∷ false ∷ []) ≡ false ∷ true ∷ []

-- ---- a history

abbrev pub fed : ModelState
fed = start_state (insert_place empty FeedEntry) 40

abbrev pub along_belt : List Event
along_belt =
    done Feed (Claim Z6)
    ∷ refused CraneMachine (Claim Z6) (Held Feed)
    ∷ done Feed (SetPose Running)
    ∷ event Watch (Inquire Z6) (Shown (Some Feed) false Moving)
    ∷ done Feed Advance
    ∷ done TableMachine (Claim Z1)
    ∷ done TableMachine (Claim Z2)
    ∷ done TableMachine (SetPose Turning)
    ∷ done TableMachine (SetPose Loading)
    ∷ done TableMachine (Yield Z1)
    ∷ done Feed (Give Z1)
    ∷ done Watch Stop
    ∷ refused Press (Claim Z3) Stopped
    ∷ done TableMachine (Take Z1)
    ∷ done Watch Resume
    ∷ done Press (Claim Z3)
    ∷ refused Watch Resume NotStopped
    ∷ done TableMachine (Release Z2)
    ∷ []

abbrev pub entry : Call → Answer → ℕ → Entry
entry c a stamp = record { call = c; answer = a; stamp = stamp }

-- what an inquiry of each zone shows
abbrev pub shown_zones : ModelState → List Answer
shown_zones s = map (λ z. reply s Watch (Inquire z)) all_zones

pub record HistoryTable : Type 0 where
  pub legal : IsLegal fed along_belt
  pub stamp : (after fed along_belt).stamp ≡ 54
  pub changes : done_count along_belt ≡ 14
  pub by_others_than_feed : changes_by_others along_belt Feed ≡ 10
  pub by_others_than_robot : changes_by_others along_belt Robot ≡ 14
  pub own : own_events along_belt Press ≡ refused Press (Claim Z3) Stopped ∷ done Press (Claim Z3) ∷ []
  pub none : own_events along_belt Deposit ≡ []
  pub stops : count_by is_stop along_belt ≡ 1
  pub resumes : count_by is_resume along_belt ≡ 1
  pub ends : shown_zones (after fed along_belt)
      ≡ Shown (Some TableMachine) false OpenIn
      ∷ Shown None false Closed
      ∷ Shown (Some Press) false Closed
      ∷ Shown None false Closed
      ∷ Shown None false Closed
      ∷ Shown (Some Feed) false Closed
      ∷ []
  pub while_stopped : shown_zones (after fed (take 13 along_belt))
      ≡ Shown (Some TableMachine) true OpenIn
      ∷ Shown (Some TableMachine) false Closed
      ∷ Shown None false Closed
      ∷ Shown None false Closed
      ∷ Shown None false Closed
      ∷ Shown (Some Feed) false Closed
      ∷ []
  pub is_stopped : (after fed (take 13 along_belt)).stopped ≡ true
  pub goes_on : (after fed along_belt).stopped ≡ false
  pub postures : map (posture_by_events fed along_belt) all_zones
      ≡ OpenIn ∷ Closed ∷ Closed ∷ Closed ∷ Closed ∷ Closed ∷ []
  pub postures_before : map (posture_by_events fed (take 4 along_belt)) all_zones
      ≡ Closed ∷ Closed ∷ Closed ∷ Closed ∷ Closed ∷ Moving ∷ []
  pub plates : map (plates_at fed along_belt) all_places
      ≡ pos 0 ∷ pos 0 ∷ pos 1 ∷ pos 0 ∷ pos 0 ∷ pos 0 ∷ pos 0 ∷ pos 0 ∷ pos 0 ∷ pos 0 ∷ []
  pub plates_on_belt : map (plates_at fed (take 5 along_belt)) all_places
      ≡ pos 0 ∷ pos 1 ∷ pos 0 ∷ pos 0 ∷ pos 0 ∷ pos 0 ∷ pos 0 ∷ pos 0 ∷ pos 0 ∷ pos 0 ∷ []
  pub on_the_way : map (plates_in_transfer fed (take 13 along_belt)) all_zones
      ≡ pos 1 ∷ pos 0 ∷ pos 0 ∷ pos 0 ∷ pos 0 ∷ pos 0 ∷ []
  pub arrived : map (plates_in_transfer fed along_belt) all_zones
      ≡ pos 0 ∷ pos 0 ∷ pos 0 ∷ pos 0 ∷ pos 0 ∷ pos 0 ∷ []
  -- each machine notes its own calls, refused ones and inquiries too, with the stamp after each
  pub noted_by_watch : noted fed along_belt Watch
      ≡ entry (Inquire Z6) (Shown (Some Feed) false Moving) 42
      ∷ entry Stop Done 50
      ∷ entry Resume Done 52
      ∷ entry Resume (Refused NotStopped) 53
      ∷ []
  pub noted_by_press : noted fed along_belt Press
      ≡ entry (Claim Z3) (Refused Stopped) 50 ∷ entry (Claim Z3) Done 53 ∷ []
  pub noted_by_crane : noted fed along_belt CraneMachine ≡ entry (Claim Z6) (Refused (Held Feed)) 41 ∷ []
  pub noted_by_robot : noted fed along_belt Robot ≡ []
  pub event_of_entry : event_by CraneMachine (entry (Claim Z6) (Refused (Held Feed)) 41)
      ≡ refused CraneMachine (Claim Z6) (Held Feed)
  -- what a bench says of its last call
  pub last : last_event (take 3 along_belt) ≡ Some (done Feed (SetPose Running))
  pub no_last : last_event [] ≡ None
  pub nothing : last_of in_use along_belt Nothing ≡ None
  pub settled_last : last_of in_use (take 2 along_belt) Settled
      ≡ Some (Claim Z6, Ok (settled (Refused (Held Feed)) 1048575))
  pub busy_last : last_of fed along_belt (Busy Advance) ≡ Some (Advance, Ok (busy 1 40))
  pub out_of_memory_last : last_of fed along_belt (OutOfMemory Stop) ≡ Some (Stop, Err Memory)
  pub heard_first : heard_after heard_nothing Stop (Err Memory) ≡ record { asks = 1; last = Some (Stop, Err Memory) }
  pub heard_next :
      heard_after (record { asks = 41; last = Some (Stop, Err Memory) }) (Take Z5) (Ok (busy 1 40))
      ≡ record { asks = 42; last = Some (Take Z5, Ok (busy 1 40)) }
  pub heard_round :
      heard_after (record { asks = 18446744073709551615; last = None }) (Take Z5) (Ok (settled Done 40))
      ≡ record { asks = 0; last = Some (Take Z5, Ok (settled Done 40)) }

pub record HistoryTables : Type 0 where
  pub gains : GainTable
  pub places : PlaceTable
  pub calls : CallTable
  pub history : HistoryTable
