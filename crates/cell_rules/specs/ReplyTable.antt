-- Replies to calls in literal states: each refusal of each call, and the call done. In the states of an order several
-- causes hold at once.
use Rattle.std.specs.Prelude.{◌≡◌, true, false, List, [], ◌∷◌, filter, map, Some, None}
use Rattle.cell_rules.specs.Types.{Machine, Feed, Robot, Press, Deposit, Watch, Zone, Z1, Z2, Z3, Z4, Z5, Z6}
use Rattle.cell_rules.specs.Types.{FeedEntry, FeedEnd, Arm1, PressIn, PressOut, Arm2, DepEntry, DepEnd, Place}
use Rattle.cell_rules.specs.Types.{Closed, Moving, OpenIn, OpenOut, Pose, Turning, Loading, Unloading, Travelling}
use Rattle.cell_rules.specs.Types.{Middle, Low, Running, Landing, Halted, Offering, Standing, Claim, Give}
use Rattle.cell_rules.specs.Types.{Yield, Take, Release, SetPose, Advance, Inquire, Stop, Resume, NotParty}
use Rattle.cell_rules.specs.Types.{Held, AlreadyMine, Shut, NotOwner, PlateInZone, NoPlate, PlaceFull, WrongWay, Jump}
use Rattle.cell_rules.specs.Types.{NotAtWork, NoPose, Worn, Stopped, NotStopped, InUse, Done, Refused, Shown}
use Rattle.cell_rules.specs.Types.{all_places, all_poses}
use Rattle.cell_types.specs.declared.machine.Machine.TheVariants.{Table as TableMachine, Crane as CraneMachine}
use Rattle.cell_types.specs.declared.place.Place.TheVariants.{Table}
use Rattle.cell_rules.specs.declared.zones.ZoneState.{ZoneState}
use Rattle.cell_rules.specs.Causes.{is_cause}
use Rattle.cell_rules.specs.HistoryTables.{shown_zones}
use Rattle.cell_rules.specs.LawExamples.{unused, table_with}
use Rattle.cell_rules.specs.ModelState.{ModelState, model_state}
use Rattle.cell_rules.specs.PlaceSet.{PlaceSet, empty, has, insert_place}
use Rattle.cell_rules.specs.Reply.{reply, next}
use Rattle.cell_rules.specs.StateExamples.{cell_with, free_in, held_in, with_plate}
use Rattle.cell_rules.specs.ZoneMap.{everywhere, free_zone, put_zone}

abbrev pub stopped : ModelState → ModelState
stopped s = record s { stopped = true }

abbrev pub worn : ModelState → ModelState
worn s = record s { stamp = 1048575 }

-- only z3 is used
abbrev pub press_with : ZoneState → PlaceSet → ModelState
press_with v full = cell_with Z3 v full

abbrev pub only_full : Place → PlaceSet
only_full p = insert_place empty p

-- only the two zones of a machine are used
abbrev pub both : Zone → ZoneState → Zone → ZoneState → PlaceSet → ModelState
both y v z w full = model_state (put_zone (put_zone (everywhere free_zone) y v) z w) full 0 false

pub record ClaimReplies : Type 0 where
  pub done : reply unused Press (Claim Z3) ≡ Done
  pub guest : reply (press_with (free_in OpenOut) empty) Robot (Claim Z3) ≡ Done
  pub not_party : reply unused Feed (Claim Z3) ≡ Refused NotParty
  pub stopped_cell : reply (stopped unused) Press (Claim Z3) ≡ Refused Stopped
  pub already : reply (press_with (held_in Press Closed) empty) Press (Claim Z3) ≡ Refused AlreadyMine
  pub held : reply (press_with (held_in Robot OpenIn) empty) Press (Claim Z3) ≡ Refused (Held Robot)
  pub held_first : reply (press_with (held_in Press Moving) empty) Robot (Claim Z3) ≡ Refused (Held Press)
  pub shut : reply unused Robot (Claim Z3) ≡ Refused (Shut Closed)
  pub moving : reply (press_with (free_in Moving) empty) Robot (Claim Z3) ≡ Refused (Shut Moving)
  pub worn_out : reply (worn unused) Press (Claim Z3) ≡ Refused Worn
  pub party_first : reply (stopped (worn (press_with (held_in Press Closed) empty))) Feed (Claim Z3) ≡ Refused NotParty
  pub stop_first : reply (stopped (worn (press_with (held_in Press Closed) empty))) Press (Claim Z3) ≡ Refused Stopped
  pub shut_before_worn : reply (worn unused) Robot (Claim Z3) ≡ Refused (Shut Closed)

-- arm 1 has a plate, and the robot the press, which is open inward
abbrev pub robot_at_press : PlaceSet → ModelState
robot_at_press full = press_with (held_in Robot OpenIn) full

pub record GiveReplies : Type 0 where
  pub done : reply (robot_at_press (only_full Arm1)) Robot (Give Z3) ≡ Done
  pub not_party : reply unused CraneMachine (Give Z3) ≡ Refused NotParty
  pub stopped_cell : reply (stopped (robot_at_press (only_full Arm1))) Robot (Give Z3) ≡ Refused Stopped
  pub free : reply unused Robot (Give Z3) ≡ Refused (NotOwner None)
  pub anothers : reply (press_with (held_in Press OpenIn) empty) Robot (Give Z3) ≡ Refused (NotOwner (Some Press))
  pub plate : reply (press_with (with_plate (held_in Press OpenIn)) empty) Press (Give Z3) ≡ Refused (PlateInZone Z3)
  pub wrong_way : reply (press_with (held_in Robot OpenOut) (only_full Arm1)) Robot (Give Z3) ≡ Refused WrongWay
  pub closed_way : reply (press_with (held_in Press Closed) (only_full PressOut)) Press (Give Z3) ≡ Refused WrongWay
  pub no_plate : reply (robot_at_press (only_full Arm2)) Robot (Give Z3) ≡ Refused NoPlate
  pub no_room : reply (robot_at_press (insert_place (only_full Arm1) PressIn)) Robot (Give Z3) ≡ Refused PlaceFull
  pub plate_before_room : reply (robot_at_press (only_full PressIn)) Robot (Give Z3) ≡ Refused NoPlate
  pub worn_out : reply (worn (robot_at_press (only_full Arm1))) Robot (Give Z3) ≡ Refused Worn

-- feed has the table's zone while its belt runs with a plate at its end
abbrev pub feed_in_use : PlaceSet → ModelState
feed_in_use full = both Z1 (held_in Feed OpenIn) Z6 (held_in Feed Moving) full

pub record HandoverReplies : Type 0 where
  pub yields : reply (press_with (held_in Press OpenIn) empty) Press (Yield Z3) ≡ Done
  pub yields_as_stranger : reply unused Watch (Yield Z3) ≡ Refused NotParty
  pub yields_free : reply unused Press (Yield Z3) ≡ Refused (NotOwner None)
  pub yields_plate : reply (press_with (with_plate (held_in Press OpenIn)) empty) Press (Yield Z3)
      ≡ Refused (PlateInZone Z3)
  pub yields_closed : reply (press_with (held_in Press Closed) empty) Press (Yield Z3) ≡ Refused (Shut Closed)
  pub yields_moving : reply (press_with (held_in Press Moving) empty) Press (Yield Z3) ≡ Refused (Shut Moving)
  pub yields_in_use : reply (feed_in_use (only_full FeedEnd)) Feed (Yield Z1) ≡ Refused InUse
  pub yields_worn : reply (worn (press_with (held_in Press OpenIn) empty)) Press (Yield Z3) ≡ Refused Worn
  pub yields_stopped : reply (stopped (press_with (held_in Press OpenIn) empty)) Press (Yield Z3) ≡ Done
  pub takes : reply (press_with (with_plate (held_in Press OpenIn)) empty) Press (Take Z3) ≡ Done
  pub takes_as_stranger : reply unused Deposit (Take Z3) ≡ Refused NotParty
  pub takes_anothers : reply (press_with (held_in Press OpenIn) empty) Robot (Take Z3)
      ≡ Refused (NotOwner (Some Press))
  pub takes_nothing : reply (press_with (held_in Press OpenIn) empty) Press (Take Z3) ≡ Refused NoPlate
  pub takes_worn : reply (worn (press_with (with_plate (held_in Press OpenIn)) empty)) Press (Take Z3) ≡ Refused Worn
  pub takes_stopped : reply (stopped (press_with (with_plate (held_in Press OpenIn)) empty)) Press (Take Z3) ≡ Done
  pub releases : reply (press_with (held_in Press Closed) empty) Press (Release Z3) ≡ Done
  pub releases_as_stranger : reply unused Feed (Release Z3) ≡ Refused NotParty
  pub releases_free : reply unused Press (Release Z3) ≡ Refused (NotOwner None)
  pub releases_plate : reply (press_with (with_plate (held_in Press OpenIn)) empty) Press (Release Z3)
      ≡ Refused (PlateInZone Z3)
  pub releases_moving : reply (press_with (held_in Press Moving) empty) Press (Release Z3) ≡ Refused (Shut Moving)
  pub releases_in_use : reply (feed_in_use (only_full FeedEnd)) Feed (Release Z1) ≡ Refused InUse
  pub releases_with_empty_end : reply (feed_in_use (only_full FeedEntry)) Feed (Release Z1) ≡ Done
  pub releases_while_belt_stands : reply (cell_with Z1 (held_in Feed OpenIn) (only_full FeedEnd)) Feed (Release Z1)
      ≡ Done
  pub table_may_leave : reply (both Z1 (held_in TableMachine OpenIn) Z6 (held_in Feed Moving) (only_full FeedEnd))
      TableMachine (Release Z1)
      ≡ Done
  pub releases_worn : reply (worn (press_with (held_in Press Closed) empty)) Press (Release Z3) ≡ Refused Worn
  pub releases_stopped : reply (stopped (press_with (held_in Press Closed) empty)) Press (Release Z3) ≡ Done

-- the table holds both its zones, or one of them
abbrev pub table_moves : PlaceSet → ModelState
table_moves full = table_with Moving Moving full

-- the poses that a machine doesn't have, by the causes of refusals
abbrev pub lacked_poses : Machine → List Pose
lacked_poses m = filter (λ p. is_cause unused m (SetPose p) NoPose) all_poses

pub record PoseReplies : Type 0 where
  pub turns : reply (table_with OpenIn Closed empty) TableMachine (SetPose Turning) ≡ Done
  pub loads : reply (table_moves empty) TableMachine (SetPose Loading) ≡ Done
  pub unloads_with_plate : reply (table_moves (only_full Table)) TableMachine (SetPose Unloading) ≡ Done
  pub no_pose : map (λ m. reply unused m (SetPose Middle)) (Feed ∷ TableMachine ∷ Robot ∷ Deposit ∷ Watch ∷ [])
      ≡ Refused NoPose ∷ Refused NoPose ∷ Refused NoPose ∷ Refused NoPose ∷ Refused NoPose ∷ []
  pub turns_stopped : reply (stopped (table_with OpenIn Closed empty)) TableMachine (SetPose Turning) ≡ Refused Stopped
  pub loads_stopped : reply (stopped (table_moves empty)) TableMachine (SetPose Loading) ≡ Done
  pub second_unowned :
      reply (both Z1 (held_in TableMachine OpenIn) Z2 (free_in Closed) empty) TableMachine (SetPose Turning)
      ≡ Refused (NotOwner None)
  pub first_anothers : reply (both Z1 (held_in Feed OpenIn) Z2 (free_in Closed) empty) TableMachine (SetPose Turning)
      ≡ Refused (NotOwner (Some Feed))
  pub stays_unowned : reply (both Z4 (held_in Deposit Closed) Z5 (free_in OpenOut) empty) Deposit (SetPose Standing)
      ≡ Done
  pub plate : reply (press_with (with_plate (held_in Press OpenIn)) empty) Press (SetPose Travelling)
      ≡ Refused (PlateInZone Z3)
  pub jumps : reply (press_with (held_in Press Closed) empty) Press (SetPose Middle) ≡ Refused Jump
  pub table_jumps : reply (table_with Closed Moving empty) TableMachine (SetPose Unloading) ≡ Refused Jump
  pub belt_may_jump : reply (cell_with Z6 (held_in Feed Closed) empty) Feed (SetPose Landing) ≡ Done
  pub opens_onto_table : reply (table_moves (only_full Table)) TableMachine (SetPose Loading) ≡ Refused PlaceFull
  pub opens_onto_unforged : reply (press_with (held_in Press Moving) (only_full PressIn)) Press (SetPose Middle)
      ≡ Refused PlaceFull
  pub opens_onto_forged : reply (press_with (held_in Press Moving) (only_full PressOut)) Press (SetPose Middle)
      ≡ Refused PlaceFull
  pub lowers_forged : reply (press_with (held_in Press Moving) (only_full PressOut)) Press (SetPose Low) ≡ Done
  pub feed_opens_onto_plate : reply (cell_with Z6 (held_in Feed Closed) (only_full FeedEntry)) Feed (SetPose Landing)
      ≡ Refused PlaceFull
  pub deposit_opens_onto_plate :
      map (λ p. reply (cell_with Z4 (held_in Deposit Closed) (only_full DepEntry)) Deposit (SetPose p)) (Landing ∷ [])
      ≡ Refused PlaceFull ∷ []
  pub feed_runs_onto_plate : reply (cell_with Z6 (held_in Feed Closed) (only_full FeedEnd)) Feed (SetPose Running)
      ≡ Refused PlaceFull
  pub feed_runs_with_z1 :
      reply (both Z1 (held_in Feed OpenIn) Z6 (held_in Feed Closed) (only_full FeedEnd)) Feed (SetPose Running)
      ≡ Done
  pub deposit_runs_onto_plate :
      reply (both Z4 (held_in Deposit Closed) Z5 (held_in Deposit Closed) (only_full DepEnd)) Deposit (SetPose Running)
      ≡ Refused PlaceFull
  pub deposit_runs_with_entry :
      reply (both Z4 (held_in Deposit Closed) Z5 (held_in Deposit Closed) (only_full DepEntry))
      Deposit (SetPose Running)
      ≡ Done
  pub worn_out : reply (worn (table_moves empty)) TableMachine (SetPose Loading) ≡ Refused Worn
  pub owner_before_plate : reply (press_with (with_plate (held_in Robot OpenOut)) empty) Press (SetPose Travelling)
      ≡ Refused (NotOwner (Some Robot))
  pub lacking : map lacked_poses (Press ∷ CraneMachine ∷ [])
      ≡ (Turning ∷ Loading ∷ Unloading ∷ Running ∷ Landing ∷ Halted ∷ Offering ∷ Standing ∷ [])
      ∷ all_poses
      ∷ []

-- the deposit belt runs
abbrev pub deposit_runs : PlaceSet → ModelState
deposit_runs full = both Z4 (held_in Deposit Moving) Z5 (held_in Deposit Moving) full

pub record WorkReplies : Type 0 where
  pub feed : reply (cell_with Z6 (held_in Feed Moving) (only_full FeedEntry)) Feed Advance ≡ Done
  pub deposit : reply (deposit_runs (only_full DepEntry)) Deposit Advance ≡ Done
  pub press : reply (press_with (held_in Press Closed) (only_full PressIn)) Press Advance ≡ Done
  pub no_work : map (λ m. reply unused m Advance) (TableMachine ∷ Robot ∷ CraneMachine ∷ Watch ∷ [])
      ≡ Refused NoPose ∷ Refused NoPose ∷ Refused NoPose ∷ Refused NoPose ∷ []
  pub press_free : reply unused Press Advance ≡ Refused (NotOwner None)
  pub press_anothers : reply (press_with (held_in Robot OpenIn) empty) Press Advance ≡ Refused (NotOwner (Some Robot))
  pub feed_stands : reply (cell_with Z6 (held_in Feed OpenIn) (only_full FeedEntry)) Feed Advance ≡ Refused NotAtWork
  pub entry_stands :
      reply (both Z4 (held_in Deposit Closed) Z5 (held_in Deposit Moving) (only_full DepEntry)) Deposit Advance
      ≡ Refused NotAtWork
  pub end_stands :
      reply (both Z4 (held_in Deposit Moving) Z5 (held_in Deposit Closed) (only_full DepEntry)) Deposit Advance
      ≡ Refused NotAtWork
  pub press_open : reply (press_with (held_in Press Moving) (only_full PressIn)) Press Advance ≡ Refused NotAtWork
  pub no_plate : reply (deposit_runs (only_full DepEnd)) Deposit Advance ≡ Refused NoPlate
  pub no_room : reply (cell_with Z6 (held_in Feed Moving) (insert_place (only_full FeedEntry) FeedEnd)) Feed Advance
      ≡ Refused PlaceFull
  pub worn_out : reply (worn (deposit_runs (only_full DepEntry))) Deposit Advance ≡ Refused Worn
  pub while_stopped : reply (stopped (deposit_runs (only_full DepEntry))) Deposit Advance ≡ Done
  pub stop : reply unused Watch Stop ≡ Done
  pub stop_by_others : map (λ m. reply unused m Stop) (Feed ∷ Robot ∷ Press ∷ [])
      ≡ Refused NotParty ∷ Refused NotParty ∷ Refused NotParty ∷ []
  pub stops_twice : reply (stopped unused) Watch Stop ≡ Refused Stopped
  pub stops_worn : reply (worn unused) Watch Stop ≡ Refused Worn
  pub resume : reply (stopped unused) Watch Resume ≡ Done
  pub resume_by_others : reply (stopped unused) Press Resume ≡ Refused NotParty
  pub resumes_running : reply unused Watch Resume ≡ Refused NotStopped
  pub resumes_worn : reply (worn (stopped unused)) Watch Resume ≡ Refused Worn
  pub inquiry_worn : reply (stopped (worn (press_with (held_in Robot OpenIn) empty))) Feed (Inquire Z3)
      ≡ Shown (Some Robot) false OpenIn

-- the places that are full
abbrev pub full_places : ModelState → List Place
full_places s = filter (has s.full) all_places

-- what calls leave
pub record LeftStates : Type 0 where
  pub given : full_places (next (robot_at_press (only_full Arm1)) Robot (Give Z3)) ≡ []
  pub given_zone : reply (next (robot_at_press (only_full Arm1)) Robot (Give Z3)) Watch (Inquire Z3)
      ≡ Shown (Some Press) true OpenIn
  pub taken : full_places (next (press_with (with_plate (held_in Press OpenIn)) empty) Press (Take Z3)) ≡ PressIn ∷ []
  pub taken_zone :
      reply (next (press_with (with_plate (held_in Press OpenIn)) empty) Press (Take Z3)) Watch (Inquire Z3)
      ≡ Shown (Some Press) false OpenIn
  pub forged : full_places (next (press_with (held_in Press Closed) (only_full PressIn)) Press Advance) ≡ PressOut ∷ []
  pub forged_zone :
      reply (next (press_with (held_in Press Closed) (only_full PressIn)) Press Advance) Watch (Inquire Z3)
      ≡ Shown (Some Press) false Closed
  pub moved : full_places (next (deposit_runs (only_full DepEntry)) Deposit Advance) ≡ DepEnd ∷ []
  pub halts : shown_zones (next (deposit_runs (only_full DepEntry)) Deposit Advance)
      ≡ Shown None false Closed
      ∷ Shown None false Closed
      ∷ Shown None false Closed
      ∷ Shown (Some Deposit) false Closed
      ∷ Shown (Some Deposit) false Closed
      ∷ Shown None false Closed
      ∷ []
  pub posed :
      shown_zones (next (both Z4 (held_in Deposit Closed) Z5 (held_in Deposit Closed) empty) Deposit (SetPose Standing))
      ≡ Shown None false Closed
      ∷ Shown None false Closed
      ∷ Shown None false Closed
      ∷ Shown (Some Deposit) false OpenIn
      ∷ Shown (Some Deposit) false OpenOut
      ∷ Shown None false Closed
      ∷ []
  pub yielded : reply (next (press_with (held_in Robot OpenOut) empty) Robot (Yield Z3)) Watch (Inquire Z3)
      ≡ Shown (Some Press) false OpenOut
  pub released : reply (next (press_with (held_in Robot OpenOut) empty) Robot (Release Z3)) Watch (Inquire Z3)
      ≡ Shown None false OpenOut
  pub stopped_mark : map (λ s. s.stopped) (next unused Watch Stop ∷ next (stopped unused) Watch Resume ∷ [])
      ≡ true ∷ false ∷ []
  pub stays_stopped : (next (stopped (press_with (held_in Press Closed) empty)) Press (Release Z3)).stopped ≡ true
  pub refused : next (worn unused) Press (Claim Z3) ≡ worn unused
  pub asked : next unused Press (Inquire Z3) ≡ unused
  pub stamp : (next (record unused { stamp = 41 }) Press (Claim Z3)).stamp ≡ 42
  pub last_but_one : reply (record unused { stamp = 1048574 }) Press (Claim Z3) ≡ Done

pub record ReplyTable : Type 0 where
  pub claims : ClaimReplies
  pub gives : GiveReplies
  pub handovers : HandoverReplies
  pub poses : PoseReplies
  pub works : WorkReplies
  pub left : LeftStates
