-- What pages show, literally: their data and their lines, of a press at a standstill, and of a junction whose points
-- starve.
use Rattle.std.specs.Prelude.{◌≡◌, true, false, List, [], ◌∷◌, ◌++◌, codes, replicate, Some, None}
use Rattle.graph_progress.specs.declared.answer.Reason.{Reason}
use Rattle.plan_types.specs.declared.answer.Answer.TheVariants.{Done, Shown, Refused}
use Rattle.plan_types.specs.declared.answer.Event.{Event}
use Rattle.plan_types.specs.declared.answer.Refusal.TheVariants.{Held, NotOwner, PlaceFull}
use Rattle.plan_types.specs.declared.call.Call.{Call}
use Rattle.plan_types.specs.declared.call.Call.TheVariants.{Claim, Give, Inquire, Release, SetPose}
use Rattle.plan_types.specs.declared.posture.Posture.TheVariants.{Closed, Moving, OpenIn}
use Rattle.plan_types.specs.declared.shape.Postures.TheVariants.{Shut, Two}
use Rattle.plan_types.specs.Table.{PlanTable, plan_table}
use Rattle.plan_types.specs.Examples.{pose, way, zone}
use Rattle.plan_rules.specs.declared.state.State.{State}
use Rattle.plan_rules.specs.State.{start_state}
use Rattle.plan_controller.specs.declared.step.Step.{Step}
use Rattle.plan_controller.specs.declared.step.Step.TheVariants.{Do, Await, Run}
use Rattle.plan_controller.specs.Faults.{no_faults}
use Rattle.plan_explorer.specs.Examples.{patient, start}
use Rattle.plan_explorer.specs.Programs.{PlanPrograms}
use Rattle.plan_explorer.specs.Situations.{unstamped}
use Rattle.plan_liveness.specs.declared.answer.Bound.{Bound}
use Rattle.plan_liveness.specs.declared.answer.FairOrder.{FairOrder}
use Rattle.plan_liveness.specs.declared.answer.Liveness.TheVariants.{Silent, Always, IfOne, IfAll, IfTwo}
use Rattle.plan_liveness.specs.declared.answer.Liveness.TheVariants.{Starves, Unknown}
use Rattle.plan_liveness.specs.declared.answer.Progress.TheVariants as progress
use Rattle.plan_liveness.specs.declared.answer.Relay.{Relay}
use Rattle.plan_motors.specs.declared.motor.Motor.{Motor}
use Rattle.plan_motors.specs.Examples.{arm, held, motor, ram}
use Rattle.plan_motors.specs.Motor.{no_need}
use Rattle.plan_text.specs.Names.{Text}
use Rattle.plan_text.specs.Named.{Named, named}
use Rattle.plan_app.specs.Films as film
use Rattle.plan_app.specs.GoingExamples.{event, press}
use Rattle.plan_app.specs.PageData as pages
use Rattle.plan_app.specs.Pages as page
use Rattle.plan_app.specs.WordExamples.{three}

abbrev pub call : Call → Step
call c = Do c no_faults

-- ---- a press, with its ram and the arm of its loader

abbrev pub press_motors : List Text
press_motors = codes "ram" ∷ codes "arm_in_press" ∷ []

abbrev pub press_sensors : List (List Text)
press_sensors = [] ∷ (codes "at_bottom" ∷ codes "at_top" ∷ []) ∷ []

abbrev pub press_steps : List (List Step)
press_steps =
    (call (Give 0) ∷ Await 0 ∷ call (Release 0) ∷ [])
    ∷ (call (Claim 0) ∷ call (SetPose 3) ∷ Run 1 1 ∷ Run 0 0 ∷ []) ∷ []

abbrev pub press_data : Text
press_data =
    codes "{\"note\": \"a standstill after 2 turns, and no fewer\",\n"
    ++ codes "\"machines\": [\"loader\", \"press\"],\n"
    ++ codes "\"places\": [{\"name\": \"hand\", \"keeper\": 0}, {\"name\": \"die\", \"keeper\": 1}],\n"
    ++ codes "\"zones\": [{\"name\": \"interior\", \"host\": 1, \"guest\": 0, "
    ++ codes "\"inward\": [0, 1], \"outward\": [1, 0], "
    ++ codes "\"postures\": [\"closed\", \"moving\", \"openin\", \"openout\"]}],\n"
    ++ codes "\"motors\": [{\"name\": \"ram\", \"machine\": 1, \"mask\": \"1b\", \"pattern\": \"9\"}, "
    ++ codes "{\"name\": \"arm_in_press\", \"machine\": 0, \"mask\": \"3\", \"pattern\": \"2\"}],\n"
    ++ codes "\"programs\": [[\"give interior\", \"inquire interior\", \"release interior\"], "
    ++ codes "[\"claim interior\", \"pose travelling\", \"run ram until at_top\", \"await at_bottom\"]]}\n"

-- both have a plate
abbrev pub full : State
full = unstamped (start true true)

-- the press claims its zone, moves, and can't open; then each waits, twice
abbrev pub press_events : List Event
press_events =
    event 1 (Claim 0) Done ∷ event 1 (SetPose 3) Done
    ∷ event 0 (Give 0) (Refused (NotOwner (Some 1))) ∷ event 1 (SetPose 0) (Refused PlaceFull)
    ∷ event 0 (Give 0) (Refused (NotOwner (Some 1))) ∷ event 1 (SetPose 0) (Refused PlaceFull) ∷ []

-- ---- points, and a train on either road

abbrev pub junction_table : PlanTable
junction_table =
    plan_table 3 (zone 0 1 None None ∷ zone 0 2 None None ∷ [])
    (pose 0 false (Some Moving) (Some Moving) ∷ pose 0 true (Some OpenIn) (Some Closed)
    ∷ pose 0 true (Some Closed) (Some OpenIn) ∷ []) []

abbrev pub junction : Named
junction =
    named junction_table (codes "points" ∷ codes "north_train" ∷ codes "south_train" ∷ [])
    (codes "north_road" ∷ codes "south_road" ∷ []) []
    (codes "switching" ∷ codes "set_north" ∷ codes "set_south" ∷ [])

abbrev pub junction_programs : PlanPrograms
junction_programs =
    (Claim 0 ∷ Claim 1 ∷ SetPose 0 ∷ SetPose 1 ∷ Release 0 ∷ Claim 0 ∷ SetPose 0 ∷ SetPose 2 ∷ Release 1 ∷ Release 0
    ∷ []) ∷ (Claim 0 ∷ Release 0 ∷ []) ∷ (Claim 1 ∷ Release 1 ∷ []) ∷ []

abbrev pub junction_steps : List (List Step)
junction_steps =
    (call (Claim 0) ∷ call (SetPose 1) ∷ []) ∷ (call (Claim 0) ∷ call (Release 0) ∷ []) ∷ [] ∷ []

abbrev pub junction_motors : List Motor
junction_motors =
    motor 0 (held (Some Moving)) (held (Some Moving)) None None ∷ motor 1 (held None) no_need None None
    ∷ motor 2 no_need (held None) None None ∷ []

abbrev pub junction_data : Text
junction_data =
    codes "{\"note\": \"a fair order in which points starves\",\n"
    ++ codes "\"machines\": [\"points\", \"north_train\", \"south_train\"],\n\"places\": [],\n"
    ++ codes "\"zones\": [{\"name\": \"north_road\", \"host\": 0, \"guest\": 1, \"inward\": null, \"outward\": null, "
    ++ codes "\"postures\": [\"closed\", \"moving\", \"openin\", \"openout\"]}, "
    ++ codes "{\"name\": \"south_road\", \"host\": 0, \"guest\": 2, \"inward\": null, \"outward\": null, "
    ++ codes "\"postures\": [\"closed\", \"moving\", \"openin\", \"openout\"]}],\n"
    ++ codes "\"motors\": [{\"name\": \"blades\", \"machine\": 0, \"mask\": \"ff\", \"pattern\": \"55\"}, "
    ++ codes "{\"name\": \"north_drive\", \"machine\": 1, \"mask\": \"3\", \"pattern\": \"2\"}, "
    ++ codes "{\"name\": \"south_drive\", \"machine\": 2, \"mask\": \"30\", \"pattern\": \"20\"}],\n"
    ++ codes "\"programs\": [[\"claim north_road\", \"pose set_north\"], "
    ++ codes "[\"claim north_road\", \"release north_road\"], []]}\n"

abbrev pub idle : State
idle = start_state (replicate 16 false) 0

-- the points set the north road and let it go, and then the train has it again and again
pub record PassesPoints (order : FairOrder) : Type 0 where
  pub stem : order.stem.items ≡ 0 ∷ 0 ∷ 0 ∷ 0 ∷ 0 ∷ []
  pub cycle : order.cycle.items ≡ 1 ∷ 1 ∷ []

abbrev pub train_round : List Event
train_round = event 1 (Claim 0) Done ∷ event 0 (Claim 0) (Refused (Held 1)) ∷ event 1 (Release 0) Done ∷ []

abbrev pub set_events : List Event
set_events =
    event 0 (Claim 0) Done ∷ event 0 (Claim 1) Done ∷ event 0 (SetPose 0) Done ∷ event 0 (SetPose 1) Done
    ∷ event 0 (Release 0) Done ∷ []

-- ---- data

pub record DataIsTold : Type 0 where
  pub of_press : pages.data_text press press_motors (ram ∷ arm ∷ []) press_sensors press_steps
      (codes "a standstill after 2 turns, and no fewer") ≡ press_data
  pub of_junction : pages.data_text junction (codes "blades" ∷ codes "north_drive" ∷ codes "south_drive" ∷ [])
      junction_motors [] junction_steps (codes "a fair order in which points starves") ≡ junction_data
  pub nothing : pages.data_text (three junction_table) [] [] [] [] [] ≡ codes "{\"note\": \"\",\n"
      ++ codes "\"machines\": [\"lift\", \"cart\", \"door\"],\n\"places\": [],\n\"zones\": [],\n\"motors\": [],\n"
      ++ codes "\"programs\": []}\n"
  -- a way has its ends in order, a zone its parties, a place its keeper
  pub forth : pages.way_text (way 0 1) ≡ codes "[0, 1]"
  pub back : ¬ (pages.way_text (way 0 1) ≡ codes "[1, 0]")
  pub no_way : pages.way_text None ≡ codes "null"
  pub shut : pages.told_text Shut ≡ codes "\"closed\""
  pub one_more : pages.told_text (Two OpenIn) ≡ codes "\"closed\", \"openin\""
  pub parties : pages.parties_text press 0 ≡ codes "{\"name\": \"interior\", \"host\": 1, \"guest\": 0"
  pub guest_first : ¬ (pages.parties_text press 0 ≡ codes "{\"name\": \"interior\", \"host\": 0, \"guest\": 1")
  pub keeper : ¬ (pages.place_item press 1 ≡ codes "{\"name\": \"die\", \"keeper\": 0}")
  -- motors by their bits, whatever other bits there are; without motors a line waits
  pub second : pages.run_text press_motors 2 (codes "at_top") ≡ codes "run arm_in_press until at_top"
  pub both : pages.run_text press_motors 3 (codes "at_top") ≡ codes "run ram arm_in_press until at_top"
  pub stranger : pages.run_text press_motors 4 (codes "at_top") ≡ codes "run until at_top"
  pub waits : pages.run_text press_motors 0 (codes "at_top") ≡ codes "await at_top"
  pub other_sensor : pages.line_text press press_motors press_sensors 1 (Run 1 0) ≡ codes "run ram until at_bottom"
  pub none_of_it : pages.line_text press press_motors press_sensors 0 (Run 1 0) ≡ codes "run ram until "

-- ---- lines

pub record LinesAreShown : Type 0 where
  pub of_press : film.film_lines press full press_events ≡ codes "start;60\n"
      ++ codes "press;claim interior;done;e1\n" ++ codes "press;pose travelling;done;169\n"
      ++ codes "loader;give interior;notowner press;\n" ++ codes "press;pose load;placefull;\n"
      ++ codes "loader;give interior;notowner press;\n" ++ codes "press;pose load;placefull;\n"
  pub of_junction : film.film_lines junction idle (set_events ++ train_round) ≡ codes "start;0\n"
      ++ codes "points;claim north_road;done;101\n" ++ codes "points;claim south_road;done;211\n"
      ++ codes "points;pose switching;done;355\n" ++ codes "points;pose set_north;done;419\n"
      ++ codes "points;release north_road;done;518\n" ++ codes "north_train;claim north_road;done;61a\n"
      ++ codes "points;claim north_road;held north_train;\n" ++ codes "north_train;release north_road;done;718\n"
  -- what is shown or refused leaves the word as it is
  pub inquired : film.line_to press full (event 0 (Inquire 0) (Shown (Some 1) true OpenIn))
      ≡ codes "loader;inquire interior;zone press 1 openin;\n"
  pub refused : ¬ (film.line_to press full (event 0 (Give 0) (Refused (NotOwner None)))
      ≡ codes "loader;give interior;notowner free;60\n")
  -- the word is that of the state after the call
  pub before : ¬ (film.film_lines press full (event 1 (Claim 0) Done ∷ [])
      ≡ codes "start;60\npress;claim interior;done;60\n")

-- ---- what is shown of an order

pub record OrdersAreShown : Type 0 where
  -- the turns to the standstill, and then each machine that asks twice
  pub still : page.standstill_events press patient (start true true) (1 ∷ 1 ∷ []) ≡ press_events
  pub still_note : page.still_note 2 ≡ codes "a standstill after 2 turns, and no fewer"
  pub one_turn : page.still_note 1 ≡ codes "a standstill after 1 turn, and no fewer"
  -- the points ask in vain where that is another call or answer than before; what they could do isn't shown
  pub points : (order : FairOrder) → PassesPoints order
      → page.cycle_events junction junction_programs idle (Some 0) order ≡ train_round
  pub nobody : (order : FairOrder) → PassesPoints order
      → page.cycle_events junction junction_programs idle None order
      ≡ event 1 (Claim 0) Done ∷ event 1 (Release 0) Done ∷ []
  pub whole : (order : FairOrder) → PassesPoints order
      → page.order_events junction junction_programs idle (Some 0) order
      ≡ set_events ++ (train_round ++ (train_round ++ (train_round ++ (train_round
      ++ (train_round ++ (train_round ++ (train_round ++ train_round)))))))
  pub vain : page.vain_news None (Some (event 0 (Claim 0) (Refused (Held 1))))
      ≡ Some (event 0 (Claim 0) (Refused (Held 1)))
  pub as_before : page.vain_news (Some (event 0 (Claim 0) (Refused (Held 1))))
      (Some (event 0 (Claim 0) (Refused (Held 1)))) ≡ None
  pub could : page.vain_news None (Some (event 0 (Claim 0) Done)) ≡ None
  pub shown : page.in_vain (event 0 (Inquire 0) (Shown (Some 1) false Closed))
      ≡ Some (event 0 (Inquire 0) (Shown (Some 1) false Closed))
  pub own : page.in_vain (event 0 (Inquire 0) (Shown (Some 0) false Closed)) ≡ None
  pub starves_note : page.order_note junction (Some 2) ≡ codes "a fair order in which south_train starves"
  pub rests_note : page.order_note junction None ≡ codes "a fair order in which no plate moves"
  pub most : page.max_turns ≡ 100000

-- which order is shown: of the first machine that starves; and of plates only where no machine does
pub record OrdersAreChosen : Type 0 where
  pub first : (b : Bound) (x y : FairOrder)
      → page.first_starving junction_programs (Always b ∷ Starves x ∷ IfAll b y ∷ []) ≡ Some 1
  pub none : (b : Bound) (r : Reason)
      → page.first_starving junction_programs (Silent ∷ Always b ∷ Unknown r ∷ []) ≡ None
  pub of_first : (b : Bound) (x y z : FairOrder)
      → page.order_by press (Always b ∷ IfOne 0 b x ∷ Starves y ∷ []) (progress.Starves z) (Some 1) ≡ Some x
  pub by_relay : (relay : Relay) (x : FairOrder) → page.order_of (IfTwo relay x) ≡ Some x
  pub by_all : (b : Bound) (x : FairOrder) → page.order_of (IfAll b x) ≡ Some x
  pub plates : (b : Bound) (z : FairOrder) → page.order_by press (Always b ∷ []) (progress.Starves z) None ≡ Some z
  pub no_places : (b : Bound) (z : FairOrder) → page.order_by junction (Always b ∷ []) (progress.Starves z) None ≡ None
  pub moving : (b : Bound) → page.order_by press [] (progress.Within b) None ≡ None
