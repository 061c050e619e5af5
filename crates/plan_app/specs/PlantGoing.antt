-- What `plan explore --words` prints of machines that go on, or starve, on all words of a plant together. Each line of
-- an order has the names of the word that is asked.
use Rattle.std.specs.Prelude.{◌≡◌, ◌≤◌, ℕ, List, [], ◌++◌, codes, flat_map, length, map, nat_eq, slice_get}
use Rattle.std.specs.Prelude.{Bool, true, Option, Some, None, if◌then◌else◌}
use Rattle.std.specs.List.{range_with_len}
use Rattle.plan_types.specs.declared.answer.Event.{Event}
use Rattle.plan_rules.specs.declared.state.State.{State}
use Rattle.plan_explorer.specs.contracts.plant_walk.RoutedEventPartialEq.TheImpl.{ghosts as routed_ghosts}
use Rattle.plan_explorer.specs.declared.plant_walk.RoutedEvent.{RoutedEvent}
use Rattle.plan_explorer.specs.Groups.{group_in, in_group}
use Rattle.plan_explorer.specs.PlantPrograms.{RoutedPrograms, calls_of}
use Rattle.plan_explorer.specs.PlantWalks.{event_of, events_of}
use Rattle.plan_explorer.specs.Plants.{PlantSituation, after_turns, first_situation, turn_of}
use Rattle.plan_liveness.specs.declared.answer.FairOrder.{FairOrder}
use Rattle.plan_liveness.specs.declared.answer.Liveness.{Liveness}
use Rattle.plan_liveness.specs.declared.answer.Progress.{Progress}
use Rattle.plan_text.specs.Names.{Text}
use Rattle.plan_text.specs.Named.{Named}
use Rattle.plan_document.specs.declared.resolving.ProgrammedPlan.{ProgrammedPlan}
use Rattle.plan_app.specs.Apart.{if_own, some_move_plates}
use Rattle.plan_app.specs.Going as going
use Rattle.plan_app.specs.PlantStarts.{tables_of}
use Rattle.plan_app.specs.declared.going.TheConstants.{AGAIN, FAIRNESS}
use Rattle.plan_app.specs.declared.plant_going.Group.{Group}
use Rattle.plan_app.specs.declared.plant_going.OpenedPlant.{OpenedPlant}

-- a plant is opened: each word has its table and an opening, and programs ask by these words
pub record IsOpened (plant : OpenedPlant) : Type 0 where
  pub tables : map (λ table. table.now) plant.tables.now ≡ tables_of plant.plans.now
  pub words : plant.programs.now.words ≤ length plant.tables.now
  pub at_most : length plant.tables.now ≤ 16
  pub openings : length plant.openings.now ≡ length plant.tables.now

-- ---- lines, each by the names of its word

abbrev pub line_if : (Named → Event → Text) → Option ProgrammedPlan → Event → Text
line_if told None e = []
line_if told (Some plan) e = told plan.named e

abbrev pub line_on : List ProgrammedPlan → (Named → Event → Text) → RoutedEvent → Text
line_on plans told e = line_if told (slice_get plans e.word) e.event

-- what a turn asks, and the answer
abbrev pub asked_line : List ProgrammedPlan → RoutedEvent → Text
asked_line plans e = line_on plans (λ n. going.event_line n (codes " asks: ")) e

-- what a machine that starves would be answered
abbrev pub outlook_line : List ProgrammedPlan → RoutedEvent → Text
outlook_line plans e = line_on plans going.told_outlook e

-- ---- an order of turns

-- the event of a machine, by its number
abbrev pub is_of : ℕ → RoutedEvent → Bool
is_of machine e = nat_eq e.event.machine machine

-- an outlook is said as often as it changes
abbrev pub news : List ProgrammedPlan → Option RoutedEvent → Option RoutedEvent → Text
news plans last now = going.news_by routed_ghosts.eq (outlook_line plans) last now

abbrev pub step_text : List ProgrammedPlan → Option RoutedEvent → Option RoutedEvent → Option RoutedEvent → Text
step_text plans last now asked = news plans last now ++ going.told_if (asked_line plans) asked

-- turn by turn what is asked
abbrev pub walk_text : List ProgrammedPlan → RoutedPrograms → Option ℕ → PlantSituation → Option RoutedEvent → List ℕ
    → Text
walk_text plans ps who at last turns =
    going.walk_by (turn_of (tables_of plans) ps) (event_of (tables_of plans) ps) (step_text plans) who at last turns

-- what turns from openings ask, and where they lead
abbrev pub asked_by : List ProgrammedPlan → RoutedPrograms → List State → List ℕ → List RoutedEvent
asked_by plans ps openings turns = events_of (tables_of plans) ps (first_situation openings) turns

abbrev pub after_all : List ProgrammedPlan → RoutedPrograms → List State → List ℕ → PlantSituation
after_all plans ps openings turns = after_turns (tables_of plans) ps (first_situation openings) turns

-- what comes first, and leads into a cycle
abbrev pub stem_text : List ProgrammedPlan → RoutedPrograms → List State → FairOrder → Text
stem_text plans ps openings order =
    flat_map (asked_line plans) (asked_by plans ps openings order.stem.items) ++ AGAIN.now

-- and then what comes again and again
abbrev pub loop_text : List ProgrammedPlan → RoutedPrograms → List State → Option ℕ → FairOrder → Text
loop_text plans ps openings who order =
    walk_text plans ps who (after_all plans ps openings order.stem.items) None order.cycle.items

abbrev pub order_text : List ProgrammedPlan → RoutedPrograms → List State → Option ℕ → FairOrder → Text
order_text plans ps openings who order = stem_text plans ps openings order ++ loop_text plans ps openings who order

-- ---- what is said of each machine

abbrev pub starves_text : List ProgrammedPlan → RoutedPrograms → List State → ℕ → FairOrder → Text
starves_text plans ps openings machine order = going.starves_by (order_text plans ps openings) machine order

abbrev pub starving_text : List ProgrammedPlan → RoutedPrograms → List State → ℕ → Liveness → Text
starving_text plans ps openings machine found = going.starving_by (order_text plans ps openings) machine found

abbrev pub found_text : Named → List ProgrammedPlan → RoutedPrograms → List State → ℕ → Liveness → Text
found_text n plans ps openings machine found = going.found_by n (order_text plans ps openings) machine found

abbrev pub machine_text : Named → List ProgrammedPlan → RoutedPrograms → List State → List Liveness → ℕ → Text
machine_text n plans ps openings answers machine =
    going.machine_by n (order_text plans ps openings) answers machine

-- what is said of the machines of a group, or of all
abbrev pub everyone : ℕ → Bool
everyone machine = true

abbrev pub machines_of : Option Group → ℕ → Bool
machines_of None = everyone
machines_of (Some group) = in_group (group_in group.groups) group.number

abbrev pub own_text : (ℕ → Bool) → Named → List ProgrammedPlan → RoutedPrograms → List State → List Liveness → ℕ → Text
own_text ours n plans ps openings answers machine = if_own ours (machine_text n plans ps openings answers) machine

-- a machine has the same name on each word: that of the first is said
abbrev pub named_if : (Named → Text) → Option ProgrammedPlan → Text
named_if told None = []
named_if told (Some first) = told first.named

abbrev pub each_text : (ℕ → Bool) → List ProgrammedPlan → RoutedPrograms → List State → List Liveness → Named → Text
each_text ours plans ps openings answers n =
    flat_map (own_text ours n plans ps openings answers) (range_with_len 0 (length ps))

abbrev pub machines_text : (ℕ → Bool) → List ProgrammedPlan → RoutedPrograms → List State → List Liveness → Text
machines_text ours plans ps openings answers =
    named_if (each_text ours plans ps openings answers) (slice_get plans 0)

-- ---- what is said of plates: nothing if no program moves any

abbrev pub resting_text : List ProgrammedPlan → RoutedPrograms → List State → FairOrder → Text
resting_text plans ps openings order = going.resting_by (order_text plans ps openings) order

abbrev pub plates_text : List ProgrammedPlan → RoutedPrograms → List State → Progress → Text
plates_text plans ps openings plates =
    if some_move_plates (calls_of ps) then going.plates_by (order_text plans ps openings) plates else []

abbrev pub going_text : (ℕ → Bool) → List ProgrammedPlan → RoutedPrograms → List State → List Liveness → Progress
    → Text
going_text ours plans ps openings answers plates =
    machines_text ours plans ps openings answers ++ (plates_text plans ps openings plates ++ FAIRNESS.now)
