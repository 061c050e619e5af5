-- Pages on which machines ask turn by turn, and what `plan explore --page` prints.
use Rattle.std.specs.Prelude.{◌≡◌, ◌⊎◌, ◌<◌, ◌≤◌, ℕ, nat_eq, zero, suc, not, List, [], ◌∷◌, ◌++◌, codes, length}
use Rattle.std.specs.Prelude.{slice_get, is_some, string_bytes, Option, Some, None, if◌then◌else◌}
use Rattle.std.specs.Bool.{then_some}
use Rattle.std.specs.Option.{option_and_then, option_to_list}
use Rattle.plan_types.specs.Below.{any_below, first_below}
use Rattle.plan_types.specs.Table.{PlanTable, joins, zone_count}
use Rattle.plan_types.specs.declared.answer.Event.{Event}
use Rattle.plan_rules.specs.declared.state.State.{State}
use Rattle.plan_explorer.specs.declared.situation.Situation.{Situation}
use Rattle.plan_explorer.specs.Explored.{AreShortest, ComeTo, LeadToStandstill, NoneStandsStill}
use Rattle.plan_explorer.specs.Programs.{PlanPrograms}
use Rattle.plan_explorer.specs.Runs.{NoRunStandsStill}
use Rattle.plan_explorer.specs.Situations.{first_situation, lets_on, turn_of, unstamped}
use Rattle.plan_explorer.specs.Walks.{event_of, events_of}
use Rattle.plan_liveness.specs.declared.answer.FairOrder.{FairOrder}
use Rattle.plan_liveness.specs.declared.answer.Liveness.{Liveness}
use Rattle.plan_liveness.specs.declared.answer.Liveness.TheVariants as liveness
use Rattle.plan_liveness.specs.declared.answer.Progress.{Progress}
use Rattle.plan_liveness.specs.declared.answer.Progress.TheVariants as progress
use Rattle.plan_text.specs.Named.{Named}
use Rattle.plan_text.specs.Names.{Text}
use Rattle.plan_document.specs.declared.resolving.ProgrammedPlan.{ProgrammedPlan}
use Rattle.plan_header.specs.Words.{machine_name}
use Rattle.plan_app.specs.Films.{film_lines}
use Rattle.plan_app.specs.Going.{after_all, outlook_at, same_outlook}
use Rattle.plan_app.specs.PageData.{data_of}
use Rattle.plan_app.specs.Screens.{AreAnswers, TellsFree, TellsUnfinished, outlook_after}
use Rattle.plan_app.specs.Words.{counted}
use Rattle.plan_app.specs.declared.page_head.TheConstants.{PLAN_HEAD}
use Rattle.plan_app.specs.declared.page_middle.TheConstants.{PLAN_MIDDLE}
use Rattle.plan_app.specs.declared.page_spaces.TheConstants.{SPACES_TAIL}
use Rattle.plan_app.specs.declared.page_tail.TheConstants.{PLAN_TAIL}
use Rattle.plan_app.specs.declared.page.Page.{Page}
use Rattle.plan_app.specs.declared.page.Page.TheVariants.{Free, Found, Long, Large}

-- ---- a page

-- the most turns that a page shows
unfoldable pub max_turns : ℕ
max_turns = 100000

-- its end, which reads zones: those of one space by the owner that the first one tells
abbrev pub tail_of : PlanTable → Text
tail_of t = if any_below (joins t) (zone_count t) then SPACES_TAIL.now else PLAN_TAIL.now

-- what stands before its data, the data, what stands before its lines, the lines, and its end
unfoldable pub page_text : ProgrammedPlan → Text → State → List Event → Text
page_text plan note start events =
    PLAN_HEAD.now ++ (data_of plan note ++ (PLAN_MIDDLE.now
    ++ (film_lines plan.named start events ++ tail_of plan.named.plan)))

-- ---- a standstill: the turns to it, and then each machine that asks twice, which is refused or waits on

abbrev pub still_note : ℕ → Text
still_note turns = codes "a standstill after " ++ (counted turns (codes "turn") ++ codes ", and no fewer")

abbrev pub standstill_events : Named → PlanPrograms → State → List ℕ → List Event
standstill_events n ps opening turns =
    events_of n.plan ps (first_situation opening) turns
    ++ (outlook_after n ps opening turns ++ outlook_after n ps opening turns)

-- ---- a fair order in which a machine starves, or no plate moves

-- the order that is answered of a machine, and of plates
abbrev pub order_of : Liveness → Option FairOrder
order_of liveness.Silent = None
order_of (liveness.Always bound) = None
order_of (liveness.IfOne strong bound order) = Some order
order_of (liveness.IfAll bound order) = Some order
order_of (liveness.IfTwo relay order) = Some order
order_of (liveness.Starves order) = Some order
order_of (liveness.Unknown reason) = None

abbrev pub rest_of : Progress → Option FairOrder
rest_of (progress.Within bound) = None
rest_of (progress.Starves order) = Some order
rest_of (progress.Unknown reason) = None

-- of a plan without places nothing is said of plates
abbrev pub rest_if_any : Named → Progress → Option FairOrder
rest_if_any n plates = if nat_eq (length n.places) 0 then None else rest_of plates

abbrev pub order_at : List Liveness → ℕ → Option FairOrder
order_at answers m = option_and_then order_of (slice_get answers m)

-- the first machine, by number, that has one
abbrev pub starving_at : List Liveness → ℕ → Option ℕ
starving_at answers m = then_some (is_some (order_at answers m)) m

abbrev pub first_starving : PlanPrograms → List Liveness → Option ℕ
first_starving ps answers = first_below (starving_at answers) (length ps)

-- its order; if no machine starves, that of the plates
abbrev pub order_by : Named → List Liveness → Progress → Option ℕ → Option FairOrder
order_by n answers plates (Some m) = order_at answers m
order_by n answers plates None = rest_if_any n plates

abbrev pub order_note : Named → Option ℕ → Text
order_note n (Some m) = codes "a fair order in which " ++ (machine_name n m ++ codes " starves")
order_note n None = codes "a fair order in which no plate moves"

-- what a machine that starves asks in vain, where that has changed
abbrev pub in_vain : Event → Option Event
in_vain e = then_some (not (lets_on e.machine e.answer)) e

abbrev pub vain_news : Option Event → Option Event → Option Event
vain_news last now = if same_outlook now last then None else option_and_then in_vain now

abbrev pub if_any : Option Event → List Event
if_any e = option_to_list e

-- turn by turn what is asked, and what the machine that starves asks in vain
abbrev pub watched_events : Named → PlanPrograms → Option ℕ → Situation → Option Event → List ℕ → List Event
watched_events n ps who at last [] = []
watched_events n ps who at last (m ∷ ms) =
    if_any (vain_news last (outlook_at n ps who at)) ++ (if_any (event_of n.plan ps at m)
    ++ watched_events n ps who (turn_of n.plan ps at m) (outlook_at n ps who at) ms)

abbrev pub repeated : ℕ → List Event → List Event
repeated zero events = []
repeated (suc n) events = repeated n events ++ events

abbrev pub cycle_events : Named → PlanPrograms → State → Option ℕ → FairOrder → List Event
cycle_events n ps opening who order =
    watched_events n ps who (after_all n ps opening order.stem.items) None order.cycle.items

-- what comes first, and then eight rounds of what comes again and again
abbrev pub order_events : Named → PlanPrograms → State → Option ℕ → FairOrder → List Event
order_events n ps opening who order =
    events_of n.plan ps (first_situation opening) order.stem.items
    ++ repeated 8 (cycle_events n ps opening who order)

-- ---- what a page shows of an exploration

-- the fewest turns to a standstill
pub record ShowsStill (n : Named) (ps : PlanPrograms) (opening : State) (note : Text) (events : List Event)
    : Type 0 where
  pub turns : List ℕ
  pub lead : LeadToStandstill n.plan ps opening turns
  pub shortest : AreShortest n.plan ps opening turns
  pub noted : note ≡ still_note (length turns)
  pub told : events ≡ standstill_events n ps opening turns

-- no standstill, but a fair order that explorations answer: of the first machine that starves, or of plates
pub record ShowsOrder (n : Named) (ps : PlanPrograms) (opening : State) (note : Text) (events : List Event)
    : Type 0 where
  pub free : NoneStandsStill n.plan ps opening
  pub runs : NoRunStandsStill n.plan ps opening
  pub situations : ℕ
  pub come : ComeTo n.plan ps opening situations
  pub answers : List Liveness
  pub plates : Progress
  pub are : AreAnswers n ps opening answers plates
  pub order : FairOrder
  pub is : order_by n answers plates (first_starving ps answers) ≡ Some order
  pub noted : note ≡ order_note n (first_starving ps answers)
  pub told : events ≡ order_events n ps opening (first_starving ps answers) order

abbrev pub Shows : Named → PlanPrograms → State → Text → List Event → Type 0
Shows n ps opening note events = ShowsStill n ps opening note events ⊎ ShowsOrder n ps opening note events

-- a text is the page of that, of no more turns than a page shows; stamps are counted from 0
pub record TellsPage (plan : ProgrammedPlan) (opening : State) (text : Text) : Type 0 where
  pub note : Text
  pub events : List Event
  pub shows : Shows plan.named plan.programs opening note events
  pub few : length events ≤ max_turns
  pub told : text ≡ page_text plan note (unstamped opening) events

-- there are more turns
pub record IsLongPage (plan : ProgrammedPlan) (opening : State) : Type 0 where
  pub note : Text
  pub events : List Event
  pub shows : Shows plan.named plan.programs opening note events
  pub many : max_turns < length events

-- what is printed: the page; or that nothing stands still and no machine starves, or that there are more situations
-- than are explored, as without a page; or nothing
abbrev pub IsPage : ℕ → ProgrammedPlan → State → Page → Type 0
IsPage most plan opening (Free text) = TellsFree plan.named plan.programs opening (string_bytes text)
IsPage most plan opening (Found text) = TellsPage plan opening (string_bytes text)
IsPage most plan opening Long = IsLongPage plan opening
IsPage most plan opening (Large words) = TellsUnfinished most plan.named plan.programs opening (string_bytes words)

-- it is this text, without a page
abbrev pub IsFreeText : Text → Page → Type 0
IsFreeText told (Free text) = string_bytes text ≡ told
IsFreeText told (Found text) = ⊥
IsFreeText told Long = ⊥
IsFreeText told (Large words) = ⊥
