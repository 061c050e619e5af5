-- What `plan explore` prints of machines that go on, or starve.
use Rattle.std.specs.Prelude.{ℕ, nat_eq, nat_lt, Bool, List, [], ◌∷◌, ◌++◌, codes, flat_map, length}
use Rattle.std.specs.Prelude.{slice_get, Option, Some, None, if◌then◌else◌}
use Rattle.std.specs.Fmt.{decimal}
use Rattle.std.specs.List.{range_with_len}
use Rattle.std.specs.Option.{option_eq, option_and_then}
use Rattle.plan_types.specs.declared.answer.Answer.{Answer}
use Rattle.plan_types.specs.declared.answer.Answer.TheVariants.{Done, Shown, Refused}
use Rattle.plan_types.specs.declared.answer.Event.{Event}
use Rattle.plan_types.specs.contracts.answer.EventPartialEq.TheImpl.{ghosts as event_ghosts}
use Rattle.plan_rules.specs.declared.state.State.{State}
use Rattle.plan_explorer.specs.declared.situation.Situation.{Situation}
use Rattle.plan_explorer.specs.Programs.{PlanPrograms}
use Rattle.plan_explorer.specs.Situations.{after_turns, first_situation, turn_of}
use Rattle.plan_explorer.specs.Walks.{event_of}
use Rattle.plan_liveness.specs.declared.answer.Bound.{Bound}
use Rattle.plan_liveness.specs.declared.answer.FairOrder.{FairOrder}
use Rattle.plan_liveness.specs.declared.answer.Liveness.{Liveness}
use Rattle.plan_liveness.specs.declared.answer.Liveness.TheVariants as liveness
use Rattle.plan_liveness.specs.declared.answer.Progress.{Progress}
use Rattle.plan_liveness.specs.declared.answer.Progress.TheVariants as progress
use Rattle.plan_liveness.specs.declared.answer.Relay.{Relay}
use Rattle.plan_text.specs.Answers.{answer_text}
use Rattle.plan_text.specs.Calls.{call_text}
use Rattle.plan_text.specs.Names.{Text}
use Rattle.plan_text.specs.Named.{Named}
use Rattle.plan_header.specs.Words.{machine_name}
use Rattle.plan_app.specs.declared.going.TheConstants.{AGAIN, BRINGS, FAIRNESS, TURNS}

-- ---- how soon

abbrev pub helped_text : ℕ → Text
helped_text helped = if nat_lt 0 helped then codes " + k * k * " ++ decimal helped else []

abbrev pub bound_text : Bound → Text
bound_text b = codes "k * " ++ (decimal b.plain ++ helped_text b.helped)

abbrev pub within_text : Bound → Text
within_text b = codes "within " ++ (bound_text b ++ codes " turns\n")

-- ---- whether a machine goes on, and what that takes

abbrev pub needed_name : Named → ℕ → ℕ → Text
needed_name n machine needed = if nat_eq needed machine then codes "it" else machine_name n needed

abbrev pub if_one_text : Named → ℕ → ℕ → Bound → Text
if_one_text n machine strong bound =
    codes " goes on for ever if " ++ (needed_name n machine strong
    ++ (codes " isn't passed over for ever: " ++ within_text bound))

abbrev pub relay_begin : Named → ℕ → ℕ → Text
relay_begin n machine strong =
    if nat_eq strong machine then codes " goes on for ever if it isn't passed over for ever: "
    else codes " goes on for ever if neither it nor " ++ (machine_name n strong ++ codes " is passed over for ever: ")

abbrev pub rounds_text : ℕ → Text
rounds_text rounds = codes "within k * " ++ (decimal rounds ++ codes " * (")

abbrev pub bringing_text : Named → ℕ → Text
bringing_text n machine = TURNS.now ++ (machine_name n machine ++ BRINGS.now)

abbrev pub relay_end : Named → Relay → Text
relay_end n r = rounds_text r.rounds ++ (bound_text r.bound ++ bringing_text n r.machine)

abbrev pub relay_text : Named → ℕ → Relay → Text
relay_text n machine r = relay_begin n machine r.strong ++ relay_end n r

abbrev pub always_text : Bound → Text
always_text bound = codes " goes on for ever in each fair order: " ++ within_text bound

abbrev pub if_all_text : Bound → Text
if_all_text bound = codes " goes on for ever if no machine is passed over for ever: " ++ within_text bound

abbrev pub answer_words : Named → ℕ → Liveness → Text
answer_words n machine liveness.Silent = codes " asks nothing\n"
answer_words n machine (liveness.Always bound) = always_text bound
answer_words n machine (liveness.IfOne strong bound order) = if_one_text n machine strong bound
answer_words n machine (liveness.IfAll bound order) = if_all_text bound
answer_words n machine (liveness.IfTwo relay order) = relay_text n machine relay
answer_words n machine (liveness.Starves order) = codes " may starve though no machine is passed over for ever\n"
answer_words n machine (liveness.Unknown reason) = codes ": it isn't known whether it goes on for ever\n"

-- ---- an order in which a machine starves, or no plate moves

-- what a machine asks, and the answer
abbrev pub line_of : Named → Text → Event → Text
line_of n words e =
    machine_name n e.machine ++ (words ++ (call_text n e.call
    ++ (codes ": " ++ (answer_text n e.answer ++ codes "\n"))))

abbrev pub event_line : Named → Text → Event → Text
event_line n words e = codes "  " ++ line_of n words e

-- what is said of what is asked, if anything is
abbrev pub told_if : {E : Type 0} → (E → Text) → Option E → Text
told_if told None = []
told_if told (Some e) = told e

-- what a turn asks: nothing if the machine has no program
abbrev pub asked_line : Named → Option Event → Text
asked_line n asked = told_if (event_line n (codes " asks: ")) asked

-- what a machine that starves would be answered
abbrev pub outlook_words : Answer → Text
outlook_words Done = codes " could go on: "
outlook_words (Shown _ _ _) = codes " waits: "
outlook_words (Refused _) = codes " waits: "

abbrev pub told_outlook : Named → Event → Text
told_outlook n e = event_line n (outlook_words e.answer) e

-- what the machine that is named asks in a situation
abbrev pub outlook_by : {S E : Type 0} → (S → ℕ → Option E) → Option ℕ → S → Option E
outlook_by asks who at = option_and_then (asks at) who

abbrev pub outlook_at : Named → PlanPrograms → Option ℕ → Situation → Option Event
outlook_at n ps who at = outlook_by (event_of n.plan ps) who at

-- it is said as often as it changes
abbrev pub news_by : {E : Type 0} → (E → E → Bool) → (E → Text) → Option E → Option E → Text
news_by same told last now = if option_eq same now last then [] else told_if told now

abbrev pub same_outlook : Option Event → Option Event → Bool
same_outlook a b = option_eq event_ghosts.eq a b

abbrev pub news : Named → Option Event → Option Event → Text
news n last now = news_by event_ghosts.eq (told_outlook n) last now

abbrev pub step_text : Named → Option Event → Option Event → Option Event → Text
step_text n last now asked = news n last now ++ asked_line n asked

-- turn by turn what is asked: where a turn leads, what a machine asks in a situation, and how a step is told are given
abbrev pub walk_by : {S E : Type 0} → (S → ℕ → S) → (S → ℕ → Option E) → (Option E → Option E → Option E → Text)
    → Option ℕ → S → Option E → List ℕ → Text
walk_by turn asks step who at last [] = []
walk_by turn asks step who at last (m ∷ ms) =
    step last (outlook_by asks who at) (asks at m)
    ++ walk_by turn asks step who (turn at m) (outlook_by asks who at) ms

abbrev pub walk_text : Named → PlanPrograms → Option ℕ → Situation → Option Event → List ℕ → Text
walk_text n ps who at last turns = walk_by (turn_of n.plan ps) (event_of n.plan ps) (step_text n) who at last turns

-- what turns from an opening ask
abbrev pub way_text : Named → PlanPrograms → State → List ℕ → Text
way_text n ps opening turns = walk_text n ps None (first_situation opening) None turns

abbrev pub after_all : Named → PlanPrograms → State → List ℕ → Situation
after_all n ps opening turns = after_turns n.plan ps (first_situation opening) turns

-- what comes first, and leads into a cycle
abbrev pub stem_text : Named → PlanPrograms → State → FairOrder → Text
stem_text n ps opening order = way_text n ps opening order.stem.items ++ AGAIN.now

-- and then what comes again and again
abbrev pub loop_text : Named → PlanPrograms → State → Option ℕ → FairOrder → Text
loop_text n ps opening who order =
    walk_text n ps who (after_all n ps opening order.stem.items) None order.cycle.items

abbrev pub order_text : Named → PlanPrograms → State → Option ℕ → FairOrder → Text
order_text n ps opening who order = stem_text n ps opening order ++ loop_text n ps opening who order

-- ---- what is said of each machine, and of plates

-- by how an order is told, in which the machine that is named starves
abbrev pub ByOrder : Type 0
ByOrder = Option ℕ → FairOrder → Text

abbrev pub starves_by : ByOrder → ℕ → FairOrder → Text
starves_by told machine order = codes "  a fair order in which it starves: first\n" ++ told (Some machine) order

abbrev pub starving_by : ByOrder → ℕ → Liveness → Text
starving_by told machine liveness.Silent = []
starving_by told machine (liveness.Always bound) = []
starving_by told machine (liveness.IfOne strong bound order) = starves_by told machine order
starving_by told machine (liveness.IfAll bound order) = starves_by told machine order
starving_by told machine (liveness.IfTwo relay order) = starves_by told machine order
starving_by told machine (liveness.Starves order) = starves_by told machine order
starving_by told machine (liveness.Unknown reason) = []

abbrev pub found_by : Named → ByOrder → ℕ → Liveness → Text
found_by n told machine found =
    machine_name n machine ++ (answer_words n machine found ++ starving_by told machine found)

abbrev pub liveness_by : Named → ByOrder → ℕ → Option Liveness → Text
liveness_by n told machine None = []
liveness_by n told machine (Some found) = found_by n told machine found

abbrev pub machine_by : Named → ByOrder → List Liveness → ℕ → Text
machine_by n told answers machine = liveness_by n told machine (slice_get answers machine)

-- of each machine that has a program
abbrev pub machines_by : Named → ByOrder → List Liveness → ℕ → Text
machines_by n told answers count = flat_map (machine_by n told answers) (range_with_len 0 count)

-- the same of a plan's machines
abbrev pub starves_text : Named → PlanPrograms → State → ℕ → FairOrder → Text
starves_text n ps opening machine order = starves_by (order_text n ps opening) machine order

abbrev pub starving_text : Named → PlanPrograms → State → ℕ → Liveness → Text
starving_text n ps opening machine found = starving_by (order_text n ps opening) machine found

abbrev pub found_text : Named → PlanPrograms → State → ℕ → Liveness → Text
found_text n ps opening machine found = found_by n (order_text n ps opening) machine found

abbrev pub machine_text : Named → PlanPrograms → State → List Liveness → ℕ → Text
machine_text n ps opening answers machine = machine_by n (order_text n ps opening) answers machine

abbrev pub machines_text : Named → PlanPrograms → State → List Liveness → Text
machines_text n ps opening answers = machines_by n (order_text n ps opening) answers (length ps)

abbrev pub moving_text : Bound → Text
moving_text bound = codes "plates move for ever in each fair order: " ++ within_text bound

abbrev pub resting_by : ByOrder → FairOrder → Text
resting_by told order =
    codes "plates may rest for ever\n  a fair order in which none moves: first\n" ++ told None order

abbrev pub plates_by : ByOrder → Progress → Text
plates_by told (progress.Within bound) = moving_text bound
plates_by told (progress.Starves order) = resting_by told order
plates_by told (progress.Unknown reason) = codes "it isn't known whether plates move for ever\n"

abbrev pub resting_text : Named → PlanPrograms → State → FairOrder → Text
resting_text n ps opening order = resting_by (order_text n ps opening) order

abbrev pub plates_text : Named → PlanPrograms → State → Progress → Text
plates_text n ps opening found = plates_by (order_text n ps opening) found

-- of a plan without places nothing is said of plates
abbrev pub plates_if_any : Named → PlanPrograms → State → Progress → Text
plates_if_any n ps opening found = if nat_eq (length n.places) 0 then [] else plates_text n ps opening found

abbrev pub going_text : Named → PlanPrograms → State → List Liveness → Progress → Text
going_text n ps opening answers plates =
    machines_text n ps opening answers ++ (plates_if_any n ps opening plates ++ FAIRNESS.now)
