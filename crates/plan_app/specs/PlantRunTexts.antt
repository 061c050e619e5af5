-- What `plan run --words` prints of a run: what machines did on all words, and of each word the script of its history.
use Rattle.std.specs.Prelude.{ℕ, Bool, true, List, [], ◌++◌, flat_map, get_or, length, slice_get}
use Rattle.std.specs.Prelude.{Option, Some, None, is_none}
use Rattle.std.specs.List.{list_all, range_with_len}
use Rattle.plan_types.specs.declared.answer.Event.{Event}
use Rattle.plan_rules.specs.declared.state.State.{State}
use Rattle.plan_explorer.specs.Plants.{state_on}
use Rattle.plan_text.specs.Histories.{script_of}
use Rattle.plan_text.specs.Named.{Named}
use Rattle.plan_text.specs.Names.{Text}
use Rattle.plan_document.specs.declared.resolving.ProgrammedPlan.{ProgrammedPlan}
use Rattle.plan_app.specs.RunTexts.{are_own, head_line, history_line, machine_line, stop_line}
use Rattle.plan_app.specs.declared.plant_run_text.PlantStop.{PlantStop}

-- ---- machines, on all words

-- the events of all words
abbrev pub all_of : List (List Event) → List Event
all_of histories = flat_map (λ history. history) histories

-- what has stopped a machine, by the names of the word on which it did
abbrev pub stop_by : Option ProgrammedPlan → PlantStop → ℕ → Text
stop_by None stop m = []
stop_by (Some plan) stop m = stop_line plan.named (Some stop.refusal) m

abbrev pub stop_on : List ProgrammedPlan → Option PlantStop → ℕ → Text
stop_on plans None m = []
stop_on plans (Some stop) m = stop_by (slice_get plans stop.word) stop m

-- how many of its calls were done and refused on all words together; machines have their names on each
abbrev pub machine_lines : List ProgrammedPlan → Named → List Event → List (Option PlantStop) → ℕ → Text
machine_lines plans first events stops m = machine_line first events m ++ stop_on plans (get_or stops m None) m

abbrev pub comments_by : List ProgrammedPlan → Named → ℕ → List Event → List (Option PlantStop) → Text
comments_by plans first turns events stops =
    head_line turns first.plan.machines
    ++ flat_map (machine_lines plans first events stops) (range_with_len 0 first.plan.machines)

abbrev pub comments_of : List ProgrammedPlan → Option ProgrammedPlan → ℕ → List Event → List (Option PlantStop) → Text
comments_of plans None turns events stops = []
comments_of plans (Some first) turns events stops = comments_by plans first.named turns events stops

-- ---- words

-- the history of a word
abbrev pub history_on : List (List Event) → ℕ → List Event
history_on histories word = get_or histories word []

-- the word's number and how many calls it had, and the script of its history
abbrev pub part_by : Named → ℕ → State → List Event → Text
part_by n word start history = history_line (Some word) (length history) ++ script_of n start history

abbrev pub part_if : Option ProgrammedPlan → ℕ → State → List Event → Text
part_if None word start history = []
part_if (Some plan) word start history = part_by plan.named word start history

abbrev pub part_on : List ProgrammedPlan → List State → List (List Event) → ℕ → Text
part_on plans starts histories word =
    part_if (slice_get plans word) word (state_on starts word) (history_on histories word)

unfoldable pub plant_run_text : List ProgrammedPlan → ℕ → List State → List (List Event) → List (Option PlantStop) → Text
plant_run_text plans turns starts histories stops =
    comments_of plans (slice_get plans 0) turns (all_of histories) stops
    ++ flat_map (part_on plans starts histories) (range_with_len 0 (length plans))

-- ---- what machines were stopped by, and what they asked

abbrev pub are_fine : List (Option PlantStop) → Bool
are_fine stops = list_all is_none stops

-- each call of each word's history is its machine's own there
abbrev pub are_own_if : Option ProgrammedPlan → List Event → Bool
are_own_if None history = true
are_own_if (Some plan) history = are_own plan.named history

abbrev pub are_own_on : List ProgrammedPlan → List (List Event) → ℕ → Bool
are_own_on plans histories word = are_own_if (slice_get plans word) (history_on histories word)

abbrev pub are_own_on_each : List ProgrammedPlan → List (List Event) → Bool
are_own_on_each plans histories = list_all (are_own_on plans histories) (range_with_len 0 (length plans))
