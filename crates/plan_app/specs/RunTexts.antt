-- What `plan run` prints of a run: its history, and what has stopped machines.
use Rattle.std.specs.Prelude.{ℕ, ◌&&◌, ◌||◌, Bool, true, false, nat_eq, nat_lt, List, [], ◌++◌, codes, count_by}
use Rattle.std.specs.Prelude.{flat_map, get_or, is_none, length, Option, Some, None}
use Rattle.std.specs.Fmt.{decimal}
use Rattle.std.specs.List.{list_all, range_with_len}
use Rattle.plan_types.specs.Table.{machine_of, watch}
use Rattle.plan_types.specs.declared.call.Call.{Call}
use Rattle.plan_types.specs.declared.call.Call.TheVariants.{Claim, Give, Yield, Take, Release, Inquire, SetPose, Stop}
use Rattle.plan_types.specs.declared.call.Call.TheVariants.{Resume, Advance}
use Rattle.plan_types.specs.declared.answer.Answer.{Answer}
use Rattle.plan_types.specs.declared.answer.Answer.TheVariants.{Done, Shown, Refused}
use Rattle.plan_types.specs.declared.answer.Refusal.{Refusal}
use Rattle.plan_types.specs.declared.answer.Event.{Event}
use Rattle.plan_rules.specs.declared.state.State.{State}
use Rattle.plan_rules.specs.History.{is_done}
use Rattle.plan_text.specs.Answers.{answer_text}
use Rattle.plan_text.specs.Histories.{script_of}
use Rattle.plan_text.specs.Named.{Named}
use Rattle.plan_text.specs.Names.{Text, name_in}
use Rattle.plan_app.specs.OnWords.{number_words}
use Rattle.plan_app.specs.Words.{counted}
use Rattle.plan_app.specs.declared.run_text.TheConstants.{JOURNALS, STOPPED}

-- ---- the text

abbrev pub is_refusal : Answer → Bool
is_refusal Done = false
is_refusal (Shown owner flag posture) = false
is_refusal (Refused refusal) = true

abbrev pub is_done_by : ℕ → Event → Bool
is_done_by m e = nat_eq e.machine m && is_done e

abbrev pub is_refused_to : ℕ → Event → Bool
is_refused_to m e = nat_eq e.machine m && is_refusal e.answer

-- how many turns the machines took
abbrev pub head_line : ℕ → ℕ → Text
head_line turns machines =
    codes "# " ++ (counted machines (codes "machine") ++ (codes " took " ++ (counted turns (codes "turn")
    ++ codes " each, in threads of their own, at one pace\n")))

-- how many calls of a machine were done and refused; an inquiry is neither
abbrev pub machine_line : Named → List Event → ℕ → Text
machine_line n history m =
    codes "# " ++ (name_in n.machines m ++ (codes ": " ++ (counted (count_by (is_done_by m) history) (codes "call")
    ++ (codes " done, " ++ (decimal (count_by (is_refused_to m) history) ++ codes " refused\n")))))

-- what has stopped a machine
abbrev pub stopping_words : Named → ℕ → Text
stopping_words n m = codes "# " ++ (name_in n.machines m ++ STOPPED.now)

abbrev pub stopped_line : Named → Refusal → ℕ → Text
stopped_line n refusal m = stopping_words n m ++ (answer_text n (Refused refusal) ++ codes "\n")

abbrev pub stop_line : Named → Option Refusal → ℕ → Text
stop_line n None m = []
stop_line n (Some refusal) m = stopped_line n refusal m

abbrev pub machine_lines : Named → List Event → List (Option Refusal) → ℕ → Text
machine_lines n history stops m = machine_line n history m ++ stop_line n (get_or stops m None) m

-- how many calls a history has; in a plant on several words, of which of them it is
abbrev pub word_words : Option ℕ → Text
word_words None = []
word_words (Some word) = number_words word

abbrev pub history_line : Option ℕ → ℕ → Text
history_line word calls =
    codes "# " ++ (word_words word ++ (JOURNALS.now ++ (counted calls (codes "call") ++ codes "\n")))

-- comments of TOML
abbrev pub comments_of : Named → ℕ → List Event → List (Option Refusal) → Text
comments_of n turns history stops =
    head_line turns n.plan.machines
    ++ (flat_map (machine_lines n history stops) (range_with_len 0 n.plan.machines) ++ history_line None (length history))

-- and then the script of the history
abbrev pub run_text : Named → ℕ → State → List Event → List (Option Refusal) → Text
run_text n turns start history stops = comments_of n turns history stops ++ script_of n start history

-- ---- machines that nothing has stopped

abbrev pub are_fine : List (Option Refusal) → Bool
are_fine stops = list_all is_none stops

-- ---- calls that machines may ask

-- a machine or the watch
abbrev pub is_caller : Named → ℕ → Bool
is_caller n machine = nat_eq machine watch || nat_lt machine (length n.machines)

-- a call about a zone, a pose or a place that has a name; the pose is the machine's own
abbrev pub is_own_call : Named → ℕ → Call → Bool
is_own_call n machine (Claim zone) = nat_lt zone (length n.zones)
is_own_call n machine (Give zone) = nat_lt zone (length n.zones)
is_own_call n machine (Yield zone) = nat_lt zone (length n.zones)
is_own_call n machine (Take zone) = nat_lt zone (length n.zones)
is_own_call n machine (Release zone) = nat_lt zone (length n.zones)
is_own_call n machine (Inquire zone) = nat_lt zone (length n.zones)
is_own_call n machine (SetPose pose) = nat_lt pose (length n.poses) && nat_eq (machine_of n.plan pose) machine
is_own_call n machine Stop = true
is_own_call n machine Resume = true
is_own_call n machine (Advance place) = nat_lt place (length n.places)

abbrev pub is_own_event : Named → Event → Bool
is_own_event n e = is_caller n e.machine && is_own_call n e.machine e.call

abbrev pub are_own : Named → List Event → Bool
are_own n history = list_all (is_own_event n) history
