-- The script of a history: record 0 with the start, and a record for each event. A record is a line: its fields, with
-- commas between, and a line feed.
use Rattle.std.specs.Prelude.{ℕ, ◌+◌, nat_eq, List, [], ◌∷◌, ◌++◌, codes, flat_map, if◌then◌else◌}
use Rattle.std.specs.Fmt.{decimal}
use Rattle.std.specs.List.{range_with_len}
use Rattle.csv_rows.specs.Rows.{Row}
use Rattle.plan_types.specs.Table.{place_count, watch}
use Rattle.plan_types.specs.declared.call.Call.{Call}
use Rattle.plan_types.specs.declared.call.Call.TheVariants as call
use Rattle.plan_types.specs.declared.answer.Event.{Event}
use Rattle.plan_rules.specs.declared.state.State.{State}
use Rattle.plan_rules.specs.Reply.{next}
use Rattle.plan_rules.specs.State.{is_full}
use Rattle.plan_text.specs.Answers.{answer_text}
use Rattle.plan_text.specs.Calls.{verb_word}
use Rattle.plan_text.specs.Named.{Named}
use Rattle.plan_text.specs.Names.{Text, name_in}
use Rattle.plan_text.specs.Script.{line_of}
use Rattle.plan_text.specs.declared.calls.Verb.{Verb}
use Rattle.plan_text.specs.declared.calls.Verb.TheVariants.{Claim, Give, Yield, Take, Release, Inquire, Pose, Advance}

-- ---- record 0

-- a digit for each place: 1 if it is full
abbrev pub digit_of : State → ℕ → Text
digit_of s place = if is_full s place then codes "1" else codes "0"

abbrev pub digits_of : ℕ → State → Text
digits_of count s = flat_map (digit_of s) (range_with_len 0 count)

-- the stamp, if it isn't 0
abbrev pub stamp_fields : ℕ → Row
stamp_fields stamp = if nat_eq stamp 0 then [] else decimal stamp ∷ []

abbrev pub start_row : Named → State → Row
start_row n s = codes "start" ∷ digits_of (place_count n.plan) s ∷ stamp_fields s.stamp

-- ---- events

-- the name of a machine, or the word for the watch
abbrev pub caller_word : Named → ℕ → Text
caller_word n machine = if nat_eq machine watch then codes "watch" else name_in n.machines machine

-- a verb, and the name of what it is about, if it is about something
abbrev pub two_fields : Verb → Text → Row
two_fields verb name = verb_word verb ∷ name ∷ []

abbrev pub call_fields : Named → Call → Row
call_fields n (call.Claim zone) = two_fields Claim (name_in n.zones zone)
call_fields n (call.Give zone) = two_fields Give (name_in n.zones zone)
call_fields n (call.Yield zone) = two_fields Yield (name_in n.zones zone)
call_fields n (call.Take zone) = two_fields Take (name_in n.zones zone)
call_fields n (call.Release zone) = two_fields Release (name_in n.zones zone)
call_fields n (call.Inquire zone) = two_fields Inquire (name_in n.zones zone)
call_fields n (call.SetPose pose) = two_fields Pose (name_in n.poses pose)
call_fields n call.Stop = codes "stop" ∷ []
call_fields n call.Resume = codes "resume" ∷ []
call_fields n (call.Advance place) = two_fields Advance (name_in n.places place)

-- who called, and what: the answer isn't told
abbrev pub event_row : Named → Event → Row
event_row n e = caller_word n e.machine ∷ call_fields n e.call

-- ---- lines

abbrev pub after_comma : Row → Text
after_comma [] = codes "\n"
after_comma (field ∷ fields) = codes "," ++ (field ++ after_comma fields)

abbrev pub line_of_row : Row → Text
line_of_row [] = codes "\n"
line_of_row (field ∷ fields) = field ++ after_comma fields

abbrev pub event_line : Named → Event → Text
event_line n e = line_of_row (event_row n e)

-- the script of a history from a start
abbrev pub script_of : Named → State → List Event → Text
script_of n s history = line_of_row (start_row n s) ++ flat_map (event_line n) history

-- ---- its answers

-- the line of each event: its number, the stamp after it, and the event's own answer
abbrev pub answer_lines : Named → ℕ → State → List Event → Text
answer_lines n number s [] = []
answer_lines n number s (e ∷ history) =
    line_of number (next n.plan s e.machine e.call).stamp (answer_text n e.answer)
    ++ answer_lines n (number + 1) (next n.plan s e.machine e.call) history
