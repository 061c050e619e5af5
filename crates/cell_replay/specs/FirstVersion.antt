-- Scripts of the first version, which couldn't stop the cell. What another version may change is
-- written out here, and stays as it is: the word `start`, the calls, the history by the first
-- version of the interlock, and the text. What has no version is shared: the fields of a start, the
-- forms of a line and of the end, the words of answers, and how bytes are cut into records.
use Rattle.std.specs.Prelude.{◌≡◌, ℕ, Bool, false, List, [], ◌∷◌, ◌++◌, length, map, take, drop}
use Rattle.std.specs.Prelude.{codes, find, Option, None, Result, Ok, Err, if◌then◌else◌}
use Rattle.std.specs.Cmp.Lexicographic.{pointwise}
use Rattle.std.specs.Fmt.{decimal}
use Rattle.std.specs.List.{concat, enumerate_from}
use Rattle.std.specs.Option.{option_map_or}
use Rattle.std.specs.Str.{bytes_eq}
use Rattle.cell_rules.specs.Types.{Call, Claim, Give, Yield, Take, Release, SetPose, Advance, Inquire, Event}
use Rattle.cell_rules.specs.Types.{answer_text, call_fields, all_zones, all_poses}
use Rattle.cell_rules.specs.Names.{ModelState, plates_of}
use Rattle.cell_rules.specs.FirstVersion.{next, reply}
use Rattle.csv_rows.specs.Rows.{Row}
use Rattle.csv_rows.specs.ScriptEnd.{end_text, max_records}
use Rattle.csv_rows.specs.declared.script_end.ScriptFault.{ScriptFault}
use Rattle.csv_rows.specs.declared.script_end.ScriptFault.TheVariants.{NoStart, Long}
use Rattle.csv_rows.specs.declared.script_end.Outcome.TheVariants.{Refused}
use Rattle.cell_replay.specs.Requests.{machine_of, request_by}
use Rattle.cell_replay.specs.Script.{end_of, is_cut_of, line_of}
use Rattle.cell_replay.specs.Script.{script_rows, start_fields}
use Rattle.cell_replay.specs.declared.request.Request.{Request}

abbrev pub all_calls : List Call
all_calls =
    map Claim all_zones ++ map Give all_zones ++ map Yield all_zones ++ map Take all_zones
    ++ map Release all_zones ++ map SetPose all_poses ++ map Inquire all_zones ++ Advance ∷ []

-- the call with these fields, and the request in a record
unfoldable pub call_of : Row → Option Call
call_of fields = find (λ call. pointwise bytes_eq (call_fields call) fields) all_calls

unfoldable pub request_of : Row → Option Request
request_of [] = None
request_of (word ∷ fields) = request_by (machine_of word) (call_of fields)

-- the requests of the records, up to the first record that has none
unfoldable pub requests_in : List Row → List Request
requests_in [] = []
requests_in (row ∷ rows) =
    option_map_or (λ request. request ∷ requests_in rows) (request_of row) []

-- the history of requests that are made in order, and the state after a history
abbrev pub event_of : ModelState → Request → Event
event_of s r = record { machine = r.machine; call = r.call; answer = reply s r.machine r.call }

unfoldable pub history_of : ModelState → List Request → List Event
history_of s [] = []
history_of s (r ∷ requests) = event_of s r ∷ history_of (next s r.machine r.call) requests

unfoldable pub after : ModelState → List Event → ModelState
after s [] = s
after s (e ∷ history) = after (next s e.machine e.call) history

-- the start in record 0; if there is none, the script is cut or empty
unfoldable pub start_in : Bool → List Row → Result ModelState ScriptFault
start_in is_cut [] = Err (if is_cut then Long else NoStart)
start_in is_cut ([] ∷ rows) = Err NoStart
start_in is_cut ((word ∷ fields) ∷ rows) =
    if bytes_eq word (codes "start") then start_fields fields else Err NoStart

-- the line of the start, and that of the event with this number; the first is 1
abbrev pub start_line : ModelState → List ℕ
start_line s = line_of 0 s.stamp (codes "start " ++ decimal (plates_of s))

abbrev pub event_line : ModelState → List Event → ℕ × Event → List ℕ
event_line s history (number, event) =
    line_of number (after s (take number history)).stamp (answer_text event.answer)

-- the lines of a history, and the end of a script with `count` records after record 0
abbrev pub text_of : Bool → ModelState → List Event → ℕ → List ℕ
text_of is_cut s history count =
    concat (start_line s ∷ map (event_line s history) (enumerate_from 1 history))
    ++ end_text (end_of is_cut (length history) count)

abbrev pub text_from : Bool → Result ModelState ScriptFault → List Row → List ℕ
text_from is_cut (Ok s) rows =
    text_of is_cut s (history_of s (requests_in (take max_records rows))) (length rows)
text_from is_cut (Err fault) rows = end_text (Refused fault)

-- the text that answers a script
unfoldable pub script_text : List ℕ → List ℕ
script_text bytes =
    text_from (is_cut_of bytes) (start_in (is_cut_of bytes) (script_rows bytes))
    (drop 1 (script_rows bytes))

-- record 0 begins with `start2`
abbrev pub begins_with_start2 : List Row → Bool
begins_with_start2 [] = false
begins_with_start2 ([] ∷ rows) = false
begins_with_start2 ((word ∷ fields) ∷ rows) = bytes_eq word (codes "start2")

-- a script of the first version
abbrev pub IsOfFirstVersion : List ℕ → Type 0
IsOfFirstVersion bytes = begins_with_start2 (script_rows bytes) ≡ false
