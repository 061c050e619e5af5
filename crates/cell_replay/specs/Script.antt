-- The answer to a script, by its version.
use Rattle.std.specs.Prelude.{ℕ, ◌+◌, ◌-◌, ◌==◌, Bool, List, [], ◌∷◌, ◌++◌, length, map, take, drop}
use Rattle.std.specs.Prelude.{nat_lt, Option, Some, None, Result, Ok, Err, if◌then◌else◌}
use Rattle.std.specs.Fmt.{decimal}
use Rattle.std.specs.List.{concat, enumerate_from}
use Rattle.std.specs.Option.{option_map_or}
use Rattle.csv.specs.Reading.{default_config, records, strip_bom}
use Rattle.cell_rules.specs.Types.{Event, answer_text}
use Rattle.cell_rules.specs.Names.{ModelState, plates_of, PlaceSet, places_of, start_state, places_in, is_start, next}
use Rattle.cell_rules.specs.Names.{reply, after}
use Rattle.csv_rows.specs.Numbers.{number_in}
use Rattle.csv_rows.specs.Rows.{Row}
use Rattle.csv_rows.specs.ScriptEnd.{end_text, max_records}
use Rattle.csv_rows.specs.declared.script_end.ScriptFault.{ScriptFault}
use Rattle.csv_rows.specs.declared.script_end.ScriptFault.TheVariants.{NoStart, BadStart, BadRow, Long}
use Rattle.csv_rows.specs.declared.script_end.Outcome.{Outcome}
use Rattle.csv_rows.specs.declared.script_end.Outcome.TheVariants.{Clean, Refused}
use Rattle.cell_replay.specs.Requests.{request_of}
use Rattle.cell_replay.specs.Versions.{version_of, version_word}
use Rattle.cell_replay.specs.declared.request.Request.{Request}
use Rattle.cell_replay.specs.declared.version.Version.{Version}
use Rattle.cell_replay.specs.declared.script_start.Start.{Start}

-- the most bytes of a script that are used
abbrev pub byte_limit : ℕ
byte_limit = 4194304

-- one byte more shows whether there are more than are used
abbrev pub max_bytes_read : ℕ
max_bytes_read = byte_limit + 1

abbrev pub start_at : PlaceSet → ℕ → Result ModelState ScriptFault
start_at full stamp = if is_start full stamp then Ok (start_state full stamp) else Err BadStart

abbrev pub start_of : Option (List Bool) → Option ℕ → Result ModelState ScriptFault
start_of (Some flags) (Some stamp) = start_at (places_of flags) stamp
start_of (Some flags) None = Err BadStart
start_of None stamp = Err BadStart

-- the start in the fields after the first: the places, and the stamp, which is 0 if it is absent
abbrev pub start_fields : Row → Result ModelState ScriptFault
start_fields [] = Err BadStart
start_fields (places ∷ []) = start_of (places_in places) (Some 0)
start_fields (places ∷ stamp ∷ []) = start_of (places_in places) (number_in stamp)
start_fields (places ∷ stamp ∷ more ∷ rest) = Err BadStart

-- a start of a version
abbrev pub start_of_version : Version → Result ModelState ScriptFault → Result Start ScriptFault
start_of_version version (Ok s) = Ok (record { version = version; state = s })
start_of_version version (Err fault) = Err fault

abbrev pub start_by : Option Version → Row → Result Start ScriptFault
start_by (Some version) fields = start_of_version version (start_fields fields)
start_by None fields = Err NoStart

-- the start in record 0: its first field says the version
unfoldable pub start_in : Row → Result Start ScriptFault
start_in [] = Err NoStart
start_in (word ∷ fields) = start_by (version_of word) fields

-- the requests of the records, up to the first record that has none
unfoldable pub requests_in : Version → List Row → List Request
requests_in version [] = []
requests_in version (row ∷ rows) =
    option_map_or (λ request. request ∷ requests_in version rows) (request_of version row) []

-- the history of requests that are made in order
abbrev pub event_of : ModelState → Request → Event
event_of s request =
    record { machine = request.machine; call = request.call; answer = reply s request.machine request.call }

unfoldable pub history_of : ModelState → List Request → List Event
history_of s [] = []
history_of s (request ∷ requests) = event_of s request ∷ history_of (next s request.machine request.call) requests

-- a line: a record's number, the stamp after it, and its text
abbrev pub line_of : ℕ → ℕ → List ℕ → List ℕ
line_of number stamp text = decimal number ++ 32 ∷ (decimal stamp ++ 32 ∷ (text ++ 10 ∷ []))

abbrev pub start_line : Start → List ℕ
start_line start = line_of 0 start.state.stamp (version_word start.version ++ 32 ∷ decimal (plates_of start.state))

-- the line of the event with this number; the first is 1
abbrev pub event_line : ModelState → List Event → ℕ × Event → List ℕ
event_line s history (number, event) = line_of number (after s (take number history)).stamp (answer_text event.answer)

abbrev pub event_lines : ModelState → List Event → List (List ℕ)
event_lines s history = map (event_line s history) (enumerate_from 1 history)

-- A script as records, the first of which is record 0: its start, its events, its lines, and how it ends.
abbrev pub rows_start : Bool → List Row → Result Start ScriptFault
rows_start is_cut [] = Err (if is_cut then Long else NoStart)
rows_start is_cut (row ∷ rows) = start_in row

abbrev pub events_from : Result Start ScriptFault → List Row → List Event
events_from (Ok start) rows = history_of start.state (requests_in start.version (take max_records rows))
events_from (Err fault) rows = []

abbrev pub rows_events : Bool → List Row → List Event
rows_events is_cut rows = events_from (rows_start is_cut rows) (drop 1 rows)

abbrev pub lines_from : Result Start ScriptFault → List Event → List (List ℕ)
lines_from (Ok start) history = start_line start ∷ event_lines start.state history
lines_from (Err fault) history = []

abbrev pub rows_lines : Bool → List Row → List (List ℕ)
rows_lines is_cut rows = lines_from (rows_start is_cut rows) (rows_events is_cut rows)

-- how a script ends with `count` records after record 0, if the first `answered` are answered
abbrev pub end_of : Bool → ℕ → ℕ → Outcome
end_of is_cut answered count =
    if nat_lt answered count then Refused (if answered == max_records then Long else BadRow (answered + 1))
    else if is_cut then Refused Long else Clean

abbrev pub outcome_from : Bool → Result Start ScriptFault → ℕ → ℕ → Outcome
outcome_from is_cut (Ok start) answered count = end_of is_cut answered count
outcome_from is_cut (Err fault) answered count = Refused fault

abbrev pub rows_outcome : Bool → List Row → Outcome
rows_outcome is_cut rows =
    outcome_from is_cut (rows_start is_cut rows) (length (rows_events is_cut rows)) (length (drop 1 rows))

-- there are more bytes than are used
abbrev pub is_cut_of : List ℕ → Bool
is_cut_of bytes = nat_lt byte_limit (length bytes)

-- the last record of a cut script is left out
abbrev pub without_last : List Row → List Row
without_last rows = take (length rows - 1) rows

abbrev pub used : Bool → List Row → List Row
used is_cut rows = if is_cut then without_last rows else rows

abbrev pub script_rows : List ℕ → List Row
script_rows bytes = used (is_cut_of bytes) (records default_config (strip_bom (take byte_limit bytes)))

-- A script as bytes.
unfoldable pub script_start : List ℕ → Result Start ScriptFault
script_start bytes = rows_start (is_cut_of bytes) (script_rows bytes)

unfoldable pub script_events : List ℕ → List Event
script_events bytes = rows_events (is_cut_of bytes) (script_rows bytes)

unfoldable pub script_lines : List ℕ → List (List ℕ)
script_lines bytes = rows_lines (is_cut_of bytes) (script_rows bytes)

unfoldable pub script_outcome : List ℕ → Outcome
script_outcome bytes = rows_outcome (is_cut_of bytes) (script_rows bytes)

-- the text that answers a script
unfoldable pub script_text : List ℕ → List ℕ
script_text bytes = concat (script_lines bytes) ++ end_text (script_outcome bytes)
