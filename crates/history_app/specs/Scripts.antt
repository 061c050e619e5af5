-- The script of a history: record 0 with its opening, and a record for each event. Each is a line: its fields, with
-- commas between, and a line feed.
use Rattle.std.specs.Prelude.{ℕ, Bool, List, [], ◌∷◌, ◌++◌, map, if◌then◌else◌}
use Rattle.std.specs.Fmt.{decimal}
use Rattle.std.specs.List.{concat, list_all}
use Rattle.cell_rules.specs.Types.{Event, all_places}
use Rattle.cell_rules.specs.Names.{ModelState, PlaceSet, has}
use Rattle.csv_rows.specs.Rows.{Row}
use Rattle.cell_replay.specs.Requests.{request, request_fields}
use Rattle.cell_replay.specs.Versions.{has_call, version_word}
use Rattle.cell_replay.specs.declared.version.Version.{Version}
use Rattle.cell_replay.specs.declared.version.Version.TheVariants.{First, Second}

-- the first version if it has the call of each event, else the second
abbrev pub fits_first : List Event → Bool
fits_first events = list_all (λ e. has_call First e.call) events

abbrev pub version_for : List Event → Version
version_for events = if fits_first events then First else Second

-- a digit for each place: 1 if it is full
abbrev pub digit_of : Bool → ℕ
digit_of full = if full then 49 else 48

unfoldable pub digits_of : PlaceSet → List ℕ
digits_of places = map (λ place. digit_of (has places place)) all_places

-- record 0: the version's word, the places, and the stamp
abbrev pub opening_row : ModelState → List Event → Row
opening_row opening events =
    version_word (version_for events) ∷ digits_of opening.full ∷ decimal opening.stamp ∷ []

-- an event's record: the machine's word and the call's fields
unfoldable pub event_row : Event → Row
event_row e = request_fields (request e.machine e.call)

abbrev pub rows_of : ModelState → List Event → List Row
rows_of opening events = opening_row opening events ∷ map event_row events

-- a record's line
abbrev pub after_comma : Row → List ℕ
after_comma [] = 10 ∷ []
after_comma (field ∷ fields) = 44 ∷ (field ++ after_comma fields)

abbrev pub line_of_row : Row → List ℕ
line_of_row [] = 10 ∷ []
line_of_row (field ∷ fields) = field ++ after_comma fields

unfoldable pub script_of : ModelState → List Event → List ℕ
script_of opening events = concat (map line_of_row (rows_of opening events))
