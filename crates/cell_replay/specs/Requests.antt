-- The request in a record of a script.
use Rattle.std.specs.Prelude.{ℕ, List, [], ◌∷◌, ◌++◌, map, find, Option, Some, None}
use Rattle.std.specs.Str.{bytes_eq}
use Rattle.std.specs.Cmp.Lexicographic.{pointwise}
use Rattle.cell_rules.specs.Types.{Machine, Call, Claim, Give, Yield, Take, Release, SetPose, Advance, Inquire}
use Rattle.cell_rules.specs.Types.{machine_word, call_fields, all_machines, all_zones, all_poses}
use Rattle.csv_rows.specs.Rows.{Row}
use Rattle.cell_replay.specs.Versions.{further_calls}
use Rattle.cell_replay.specs.declared.request.Request.{Request}
use Rattle.cell_replay.specs.declared.version.Version.{Version}

-- the fields that write a request: the machine's word, and those of the call
abbrev pub request_fields : Request → Row
request_fields request = machine_word request.machine ∷ call_fields request.call

abbrev pub request : Machine → Call → Request
request machine call = record { machine = machine; call = call }

-- the calls of a version
abbrev pub calls_of : Version → List Call
calls_of version =
    map Claim all_zones ++ map Give all_zones ++ map Yield all_zones ++ map Take all_zones ++ map Release all_zones
    ++ map SetPose all_poses ++ map Inquire all_zones ++ Advance ∷ further_calls version

-- the machine with this word
unfoldable pub machine_of : List ℕ → Option Machine
machine_of word = find (λ machine. bytes_eq (machine_word machine) word) all_machines

-- the call of a version with these fields
unfoldable pub call_of : Version → Row → Option Call
call_of version fields = find (λ call. pointwise bytes_eq (call_fields call) fields) (calls_of version)

abbrev pub request_by : Option Machine → Option Call → Option Request
request_by (Some machine) (Some call) = Some (request machine call)
request_by (Some machine) None = None
request_by None call = None

-- the request of a version with these fields
unfoldable pub request_of : Version → Row → Option Request
request_of version [] = None
request_of version (word ∷ fields) = request_by (machine_of word) (call_of version fields)
