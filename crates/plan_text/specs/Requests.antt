-- The call in a record of a script, by the names of a plan.
use Rattle.std.specs.Prelude.{ℕ, List, length, nat_lt, codes, Option, Some, None, option_map, if◌then◌else◌}
use Rattle.std.specs.Option.{option_and_then}
use Rattle.std.specs.Str.{bytes_eq}
use Rattle.csv.specs.Records.{field_at}
use Rattle.csv_rows.specs.Rows.{Row}
use Rattle.plan_types.specs.declared.call.Call.{Call}
use Rattle.plan_types.specs.declared.call.Call.TheVariants.{Stop, Resume}
use Rattle.plan_text.specs.Names.{Text}
use Rattle.plan_text.specs.Named.{Named}
use Rattle.plan_text.specs.Calls.{call_of, caller_of, verb_of}
use Rattle.plan_text.specs.declared.request.Request.{Request}

abbrev pub stop_by : List ℕ → Option Call
stop_by word =
    if bytes_eq word (codes "stop") then Some Stop
    else (if bytes_eq word (codes "resume") then Some Resume else None)

-- what a machine asks by a verb and a name, or by one word alone
abbrev pub call_in : Named → ℕ → Text → Option Text → Option Call
call_in n machine word None = stop_by word
call_in n machine word (Some name) = option_and_then (λ verb. call_of n machine verb name) (verb_of word)

abbrev pub request : ℕ → Call → Request
request machine call = record { machine = machine; call = call }

abbrev pub request_by : Named → Row → ℕ → Option Request
request_by n fields machine =
    option_and_then (λ word. option_map (request machine) (call_in n machine word (field_at fields 2)))
    (field_at fields 1)

-- the call in a record of at most three fields: field 0 names a machine or the watch, fields 1 and 2 say what it asks
abbrev pub request_of : Named → Row → Option Request
request_of n fields =
    if nat_lt 3 (length fields) then None
    else option_and_then (λ name. option_and_then (request_by n fields) (caller_of n name)) (field_at fields 0)
