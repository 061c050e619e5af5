-- The start in record 0.
use Rattle.std.specs.Prelude.{ℕ, ◌&&◌, ◌||◌, Bool, List, length, map, get_or, codes}
use Rattle.std.specs.Prelude.{nat_eq, nat_lt, nat_le, Option, Some, None, Result, Err, if◌then◌else◌}
use Rattle.std.specs.List.{list_all, range_with_len}
use Rattle.std.specs.Option.{ok_or, option_and_then}
use Rattle.std.specs.Str.{bytes_eq}
use Rattle.csv.specs.Records.{field_at}
use Rattle.csv_rows.specs.Numbers.{number_in}
use Rattle.csv_rows.specs.Rows.{Row}
use Rattle.plan_rules.specs.declared.state.State.{State}
use Rattle.plan_rules.specs.State.{start_state, last_stamp}
use Rattle.csv_rows.specs.declared.script_end.ScriptFault.{ScriptFault}
use Rattle.csv_rows.specs.declared.script_end.ScriptFault.TheVariants.{NoStart, BadStart}

-- the digit of a place is 1
abbrev pub is_one : List ℕ → ℕ → Bool
is_one digits place = nat_lt place (length digits) && nat_eq (get_or digits place 48) 49

abbrev pub full_places : List ℕ → List Bool
full_places digits = map (is_one digits) (range_with_len 0 16)

abbrev pub is_flag : ℕ → Bool
is_flag digit = nat_eq digit 48 || nat_eq digit 49

-- as many digits 0 or 1 as there are places
abbrev pub are_places : ℕ → List ℕ → Bool
are_places count digits = nat_eq (length digits) count && list_all is_flag digits

abbrev pub start_of : ℕ → List ℕ → Option ℕ → Option State
start_of count digits None = None
start_of count digits (Some stamp) =
    if are_places count digits && nat_le stamp last_stamp then Some (start_state (full_places digits) stamp) else None

-- the stamp, which is 0 if it is absent
abbrev pub stamp_in : Option (List ℕ) → Option ℕ
stamp_in None = Some 0
stamp_in (Some field) = number_in field

-- the start in at most three fields of record 0: field 1 has the places, field 2 the stamp
abbrev pub start_fields : ℕ → Row → Option State
start_fields count fields =
    if nat_lt 3 (length fields) then None
    else option_and_then (λ digits. start_of count digits (stamp_in (field_at fields 2))) (field_at fields 1)

abbrev pub start_by : ℕ → Option (List ℕ) → Row → Result State ScriptFault
start_by count None fields = Err NoStart
start_by count (Some word) fields =
    if bytes_eq word (codes "start") then ok_or (start_fields count fields) BadStart else Err NoStart

-- field 0 is `start`
abbrev pub start_in : ℕ → Row → Result State ScriptFault
start_in count fields = start_by count (field_at fields 0) fields
