-- A plan and a script after it.
use Rattle.std.specs.Prelude.{ℕ, ◌+◌, ◌-◌, ◌==◌, ◌&&◌, ◌||◌, Bool, List, length, drop, get_or, codes, min}
use Rattle.std.specs.Prelude.{Option, take, unwrap_or}
use Rattle.std.specs.List.{starts_with}
use Rattle.std.specs.Bool.{then_some}
use Rattle.std.specs.Prelude.{nat_eq}
use Rattle.plan_types.specs.Below.{first_below}

-- the most bytes of both together: those of a plan, and those of a script
abbrev pub byte_limit : ℕ
byte_limit = 65536 + 4194304

-- one byte more shows whether there are more
abbrev pub max_bytes_read : ℕ
max_bytes_read = byte_limit + 1

-- a line that begins with `start,` begins after the first `at` bytes
abbrev pub is_begin : List ℕ → ℕ → Bool
is_begin bytes at =
    (at == 0 || get_or bytes (at - 1) 0 == 10) && starts_with nat_eq (drop at bytes) (codes "start,")

abbrev pub begin_at : List ℕ → ℕ → Option ℕ
begin_at bytes at = then_some (is_begin bytes at) at

-- how many bytes the plan has: those before the script, or all
abbrev pub plan_length : List ℕ → ℕ
plan_length bytes = min (unwrap_or (first_below (begin_at bytes) (length bytes)) (length bytes)) (length bytes)

abbrev pub document_in : List ℕ → List ℕ
document_in bytes = take (plan_length bytes) bytes

abbrev pub script_in : List ℕ → List ℕ
script_in bytes = drop (plan_length bytes) bytes
