-- A row: who calls, the call, what it wants of a word and what it writes. It is kept without an enum: C can't keep one.
use Rattle.std.specs.Prelude.{◌≡◌, ℕ, nat_eq, if◌then◌else◌}
use Rattle.plan_types.specs.declared.call.Call.{Call}
use Rattle.plan_types.specs.declared.call.Call.TheVariants.{Claim, Give, Yield, Take, Release, SetPose, Inquire, Stop}
use Rattle.plan_types.specs.declared.call.Call.TheVariants.{Resume, Advance}
use Rattle.plan_compiled.specs.declared.part.Part.{Part}
use Rattle.plan_compiled.specs.declared.row.Row.TheInside.{Inside}

pub record Row : Type 0 where
  pub machine : ℕ
  pub call : Call
  pub part : Part

abbrev pub row_with : ℕ → Call → Part → Row
row_with machine call part = record { machine = machine; call = call; part = part }

-- a row that no word matches
abbrev pub no_row : Row
no_row = row_with 0 (Inquire 0) (record { mask = 0; wanted = 1; keep = 0; set = 0 })

-- the two numbers of a call
abbrev pub verb_number : Call → ℕ
verb_number (Claim z) = 1
verb_number (Give z) = 2
verb_number (Yield z) = 3
verb_number (Take z) = 4
verb_number (Release z) = 5
verb_number (SetPose p) = 6
verb_number (Inquire z) = 8
verb_number Stop = 9
verb_number Resume = 10
verb_number (Advance p) = 11

abbrev pub object_number : Call → ℕ
object_number (Claim z) = z
object_number (Give z) = z
object_number (Yield z) = z
object_number (Take z) = z
object_number (Release z) = z
object_number (SetPose p) = p
object_number (Inquire z) = z
object_number Stop = 0
object_number Resume = 0
object_number (Advance p) = p

-- the call that two numbers tell, whatever they are
abbrev pub call_told : ℕ → ℕ → Call
call_told verb object =
    if nat_eq verb 1 then Claim object else if nat_eq verb 2 then Give object else if nat_eq verb 3 then Yield object
    else if nat_eq verb 4 then Take object else if nat_eq verb 5 then Release object
    else if nat_eq verb 6 then SetPose object else if nat_eq verb 8 then Inquire object
    else if nat_eq verb 9 then Stop else if nat_eq verb 11 then Advance object else Resume

abbrev pub row_in : Inside → Row
row_in a = row_with a.machine (call_told a.verb a.object) a.part

abbrev pub kept : Row → Inside
kept r = record {
  machine = r.machine;
  verb = verb_number r.call;
  object = object_number r.call;
  part = r.part;
}

pub record IsKept (a : Inside) : Type 0 where
  pub as_numbers : kept (row_in a) ≡ a

pub kept_back : (a : Inside) → IsKept a → kept (row_in a) ≡ a
kept_back a is = is.as_numbers
