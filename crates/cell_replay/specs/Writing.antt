-- What is written for the records of a script that are left.
use Rattle.std.specs.Prelude.{ℕ, ◌≡◌, ◌+◌, ◌-◌, Bool, List, [], ◌∷◌, length, take, option_map, Option, Some}
use Rattle.std.specs.Prelude.{Result, Ok, Err}
use Rattle.std.specs.List.{concat}
use Rattle.std.specs.Option.{ForSome}
use Rattle.std.specs.Io.KnownBytes.{Appends, Keeps}
use Rattle.cell_types.specs.Answers.{answer_text}
use Rattle.cell_rules.specs.Names.{ModelState, next, reply}
use Rattle.csv_rows.specs.Rows.{Row}
use Rattle.csv_rows.specs.ScriptEnd.{end_text, max_records}
use Rattle.csv_rows.specs.declared.script_end.Outcome.{Outcome}
use Rattle.cell_replay.specs.declared.request.Request.{Request}
use Rattle.cell_replay.specs.declared.version.Version.{Version}
use Rattle.cell_replay.specs.Script.{end_of, script_outcome, script_text, line_of, requests_in}
use Rattle.cell_replay.specs.Faults.{Leaves, WrotePrefix, WroteLines}
use Rattle.cell_replay.specs.declared.fault.ReplayFault.{ReplayFault}
use Rattle.cell_replay.specs.declared.fault.ReplayFault.TheVariants.{Read, Write, Memory}

-- the lines of requests that are made in order, after a number of earlier ones
unfoldable pub lines_after : ℕ → ModelState → List Request → List (List ℕ)
lines_after done s [] = []
lines_after done s (r ∷ rs) =
    line_of (done + 1) (next s r.machine r.call).stamp (answer_text (reply s r.machine r.call))
    ∷ lines_after (done + 1) (next s r.machine r.call) rs

-- the requests in the records that are left after a number of answered ones
abbrev pub requests_left : Version → ℕ → List Row → List Request
requests_left version done left = requests_in version (take (max_records - done) left)

-- the lines of these records, and how the script ends
abbrev pub lines_left : Version → ℕ → ModelState → List Row → List (List ℕ)
lines_left version done s left = lines_after done s (requests_left version done left)

abbrev pub outcome_left : Version → Bool → ℕ → List Row → Outcome
outcome_left version is_cut done left =
    end_of is_cut (done + length (requests_left version done left)) (done + length left)

-- these lines are written, and the script ends so; or a step failed: then some first lines, or a prefix, are written
abbrev pub Writes : List (List ℕ) → Outcome → Option (List ℕ) → Option (List ℕ) → Result Outcome ReplayFault → Type 0
Writes lines outcome old new (Ok o) = (o ≡ outcome) × Appends old new (concat lines)
Writes lines outcome old new (Err Read) = WroteLines old new lines
Writes lines outcome old new (Err Memory) = WroteLines old new lines
Writes lines outcome old new (Err Write) = WrotePrefix old new (concat lines)

-- a line is written; or out of memory; or a prefix of it is written
abbrev pub WritesLine : List ℕ → Option (List ℕ) → Option (List ℕ) → Result (Unit {0}) ReplayFault → Type 0
WritesLine line old new (Ok done) = Appends old new line
WritesLine line old new (Err Read) = ⊥
WritesLine line old new (Err Memory) = Keeps old new
WritesLine line old new (Err Write) = WrotePrefix old new line

-- the last line of a refused script is written; or out of memory; or a prefix of it is written
abbrev pub WritesEnd : Outcome → Option (List ℕ) → Option (List ℕ) → Result Outcome ReplayFault → Type 0
WritesEnd outcome old new (Ok o) = (o ≡ outcome) × Appends old new (end_text outcome)
WritesEnd outcome old new (Err Read) = ⊥
WritesEnd outcome old new (Err Memory) = Keeps old new
WritesEnd outcome old new (Err Write) = WrotePrefix old new (end_text outcome)

-- the text of a script is written, and the outcome is the one in it; or the replay failed
abbrev pub WritesScript : List ℕ → Option (List ℕ) → Option (List ℕ) → Result Outcome ReplayFault → Type 0
WritesScript bytes old new (Ok o) = (o ≡ script_outcome bytes) × Appends old new (script_text bytes)
WritesScript bytes old new (Err fault) = Leaves fault bytes old new

-- a writer has the bytes that it had, and maybe more
abbrev pub IsGrown : Option (List ℕ) → Option (List ℕ) → Type 0
IsGrown old new = ForSome old (λ bytes. option_map (take (length bytes)) new ≡ Some bytes)
