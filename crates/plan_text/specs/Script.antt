-- The answers to a script, by a plan with names.
use Rattle.std.specs.Prelude.{ℕ, ◌+◌, List, [], ◌∷◌, ◌++◌, codes, count_by, nat_lt, Option, Some, None}
use Rattle.std.specs.Prelude.{Result, Ok, Err, if◌then◌else◌}
use Rattle.std.specs.Fmt.{decimal}
use Rattle.csv.specs.Reading.{default_config, records, strip_bom}
use Rattle.csv_rows.specs.Rows.{Row}
use Rattle.csv_rows.specs.ScriptEnd.{end_text, max_records}
use Rattle.csv_rows.specs.declared.script_end.ScriptFault.{ScriptFault}
use Rattle.csv_rows.specs.declared.script_end.ScriptFault.TheVariants.{NoStart, BadRow, Long}
use Rattle.csv_rows.specs.declared.script_end.Outcome.{Outcome}
use Rattle.csv_rows.specs.declared.script_end.Outcome.TheVariants.{Clean, Refused}
use Rattle.plan_types.specs.Table.{place_count}
use Rattle.plan_rules.specs.declared.state.State.{State}
use Rattle.plan_rules.specs.Reply.{next, reply}
use Rattle.plan_text.specs.Named.{Named}
use Rattle.plan_text.specs.Answers.{answer_text}
use Rattle.plan_text.specs.Reasons.{why_no_call}
use Rattle.plan_text.specs.Requests.{request_of}
use Rattle.plan_text.specs.Starts.{start_in}
use Rattle.plan_text.specs.declared.request.Request.{Request}

-- the text that answers a script, and how the script ends
pub record Answers : Type 0 where
  pub text : List ℕ
  pub outcome : Outcome

abbrev pub with_text : List ℕ → Answers → Answers
with_text before a = record { text = before ++ a.text; outcome = a.outcome }

-- no further record is answered
abbrev pub ends : Outcome → Answers
ends outcome = record { text = end_text outcome; outcome = outcome }

-- the line of a record: its number, the stamp after it, and the answer
abbrev pub line_of : ℕ → ℕ → List ℕ → List ℕ
line_of number stamp text = decimal number ++ codes " " ++ decimal stamp ++ codes " " ++ text ++ codes "\n"

abbrev pub start_line : State → List ℕ
start_line s =
    codes "0 " ++ decimal s.stamp ++ codes " start " ++ decimal (count_by (λ full. full) s.full) ++ codes "\n"

-- the lines of a record that is no call: why, and the fault
abbrev pub row_refused : Named → ℕ → Row → Answers
row_refused n number row =
    with_text (codes "record " ++ decimal number ++ codes ", " ++ why_no_call n row ++ codes "\n")
    (ends (Refused (BadRow number)))

-- the answer to a call by the plan's interlock, and then the answers in the state after it; or no call
abbrev pub answer_by : Named → ℕ → State → Row → Option Request → (State → Answers) → Answers
answer_by n number s row None more = row_refused n number row
answer_by n number s row (Some r) more =
    with_text (line_of number (next n.plan s r.machine r.call).stamp (answer_text n (reply n.plan s r.machine r.call)))
    (more (next n.plan s r.machine r.call))

-- the answers to records in a state, after a number of answered ones
unfoldable pub answers_of : Named → ℕ → State → List Row → Answers
answers_of n done s [] = ends Clean
answers_of n done s (row ∷ rows) =
    if nat_lt done max_records
    then answer_by n (done + 1) s row (request_of n row) (λ after. answers_of n (done + 1) after rows)
    else ends (Refused Long)

-- the answers from the start in record 0
abbrev pub answers_from : Named → Result State ScriptFault → List Row → Answers
answers_from n (Ok s) rows = with_text (start_line s) (answers_of n 0 s rows)
answers_from n (Err fault) rows = ends (Refused fault)

abbrev pub rows_answers : Named → List Row → Answers
rows_answers n [] = ends (Refused NoStart)
rows_answers n (row ∷ rows) = answers_from n (start_in (place_count n.plan) row) rows

-- the answers to a script
abbrev pub script_answers : Named → List ℕ → Answers
script_answers n script = rows_answers n (records default_config (strip_bom script))

-- the start in record 0, or why there is none
abbrev pub rows_start : Named → List Row → Result State ScriptFault
rows_start n [] = Err NoStart
rows_start n (row ∷ rows) = start_in (place_count n.plan) row

abbrev pub script_start : Named → List ℕ → Result State ScriptFault
script_start n script = rows_start n (records default_config (strip_bom script))
