-- Laws of scripts: each record is answered in the state that those before it have left, of any plan, whatever its
-- number.
use Rattle.std.specs.Prelude.{◌≡◌, ◌≢◌, ℕ, ◌+◌, ◌<◌, ◌≤◌, false, List, [], ◌∷◌, ◌++◌, codes, count_by, get_or, length}
use Rattle.std.specs.Prelude.{nat_eq, IsTrue, Some, None, Ok, Err}
use Rattle.std.specs.List.{list_all}
use Rattle.std.specs.Fmt.{decimal}
use Rattle.csv.specs.Reading.{default_config, records, strip_bom}
use Rattle.csv_rows.specs.Numbers.{number_in}
use Rattle.csv_rows.specs.Rows.{Row}
use Rattle.csv_rows.specs.ScriptEnd.{end_text}
use Rattle.csv_rows.specs.declared.script_end.ScriptFault.{ScriptFault}
use Rattle.csv_rows.specs.declared.script_end.ScriptFault.TheVariants.{BadRow, BadStart, Long, NoStart}
use Rattle.csv_rows.specs.declared.script_end.Outcome.{Outcome}
use Rattle.csv_rows.specs.declared.script_end.Outcome.TheVariants.{Clean, Refused}
use Rattle.plan_types.specs.Table.{place_count}
use Rattle.plan_types.specs.declared.call.Call.{Call}
use Rattle.plan_types.specs.declared.call.Call.TheVariants.{Stop, Resume}
use Rattle.plan_rules.specs.declared.state.State.{State}
use Rattle.plan_rules.specs.Reply.{next, reply}
use Rattle.plan_rules.specs.State.{start_state}
use Rattle.plan_text.specs.Answers.{answer_text}
use Rattle.plan_text.specs.Calls.{call_of, caller_of, verb_of}
use Rattle.plan_text.specs.Named.{Named}
use Rattle.plan_text.specs.Names.{Text}
use Rattle.plan_text.specs.Reasons.{why_no_call}
use Rattle.plan_text.specs.Requests.{request_of}
use Rattle.plan_text.specs.Script.{Answers, answers_of, rows_answers, rows_start, script_answers, script_start}
use Rattle.plan_text.specs.Starts.{full_places, is_flag, start_in}
use Rattle.plan_text.specs.declared.calls.Verb.{Verb}
use Rattle.plan_text.specs.declared.request.Request.{Request}

-- ---- records

-- the call in a record, by the words in its fields
pub record RecordsAreRead (n : Named) (machine : ℕ) (who word name : Text) (verb : Verb) (call : Call) (rest : Row)
    : Type 0 where
  pub of_object : caller_of n who ≡ Some machine → verb_of word ≡ Some verb → call_of n machine verb name ≡ Some call
      → request_of n (who ∷ word ∷ name ∷ []) ≡ Some (record { machine = machine; call = call })
  pub of_stop : caller_of n who ≡ Some machine
      → request_of n (who ∷ codes "stop" ∷ []) ≡ Some (record { machine = machine; call = Stop })
  pub of_resume : caller_of n who ≡ Some machine
      → request_of n (who ∷ codes "resume" ∷ []) ≡ Some (record { machine = machine; call = Resume })
  pub no_caller : caller_of n who ≡ None → request_of n (who ∷ rest) ≡ None
  pub no_verb : caller_of n who ≡ Some machine → verb_of word ≡ None → request_of n (who ∷ word ∷ name ∷ []) ≡ None
  pub no_object : caller_of n who ≡ Some machine → verb_of word ≡ Some verb → call_of n machine verb name ≡ None
      → request_of n (who ∷ word ∷ name ∷ []) ≡ None

-- the text with more before it, and the same end
pub record Continue (a : Answers) (before : Text) (b : Answers) : Type 0 where
  pub text : a.text ≡ before ++ b.text
  pub outcome : a.outcome ≡ b.outcome

pub record EndWith (a : Answers) (last : Text) (how : Outcome) : Type 0 where
  pub text : a.text ≡ last
  pub outcome : a.outcome ≡ how

-- the answers to records, after any number of answered ones
pub record RecordsAreAnswered (n : Named) (done : ℕ) (s : State) (row : Row) (rows : List Row) (r : Request)
    : Type 0 where
  pub of_call : done < 65536 → request_of n row ≡ Some r
      → Continue (answers_of n done s (row ∷ rows))
      (decimal (done + 1) ++ codes " " ++ decimal (next n.plan s r.machine r.call).stamp ++ codes " "
      ++ answer_text n (reply n.plan s r.machine r.call) ++ codes "\n")
      (answers_of n (done + 1) (next n.plan s r.machine r.call) rows)
  pub no_call : done < 65536 → request_of n row ≡ None
      → EndWith (answers_of n done s (row ∷ rows))
      ((codes "record " ++ decimal (done + 1) ++ codes ", " ++ why_no_call n row ++ codes "\n")
      ++ end_text (Refused (BadRow (done + 1))))
      (Refused (BadRow (done + 1)))
  pub too_many : EndWith (answers_of n 65536 s (row ∷ rows)) (end_text (Refused Long)) (Refused Long)
  pub none : EndWith (answers_of n done s []) (end_text Clean) Clean

-- ---- starts

-- the start in record 0: a digit for each place, of any plan, and any stamp up to the last
pub record StartsAreOfDigits (count : ℕ) (digits field : Text) (stamp : ℕ) : Type 0 where
  pub stamped : length digits ≡ count → IsTrue (list_all is_flag digits) → number_in field ≡ Some stamp
      → stamp ≤ 1048575
      → start_in count (codes "start" ∷ digits ∷ field ∷ []) ≡ Ok (start_state (full_places digits) stamp)
  pub not_stamped : length digits ≡ count → IsTrue (list_all is_flag digits)
      → start_in count (codes "start" ∷ digits ∷ []) ≡ Ok (start_state (full_places digits) 0)
  pub place : (place : ℕ) → place < 16 → place < length digits
      → get_or (full_places digits) place false ≡ nat_eq (get_or digits place 48) 49
  pub no_place : (place : ℕ) → place < 16 → length digits ≤ place → get_or (full_places digits) place false ≡ false
  pub other_count : length digits ≢ count → start_in count (codes "start" ∷ digits ∷ []) ≡ Err BadStart
  pub no_digit : list_all is_flag digits ≡ false → start_in count (codes "start" ∷ digits ∷ []) ≡ Err BadStart
  pub late : number_in field ≡ Some stamp → 1048575 < stamp
      → start_in count (codes "start" ∷ digits ∷ field ∷ []) ≡ Err BadStart

-- ---- scripts

-- a script's answers are those to its records, the first of which is its start
pub record ScriptsAreOfRecords (n : Named) (s : State) (row : Row) (rows : List Row) (fault : ScriptFault)
    (script : Text) : Type 0 where
  pub answers : script_answers n script ≡ rows_answers n (records default_config (strip_bom script))
  pub start : script_start n script ≡ rows_start n (records default_config (strip_bom script))
  pub first : rows_start n (row ∷ rows) ≡ start_in (place_count n.plan) row
  pub from_start : rows_start n (row ∷ rows) ≡ Ok s
      → Continue (rows_answers n (row ∷ rows))
      (codes "0 " ++ decimal s.stamp ++ codes " start " ++ decimal (count_by (λ full. full) s.full) ++ codes "\n")
      (answers_of n 0 s rows)
  pub no_record : EndWith (rows_answers n []) (end_text (Refused NoStart)) (Refused NoStart)
  pub no_first : rows_start n [] ≡ Err NoStart
  pub no_start : rows_start n (row ∷ rows) ≡ Err fault
      → EndWith (rows_answers n (row ∷ rows)) (end_text (Refused fault)) (Refused fault)
