-- Literal examples of scripts: starts in records, reasons, and the whole answers.
use Rattle.std.specs.Prelude.{◌≡◌, ℕ, true, false, List, [], ◌∷◌, ◌++◌, codes, map, replicate, Result, Ok, Err}
use Rattle.csv.specs.Reading.{default_config, records}
use Rattle.csv_rows.specs.Rows.{Row}
use Rattle.csv_rows.specs.declared.script_end.ScriptFault.{ScriptFault}
use Rattle.csv_rows.specs.declared.script_end.ScriptFault.TheVariants.{NoStart, BadStart, BadRow, Long}
use Rattle.csv_rows.specs.declared.script_end.Outcome.{Outcome}
use Rattle.csv_rows.specs.declared.script_end.Outcome.TheVariants.{Clean, Refused}
use Rattle.plan_rules.specs.declared.state.State.{State}
use Rattle.plan_rules.specs.State.{start_state}
use Rattle.plan_text.specs.Names.{Text}
use Rattle.plan_text.specs.Reasons.{why_no_call}
use Rattle.plan_text.specs.Script.{Answers, answers_of, rows_answers, rows_start, script_answers, script_start}
use Rattle.plan_text.specs.Starts.{start_in}
use Rattle.plan_text.specs.WordExamples.{floors}

-- ---- starts

abbrev pub three_places : List Text → Result State ScriptFault
three_places fields = start_in 3 (codes "start" ∷ fields)

-- place 1 alone is full, and the stamp is this
abbrev pub middle : ℕ → State
middle stamp = start_state (false ∷ true ∷ replicate 14 false) stamp

pub record StartRecords : Type 0 where
  pub stamped : three_places (codes "010" ∷ codes "7" ∷ []) ≡ Ok (middle 7)
  pub not_stamped : three_places (codes "010" ∷ []) ≡ Ok (middle 0)
  pub first_and_last : three_places (codes "101" ∷ codes "0" ∷ [])
      ≡ Ok (start_state (true ∷ false ∷ true ∷ replicate 13 false) 0)
  pub last_stamp : three_places (codes "010" ∷ codes "1048575" ∷ []) ≡ Ok (middle 1048575)
  pub no_place : start_in 0 (codes "start" ∷ [] ∷ []) ≡ Ok (start_state (replicate 16 false) 0)
  pub all : three_places (codes "111" ∷ codes "12" ∷ []) ≡ Ok (start_state (replicate 3 true ++ replicate 13 false) 12)
  -- a start, but a wrong one
  pub flag_past_one : three_places (codes "210" ∷ []) ≡ Err BadStart
  pub start_alone : three_places [] ≡ Err BadStart
  pub too_few : three_places (codes "01" ∷ []) ≡ Err BadStart
  pub too_many : three_places (codes "0100" ∷ []) ≡ Err BadStart
  pub no_digit : three_places (codes "01x" ∷ []) ≡ Err BadStart
  pub empty_stamp : three_places (codes "010" ∷ [] ∷ []) ≡ Err BadStart
  pub no_stamp : three_places (codes "010" ∷ codes "7s" ∷ []) ≡ Err BadStart
  pub past_last : three_places (codes "010" ∷ codes "1048576" ∷ []) ≡ Err BadStart
  pub fourth : three_places (codes "010" ∷ codes "7" ∷ [] ∷ []) ≡ Err BadStart
  -- no start
  pub empty : start_in 3 [] ≡ Err NoStart
  pub other_word : start_in 3 (codes "starts" ∷ codes "010" ∷ []) ≡ Err NoStart
  pub capital : start_in 3 (codes "Start" ∷ codes "010" ∷ []) ≡ Err NoStart
  pub no_records : rows_start floors [] ≡ Err NoStart
  -- the start is that of the first record, whatever follows
  pub of_record_0 : rows_start floors ((codes "start" ∷ codes "010" ∷ []) ∷ [] ∷ []) ≡ Ok (middle 0)

-- ---- reasons

abbrev pub why : List Text → Text
why fields = why_no_call floors fields

abbrev pub callers : List Text
callers = codes "watch" ∷ codes "lift" ∷ codes "low" ∷ codes "high" ∷ []

abbrev pub zone_verbs : List Text
zone_verbs =
    codes "claim" ∷ codes "give" ∷ codes "yield" ∷ codes "take" ∷ codes "release" ∷ codes "inquire" ∷ []

pub record ReasonsAreTold : Type 0 where
  pub long : why (codes "crane" ∷ codes "claims" ∷ codes "below" ∷ [] ∷ [])
      ≡ codes "field 4: a record has at most three fields"
  pub caller : why (codes "crane" ∷ codes "claims" ∷ codes "beyond" ∷ [])
      ≡ codes "field 1: no machine has this name"
  pub verb : why (codes "low" ∷ []) ≡ codes "field 2: a verb is missing"
  pub word : why (codes "low" ∷ codes "wait" ∷ [])
      ≡ codes "field 2: this isn't a verb; known: stop, resume, "
      ++ codes "and with a name claim, give, yield, take, release, inquire, pose, advance"
  pub name : why (codes "watch" ∷ codes "claim" ∷ []) ≡ codes "field 3: a name is missing"
  pub pose_name : why (codes "watch" ∷ codes "pose" ∷ []) ≡ codes "field 3: a name is missing"
  pub verb_of_name : why (codes "low" ∷ codes "stop" ∷ codes "beyond" ∷ [])
      ≡ codes "field 2: this isn't a verb that takes a name; "
      ++ codes "known: claim, give, yield, take, release, inquire, pose, advance"
  pub zone : why (codes "high" ∷ codes "inquire" ∷ codes "beyond" ∷ []) ≡ codes "field 3: no zone has this name"
  -- by each verb, by each caller, and where a field is empty
  pub zones : map (λ verb. why (codes "high" ∷ verb ∷ codes "beyond" ∷ [])) zone_verbs
      ≡ replicate 6 (codes "field 3: no zone has this name")
  pub names : map (λ verb. why (codes "low" ∷ verb ∷ [])) (codes "pose" ∷ zone_verbs)
      ≡ replicate 7 (codes "field 3: a name is missing")
  pub verbs : map (λ who. why (who ∷ [])) callers ≡ replicate 4 (codes "field 2: a verb is missing")
  pub places : map (λ who. why (who ∷ codes "claim" ∷ codes "ground" ∷ [])) callers
      ≡ replicate 4 (codes "field 3: no zone has this name")
  pub no_caller : map why ([] ∷ ([] ∷ []) ∷ (codes "Low" ∷ codes "stop" ∷ []) ∷ [])
      ≡ replicate 3 (codes "field 1: no machine has this name")
  pub empty_verb : why (codes "lift" ∷ [] ∷ codes "above" ∷ [])
      ≡ codes "field 2: this isn't a verb that takes a name; "
      ++ codes "known: claim, give, yield, take, release, inquire, pose, advance"
  pub empty_word : why (codes "lift" ∷ [] ∷ [])
      ≡ codes "field 2: this isn't a verb; known: stop, resume, "
      ++ codes "and with a name claim, give, yield, take, release, inquire, pose, advance"
  pub empty_name : why (codes "lift" ∷ codes "give" ∷ [] ∷ []) ≡ codes "field 3: no zone has this name"
  pub call_too_long : why (codes "low" ∷ codes "claim" ∷ codes "below" ∷ codes "now" ∷ [])
      ≡ codes "field 4: a record has at most three fields"
  pub advance : why (codes "high" ∷ codes "advance" ∷ codes "below" ∷ []) ≡ codes "field 3: no place has this name"
  pub pose : why (codes "high" ∷ codes "pose" ∷ codes "below" ∷ []) ≡ codes "field 3: no pose has this name"

-- ---- answers

abbrev pub answers : Text → Outcome → Answers
answers text outcome = record { text = text; outcome = outcome }

abbrev pub starts : Row
starts = codes "start" ∷ codes "010" ∷ codes "7" ∷ []

abbrev pub lift_claims : Row
lift_claims = codes "lift" ∷ codes "claim" ∷ codes "above" ∷ []

-- the lift claims a zone, which the upper floor then can't; a look at it; a stop, and a resumption
abbrev pub session : List Row
session =
    starts ∷ lift_claims ∷ (codes "high" ∷ codes "claim" ∷ codes "above" ∷ [])
    ∷ (codes "watch" ∷ codes "inquire" ∷ codes "above" ∷ []) ∷ (codes "watch" ∷ codes "stop" ∷ [])
    ∷ (codes "low" ∷ codes "claim" ∷ codes "below" ∷ []) ∷ (codes "watch" ∷ codes "resume" ∷ []) ∷ []

abbrev pub session_text : Text
session_text =
    codes "0 7 start 1\n" ++ codes "1 8 done\n" ++ codes "2 8 held lift\n" ++ codes "3 8 zone lift 0 closed\n"
    ++ codes "4 9 done\n" ++ codes "5 9 stopped\n" ++ codes "6 10 done\n"

-- a pose of the lift, and the same by another machine; a zone that its host, or a stranger, doesn't own; a second stop
abbrev pub other_session : List Row
other_session =
    (codes "start" ∷ codes "101" ∷ codes "9" ∷ []) ∷ (codes "lift" ∷ codes "pose" ∷ codes "away" ∷ [])
    ∷ (codes "low" ∷ codes "pose" ∷ codes "away" ∷ []) ∷ (codes "lift" ∷ codes "release" ∷ codes "below" ∷ [])
    ∷ (codes "low" ∷ codes "take" ∷ codes "above" ∷ []) ∷ (codes "watch" ∷ codes "stop" ∷ [])
    ∷ (codes "watch" ∷ codes "stop" ∷ []) ∷ (codes "low" ∷ codes "resume" ∷ []) ∷ []

abbrev pub other_text : Text
other_text =
    codes "0 9 start 2\n" ++ codes "1 10 done\n" ++ codes "2 10 nopose\n" ++ codes "3 10 notowner free\n"
    ++ codes "4 10 notparty\n" ++ codes "5 11 done\n" ++ codes "6 11 stopped\n" ++ codes "7 11 notparty\n"

pub record ScriptsAreAnswered : Type 0 where
  pub other : rows_answers floors other_session ≡ answers other_text Clean
  pub bad_first_row : rows_answers floors (starts ∷ [] ∷ lift_claims ∷ [])
      ≡ answers
      (codes "0 7 start 1\n" ++ codes "record 1, field 1: no machine has this name\n" ++ codes "fault badrow 1\n")
      (Refused (BadRow 1))
  pub bad_twelfth_row : answers_of floors 11 (middle 9) ((codes "low" ∷ codes "give" ∷ []) ∷ lift_claims ∷ [])
      ≡ answers (codes "record 12, field 3: a name is missing\n" ++ codes "fault badrow 12\n") (Refused (BadRow 12))
  pub none_left : answers_of floors 65536 (middle 9) [] ≡ answers [] Clean
  pub clean : rows_answers floors session ≡ answers session_text Clean
  -- a record that is no call ends the answers, whatever follows
  pub bad_row : rows_answers floors (starts ∷ lift_claims ∷ (codes "low" ∷ []) ∷ lift_claims ∷ [])
      ≡ answers
      (codes "0 7 start 1\n" ++ codes "1 8 done\n" ++ codes "record 2, field 2: a verb is missing\n"
      ++ codes "fault badrow 2\n")
      (Refused (BadRow 2))
  pub start_alone : rows_answers floors (starts ∷ []) ≡ answers (codes "0 7 start 1\n") Clean
  pub bad_start : rows_answers floors ((codes "start" ∷ []) ∷ lift_claims ∷ [])
      ≡ answers (codes "fault badstart\n") (Refused BadStart)
  pub no_start : rows_answers floors (lift_claims ∷ []) ≡ answers (codes "fault nostart\n") (Refused NoStart)
  pub no_records : rows_answers floors [] ≡ answers (codes "fault nostart\n") (Refused NoStart)
  -- the last record that is answered
  pub last : answers_of floors 65535 (middle 9) (lift_claims ∷ lift_claims ∷ [])
      ≡ answers (codes "65536 10 done\n" ++ codes "fault long\n") (Refused Long)

abbrev pub script : Text
script = codes "start,010,7\nlift,claim,above\n\"watch\",stop\n"

-- the bytes of a script, and those after a mark of byte order
pub record ScriptsAreCut : Type 0 where
  pub whole : script_answers floors script
      ≡ answers (codes "0 7 start 1\n" ++ codes "1 8 done\n" ++ codes "2 9 done\n") Clean
  pub start : script_start floors script ≡ Ok (middle 7)
  pub empty : script_answers floors [] ≡ answers (codes "fault nostart\n") (Refused NoStart)
  pub marked : script_answers floors (239 ∷ 187 ∷ 191 ∷ script)
      ≡ answers (codes "0 7 start 1\n" ++ codes "1 8 done\n" ++ codes "2 9 done\n") Clean
  pub marked_start : script_start floors (239 ∷ 187 ∷ 191 ∷ script) ≡ Ok (middle 7)
  pub mark_alone : script_answers floors (239 ∷ 187 ∷ 191 ∷ []) ≡ answers (codes "fault nostart\n") (Refused NoStart)

-- a mark of byte order before a script is no part of its first field
pub record MarksAreLeftOut : Type 0 where
  pub answered : (script : List ℕ)
      → script_answers floors (239 ∷ 187 ∷ 191 ∷ script) ≡ rows_answers floors (records default_config script)
  pub started : (script : List ℕ)
      → script_start floors (239 ∷ 187 ∷ 191 ∷ script) ≡ rows_start floors (records default_config script)
