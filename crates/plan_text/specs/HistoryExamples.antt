-- Literal examples of the scripts of histories, by a lift between two floors.
use Rattle.std.specs.Prelude.{◌≡◌, ℕ, true, false, List, [], ◌∷◌, ◌++◌, codes, map, replicate, Some}
use Rattle.plan_types.specs.declared.answer.Answer.{Answer}
use Rattle.plan_types.specs.declared.answer.Answer.TheVariants.{Done, Shown, Refused}
use Rattle.plan_types.specs.declared.answer.Refusal.TheVariants.{Held, NoPose, Stopped}
use Rattle.plan_types.specs.declared.answer.Event.{Event}
use Rattle.plan_types.specs.declared.call.Call.{Call}
use Rattle.plan_types.specs.declared.call.Call.TheVariants as call
use Rattle.plan_types.specs.declared.posture.Posture.TheVariants.{Closed}
use Rattle.plan_rules.specs.State.{start_state}
use Rattle.plan_text.specs.Histories.{answer_lines, caller_word, digits_of, event_line, line_of_row, script_of}
use Rattle.plan_text.specs.Histories.{stamp_fields, start_row}
use Rattle.plan_text.specs.ScriptExamples.{middle}
use Rattle.plan_text.specs.WordExamples.{floors}

abbrev pub event : ℕ → Call → Answer → Event
event machine call answer = record { machine = machine; call = call; answer = answer }

-- an event of each verb, of each machine and of the watch
abbrev pub each_verb : List Event
each_verb =
    event 0 (call.Claim 1) Done ∷ event 1 (call.Give 0) Done ∷ event 2 (call.Yield 1) Done ∷ event 0 (call.Take 0) Done
    ∷ event 1 (call.Release 0) Done ∷ event 2 (call.Inquire 1) Done ∷ event 2 (call.SetPose 3) Done
    ∷ event 30 call.Stop Done ∷ event 0 call.Resume Done ∷ event 1 (call.Advance 1) Done ∷ []

-- the lift claims a zone, which the upper floor then can't; the watch stops the plant, and the lower floor is barred
abbrev pub session : List Event
session =
    event 0 (call.Claim 1) Done ∷ event 2 (call.Claim 1) (Refused (Held 0))
    ∷ event 30 (call.Inquire 1) (Shown (Some 0) false Closed) ∷ event 30 call.Stop Done
    ∷ event 1 (call.Claim 0) (Refused Stopped) ∷ []

pub record ScriptsOfHistories : Type 0 where
  -- done and refused calls are written alike
  pub whole : script_of floors (middle 7) session
      ≡ codes "start,010,7\nlift,claim,above\nhigh,claim,above\nwatch,inquire,above\nwatch,stop\nlow,claim,below\n"
  pub not_stamped : script_of floors (middle 0) (event 0 (call.SetPose 0) Done ∷ [])
      ≡ codes "start,010\nlift,pose,away\n"
  pub nothing : script_of floors (middle 1048575) [] ≡ codes "start,010,1048575\n"
  pub lines : map (event_line floors) each_verb
      ≡ codes "lift,claim,above\n" ∷ codes "low,give,below\n" ∷ codes "high,yield,above\n" ∷ codes "lift,take,below\n"
      ∷ codes "low,release,below\n" ∷ codes "high,inquire,above\n" ∷ codes "high,pose,away\n" ∷ codes "watch,stop\n"
      ∷ codes "lift,resume\n" ∷ codes "low,advance,ground\n" ∷ []
  -- of a name that two machines' poses have, the record is the same
  pub same_name : map (event_line floors)
      (event 1 (call.SetPose 1) Done ∷ event 1 (call.SetPose 2) (Refused NoPose) ∷ [])
      ≡ codes "low,pose,open\n" ∷ codes "low,pose,open\n" ∷ []
  pub digits : map (λ count. digits_of count (middle 7)) (0 ∷ 1 ∷ 2 ∷ 3 ∷ 4 ∷ [])
      ≡ [] ∷ codes "0" ∷ codes "01" ∷ codes "010" ∷ codes "0100" ∷ []
  pub last_place : digits_of 16 (start_state (replicate 15 false ++ true ∷ []) 0) ≡ codes "0000000000000001"
  pub stamps : map stamp_fields (0 ∷ 1 ∷ 1048575 ∷ [])
      ≡ [] ∷ (codes "1" ∷ []) ∷ (codes "1048575" ∷ []) ∷ []
  pub start : start_row floors (middle 0) ≡ codes "start" ∷ codes "010" ∷ []
  pub callers : map (caller_word floors) (0 ∷ 1 ∷ 2 ∷ 3 ∷ 30 ∷ 31 ∷ [])
      ≡ codes "lift" ∷ codes "low" ∷ codes "high" ∷ [] ∷ codes "watch" ∷ [] ∷ []
  pub fields : map line_of_row ([] ∷ (codes "ab" ∷ []) ∷ (codes "ab" ∷ [] ∷ codes "c" ∷ []) ∷ [])
      ≡ codes "\n" ∷ codes "ab\n" ∷ codes "ab,,c\n" ∷ []
  -- each event's own answer is told, after its number and the stamp after it
  pub answered : answer_lines floors 1 (middle 7) session
      ≡ codes "1 8 done\n2 8 held lift\n3 8 zone lift 0 closed\n4 9 done\n5 9 stopped\n"
  pub other_answer : answer_lines floors 12 (middle 7) (event 0 (call.Claim 1) (Refused NoPose) ∷ [])
      ≡ codes "12 8 nopose\n"
