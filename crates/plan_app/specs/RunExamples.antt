-- Literal examples of what `plan run` prints, by a lift between two floors.
use Rattle.std.specs.Prelude.{◌≡◌, ℕ, true, false, List, [], ◌∷◌, ◌++◌, codes, map, Option, Some, None}
use Rattle.plan_types.specs.declared.answer.Answer.{Answer}
use Rattle.plan_types.specs.declared.answer.Answer.TheVariants.{Done, Shown, Refused}
use Rattle.plan_types.specs.declared.answer.Refusal.{Refusal}
use Rattle.plan_types.specs.declared.answer.Refusal.TheVariants.{Held, Jump}
use Rattle.plan_types.specs.declared.answer.Event.{Event}
use Rattle.plan_types.specs.declared.call.Call.{Call}
use Rattle.plan_types.specs.declared.call.Call.TheVariants as call
use Rattle.plan_types.specs.declared.posture.Posture.TheVariants.{Closed}
use Rattle.plan_text.specs.ScriptExamples.{middle}
use Rattle.plan_text.specs.WordExamples.{floors}
use Rattle.plan_app.specs.RunTexts.{are_fine, are_own, comments_of, head_line, history_line, is_own_call, machine_line}
use Rattle.plan_app.specs.RunTexts.{run_text, stop_line}

abbrev pub event : ℕ → Call → Answer → Event
event machine call answer = record { machine = machine; call = call; answer = answer }

-- the lift claims a zone, which the upper floor then can't, twice; and looks at it
abbrev pub session : List Event
session =
    event 0 (call.Claim 1) Done ∷ event 2 (call.Claim 1) (Refused (Held 0))
    ∷ event 0 (call.Inquire 1) (Shown (Some 0) false Closed) ∷ event 2 (call.Claim 1) (Refused (Held 0)) ∷ []

abbrev pub last_stopped : List (Option Refusal)
last_stopped = None ∷ None ∷ Some Jump ∷ []

pub record RunTextsAreTold : Type 0 where
  pub whole : run_text floors 2 (middle 7) session last_stopped
      ≡ codes "# 3 machines took 2 turns each, in threads of their own, at one pace\n"
      ++ codes "# lift: 1 call done, 0 refused\n"
      ++ codes "# low: 0 calls done, 0 refused\n"
      ++ codes "# high: 0 calls done, 2 refused\n"
      ++ codes "# high: stopped by jump\n"
      ++ codes "# journals: one legal history of 4 calls\n"
      ++ codes "start,010,7\n"
      ++ codes "lift,claim,above\n"
      ++ codes "high,claim,above\n"
      ++ codes "lift,inquire,above\n"
      ++ codes "high,claim,above\n"
  pub nothing : comments_of floors 1 [] (None ∷ None ∷ None ∷ [])
      ≡ codes "# 3 machines took 1 turn each, in threads of their own, at one pace\n"
      ++ codes "# lift: 0 calls done, 0 refused\n"
      ++ codes "# low: 0 calls done, 0 refused\n"
      ++ codes "# high: 0 calls done, 0 refused\n"
      ++ codes "# journals: one legal history of 0 calls\n"
  pub one : head_line 1 1 ≡ codes "# 1 machine took 1 turn each, in threads of their own, at one pace\n"
  pub one_call : history_line None 1 ≡ codes "# journals: one legal history of 1 call\n"
  pub on_word : history_line (Some 12) 64 ≡ codes "# word 12: journals: one legal history of 64 calls\n"
  pub of_lift : machine_line floors session 0 ≡ codes "# lift: 1 call done, 0 refused\n"
  pub stopped : map (λ stop. stop_line floors stop 1) (None ∷ Some (Held 2) ∷ [])
      ≡ [] ∷ codes "# low: stopped by held high\n" ∷ []
  pub fine : map are_fine ([] ∷ (None ∷ None ∷ []) ∷ last_stopped ∷ (Some Jump ∷ None ∷ []) ∷ [])
      ≡ true ∷ true ∷ false ∷ false ∷ []
  -- a pose is the machine's own, a zone one of the plan
  pub own : map (is_own_call floors 2)
      (call.SetPose 2 ∷ call.SetPose 1 ∷ call.SetPose 4 ∷ call.Claim 1 ∷ call.Claim 2 ∷ [])
      ≡ true ∷ false ∷ false ∷ true ∷ false ∷ []
  pub all_own : are_own floors session ≡ true
  pub foreign : are_own floors (event 0 (call.Claim 1) Done ∷ event 1 (call.SetPose 0) Done ∷ []) ≡ false
  pub stranger : are_own floors (event 3 (call.Claim 1) Done ∷ []) ≡ false
  pub of_watch : are_own floors (event 30 call.Stop Done ∷ []) ≡ true
