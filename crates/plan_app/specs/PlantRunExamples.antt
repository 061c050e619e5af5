-- Literal examples of what `plan run --words` prints, by a lift between two floors whose zones are on two words; on which
-- word a machine stops; and a plant on one word.
use Rattle.std.specs.Prelude.{◌≡◌, ℕ, ◌++◌, true, false, List, [], ◌∷◌, codes, flat_map, length, map, option_map}
use Rattle.std.specs.Prelude.{Option, Some, None}
use Rattle.std.specs.List.{range_with_len}
use Rattle.plan_types.specs.declared.answer.Answer.TheVariants.{Done, Refused}
use Rattle.plan_types.specs.declared.answer.Event.{Event}
use Rattle.plan_types.specs.declared.answer.Refusal.{Refusal}
use Rattle.plan_types.specs.declared.answer.Refusal.TheVariants.{Held, Jump, PlateInZone}
use Rattle.plan_types.specs.declared.call.Call.TheVariants as call
use Rattle.plan_rules.specs.declared.state.State.{State}
use Rattle.plan_header.specs.HeaderExamples.{lift}
use Rattle.plan_text.specs.Histories.{script_of}
use Rattle.plan_text.specs.ScriptExamples.{middle}
use Rattle.plan_text.specs.WordExamples.{floors}
use Rattle.plan_document.specs.declared.resolving.ProgrammedPlan.{ProgrammedPlan}
use Rattle.plan_workers.specs.PlantTurns.{PlantControl, plant_control}
use Rattle.plan_workers.specs.declared.routed_step.RoutedStep.TheVariants.{Await, Run}
use Rattle.plan_app.specs.PlantRuns.{word_at}
use Rattle.plan_app.specs.PlantRunTexts.{are_fine, are_own_on_each, plant_run_text, stop_on}
use Rattle.plan_app.specs.RunExamples.{event, session}
use Rattle.plan_app.specs.RunTexts.{head_line, history_line, machine_lines}
use Rattle.plan_app.specs.declared.plant_run_text.PlantStop.{PlantStop}

abbrev pub stop : ℕ → Refusal → Option PlantStop
stop word refusal = Some (record { word = word; refusal = refusal })

-- on the second word the lift claims a zone, which the upper floor then can't
abbrev pub later : List Event
later = event 0 (call.Claim 1) Done ∷ event 2 (call.Claim 1) (Refused (Held 0)) ∷ []

-- of a plant whose words have these plans
pub record PlantRunsAreTold (first second : ProgrammedPlan) : Type 0 where
  pub whole : plant_run_text (first ∷ second ∷ []) 2 (middle 7 ∷ middle 0 ∷ []) (session ∷ later ∷ [])
      (None ∷ None ∷ stop 1 (PlateInZone 1) ∷ [])
      ≡ codes "# 3 machines took 2 turns each, in threads of their own, at one pace\n"
      ++ codes "# lift: 2 calls done, 0 refused\n"
      ++ codes "# low: 0 calls done, 0 refused\n"
      ++ codes "# high: 0 calls done, 3 refused\n"
      ++ codes "# high: stopped by platein upper\n"
      ++ codes "# word 0: journals: one legal history of 4 calls\n"
      ++ codes "start,010,7\n"
      ++ codes "lift,claim,above\n"
      ++ codes "high,claim,above\n"
      ++ codes "lift,inquire,above\n"
      ++ codes "high,claim,above\n"
      ++ codes "# word 1: journals: one legal history of 2 calls\n"
      ++ codes "start,010\n"
      ++ codes "lift,claim,upper\n"
      ++ codes "high,claim,upper\n"
  -- a stop is told by the names of its word
  pub on_first : stop_on (first ∷ second ∷ []) (stop 0 (PlateInZone 1)) 1 ≡ codes "# low: stopped by platein above\n"
  pub fine : map are_fine ([] ∷ (None ∷ None ∷ []) ∷ (None ∷ stop 0 Jump ∷ []) ∷ []) ≡ true ∷ true ∷ false ∷ []
  -- each call is its machine's own, on each word
  pub own : are_own_on_each (first ∷ second ∷ []) (session ∷ later ∷ []) ≡ true
  pub foreign : are_own_on_each (first ∷ second ∷ []) (session ∷ (event 1 (call.SetPose 0) Done ∷ []) ∷ []) ≡ false

abbrev pub PlantRunTextsAreTold : Type 0
PlantRunTextsAreTold =
    (first second : ProgrammedPlan) → first.named ≡ floors → second.named ≡ lift → PlantRunsAreTold first second

-- a machine stops on the word of the step at which it is
abbrev pub at : ℕ → PlantControl
at place = plant_control 2 2 (Await 1 0 ∷ Await 0 3 ∷ Run 1 0 ∷ []) place None

abbrev pub StopsAreOfSteps : Type 0
StopsAreOfSteps = map (λ place. word_at (at place)) (0 ∷ 1 ∷ 2 ∷ []) ≡ 1 ∷ 0 ∷ 0 ∷ []

-- a plant on one word is told as its plan, but for the word's number
abbrev pub on_word_0 : List (Option Refusal) → List (Option PlantStop)
on_word_0 stops = map (option_map (λ refusal. record { word = 0; refusal = refusal })) stops

abbrev pub OneWordRunsAsPlan : Type 0
OneWordRunsAsPlan =
    (plan : ProgrammedPlan) (turns : ℕ) (start : State) (history : List Event) (stops : List (Option Refusal))
    → plant_run_text (plan ∷ []) turns (start ∷ []) (history ∷ []) (on_word_0 stops)
    ≡ (head_line turns plan.named.plan.machines
    ++ flat_map (machine_lines plan.named history stops) (range_with_len 0 plan.named.plan.machines))
    ++ (history_line (Some 0) (length history) ++ script_of plan.named start history)
