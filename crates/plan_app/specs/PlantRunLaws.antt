-- A replay answers each script in what a run of a plant has printed, by the plan of its word, as machines were answered.
use Rattle.std.specs.Prelude.{◌≡◌, ℕ, Bool, List, [], slice_get, Some}
use Rattle.plan_types.specs.declared.answer.Event.{Event}
use Rattle.plan_rules.specs.declared.state.State.{State}
use Rattle.plan_rules.specs.History.{IsLegal}
use Rattle.plan_explorer.specs.Plants.{state_on}
use Rattle.plan_text.specs.Histories.{script_of}
use Rattle.plan_document.specs.Plants.{IsPlantIn}
use Rattle.plan_document.specs.declared.plants.ProgrammedPlant.{ProgrammedPlant}
use Rattle.plan_document.specs.declared.resolving.ProgrammedPlan.{ProgrammedPlan}
use Rattle.plan_picture.specs.PictureLaws.{Has}
use Rattle.plan_app.specs.Input.{document_in, script_in}
use Rattle.plan_app.specs.PlantRunTexts.{history_on, part_by}
use Rattle.plan_app.specs.PlantRuns.{AreStartsOf, TellsPlantRun}
use Rattle.plan_app.specs.RunLaws.{IsReplayedAs}
use Rattle.plan_app.specs.Served.{RunsWords}

-- a text has a word's part, in which the script of a legal history of the word comes after a comment; and each input that
-- has this script is answered as the history says, by the word's plan
pub record HasPart (plan : ProgrammedPlan) (word : ℕ) (start : State) (history : List Event) (text : List ℕ) : Type 0 where
  pub legal : IsLegal plan.named.plan start history
  pub part : Has text (part_by plan.named word start history)
  pub script : script_in (part_by plan.named word start history) ≡ script_of plan.named start history
  pub replayed : (input : List ℕ) → script_in input ≡ script_of plan.named start history
      → IsReplayedAs plan.named start history (script_in input)

-- what tells a run has the part of each word
abbrev pub PlantRunsAreReplayed : Type 0
PlantRunsAreReplayed =
    (document : List ℕ) (plant : ProgrammedPlant) (turns : ℕ) (starts : List State) (fine : Bool) (text : List ℕ)
    → IsPlantIn document plant → AreStartsOf plant.plans.items starts → (run : TellsPlantRun plant turns starts fine text)
    → (word : ℕ) (plan : ProgrammedPlan) → slice_get plant.plans.items word ≡ Some plan
    → HasPart plan word (state_on starts word) (history_on run.histories word) text

-- so has what is written with status 0
abbrev pub PlantWritingsAreReplayed : Type 0
PlantWritingsAreReplayed =
    (turns : ℕ) (bytes text : List ℕ) → RunsWords turns (Some bytes) (Some []) (Some text)
    → (plant : ProgrammedPlant) × IsPlantIn (document_in bytes) plant
    × ((word : ℕ) (plan : ProgrammedPlan) → slice_get plant.plans.items word ≡ Some plan
    → (start : State) × (history : List Event) × HasPart plan word start history text)
