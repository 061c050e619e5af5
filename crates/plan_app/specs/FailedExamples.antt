-- What was written where the program failed: the lines of faults, and what a run says of the plan in its input.
use Rattle.std.specs.Prelude.{◌≡◌, ◌≢◌, ℕ, List, [], ◌∷◌, ◌++◌, codes, Option, Some, None, Ok}
use Rattle.plan_rules.specs.declared.state.State.{State}
use Rattle.plan_text.specs.Names.{Text}
use Rattle.plan_text.specs.Script.{script_start}
use Rattle.plan_document.specs.Plants.{IsPlantIn}
use Rattle.plan_document.specs.declared.plants.ProgrammedPlant.{ProgrammedPlant}
use Rattle.plan_document.specs.declared.resolving.ProgrammedPlan.{ProgrammedPlan}
use Rattle.plan_app.specs.Apart.{TellsLarge, told_of}
use Rattle.plan_app.specs.Asked.{IsAsked, no_word_text}
use Rattle.plan_app.specs.Failed.{Fails, FailsBy, IsOfDocument, WroteEnd, WroteExploration, WroteFault}
use Rattle.plan_app.specs.Failed.{FailsExploreWords, FailsRunWords, FailsWords, WroteNoWord, WrotePage, WrotePageText}
use Rattle.plan_app.specs.Failed.{WrotePlantRunText, WrotePlantText, WroteWords}
use Rattle.plan_app.specs.Input.{document_in, script_in}
use Rattle.plan_app.specs.PlantStarts.{plant_start}
use Rattle.plan_app.specs.declared.request.PlantRequest.{PlantRequest}
use Rattle.plan_app.specs.declared.request.Request.{Request}
use Rattle.plan_app.specs.declared.request.Request.TheVariants.{Explore}

-- these bytes were written of a fault, and nothing before them
abbrev pub WroteOf : Text → Text → Type 0
WroteOf words new = WroteFault words (Some []) (Some new)

pub record FaultLines : Type 0 where
  pub whole : WroteOf (codes "large") (codes "fault large\n")
  pub in_part : WroteOf (codes "large") (codes "fault la")
  pub nothing : WroteOf (codes "large") []
  pub after : WroteFault (codes "read") (Some (codes "a")) (Some (codes "afault read\n"))
  pub other : ¬ WroteOf (codes "large") (codes "fault long\n")
  pub bare : ¬ WroteOf (codes "large") (codes "large\n")
  pub twice : ¬ WroteOf (codes "read") (codes "fault read\nfault read\n")
  pub of_document : IsOfDocument (codes "plan line 7: machine 2: name: it is missing")
  pub of_input : ¬ IsOfDocument (codes "read")
  pub of_start : ¬ IsOfDocument (codes "nostart")
  pub of_size : ¬ IsOfDocument (codes "large")
  pub of_planning : ¬ IsOfDocument (codes "planned")
  pub of_nothing : ¬ IsOfDocument []

-- bytes were written that the line of no fault begins with
pub record AreNoFault (new : Text) : Type 0 where
  pub first : ℕ
  pub rest : Text
  pub are : new ≡ first ∷ rest
  pub other : first ≢ 102

pub record FailedIsMeant : Type 0 where
  -- what is no fault is what was asked for, by the plan of the document in the input
  pub asked : (word : Option ℕ) (request : Request) (bytes new : Text) → AreNoFault new
      → Fails word request (Some bytes) (Some []) (Some new)
      → (plan : ProgrammedPlan) × IsAsked word (document_in bytes) plan
      × FailsBy request plan (script_in bytes) (Some []) (Some new)
  -- of an exploration it is what was found, from the start of the script
  pub explored : (most : ℕ) (plan : ProgrammedPlan) (script new : Text) → AreNoFault new
      → WroteEnd most plan script (Some []) (Some new)
      → (opening : State) × (script_start plan.named script ≡ Ok opening)
      × WroteExploration plan opening (Some []) (Some new)
  -- of its page it is the page, or what is printed without one
  pub paged : (most : ℕ) (plan : ProgrammedPlan) (script new : Text) → AreNoFault new
      → WrotePage most plan script (Some []) (Some new)
      → (opening : State) × (script_start plan.named script ≡ Ok opening)
      × WrotePageText plan opening (Some []) (Some new)
  -- where `fault large: ` was written, turns lead to more situations than were to be explored, of a group or of all
  -- machines, and the words say which, and how far the exploration came
  pub large : (word : Option ℕ) (most : ℕ) (bytes rest : Text)
      → Fails word (Explore most) (Some bytes) (Some []) (Some (codes "fault large: " ++ rest))
      → (plan : ProgrammedPlan) × IsAsked word (document_in bytes) plan
      × (opening : State) × (script_start plan.named (script_in bytes) ≡ Ok opening)
      × (words : Text) × TellsLarge most (told_of plan.named plan.programs opening) words
      × WroteOf words (codes "fault large: " ++ rest)
  -- of the words of a plant it is what is said of them, or their header, or their picture
  pub words : (request : PlantRequest) (bytes new : Text) → AreNoFault new
      → FailsWords request (Some bytes) (Some []) (Some new)
      → WroteWords request (document_in bytes) (Some []) (Some new)
  -- of an exploration of all words together it is what was found, from the start of the script
  pub words_explored : (most : ℕ) (bytes new : Text) → AreNoFault new
      → FailsExploreWords most (Some bytes) (Some []) (Some new)
      → (plant : ProgrammedPlant) × IsPlantIn (document_in bytes) plant
      × (openings : List State) × (plant_start plant (script_in bytes) ≡ Ok openings)
      × WrotePlantText plant openings (Some []) (Some new)
  -- and of a run on all words it is what machines did
  pub words_run : (turns : ℕ) (bytes new : Text) → AreNoFault new
      → FailsRunWords turns (Some bytes) (Some []) (Some new)
      → (plant : ProgrammedPlant) × IsPlantIn (document_in bytes) plant
      × (openings : List State) × (plant_start plant (script_in bytes) ≡ Ok openings)
      × WrotePlantRunText turns plant openings (Some []) (Some new)
  -- a plan that is asked for of no word is never refused for its number
  pub no_number : (document old new : Text) → ¬ WroteNoWord None document (Some old) (Some new)

-- that a plant has no word with a number
pub record NumbersAreRefused : Type 0 where
  pub four : no_word_text 7 4 ≡ codes "plan has no word 7: it has words 0 to 3"
  pub two : no_word_text 2 2 ≡ codes "plan has no word 2: it has words 0 to 1"
  pub one : no_word_text 12 1 ≡ codes "plan has no word 12: it has word 0 alone"
  pub of_document : IsOfDocument (no_word_text 9999999 16)
