-- What the program has written, by the plan of the document in its input.
use Rattle.std.specs.Prelude.{◌≡◌, ℕ, true, List, Option, Ok, IfSome}
use Rattle.std.specs.Io.KnownBytes.{Appends}
use Rattle.plan_rules.specs.declared.state.State.{State}
use Rattle.plan_explorer.specs.Programs.{PlanPrograms}
use Rattle.plan_text.specs.Named.{Named}
use Rattle.plan_document.specs.Plants.{IsPlantIn}
use Rattle.plan_document.specs.declared.plants.ProgrammedPlant.{ProgrammedPlant}
use Rattle.plan_document.specs.declared.resolving.ProgrammedPlan.{ProgrammedPlan}
use Rattle.csv_rows.specs.declared.script_end.Outcome.TheVariants.{Clean}
use Rattle.plan_text.specs.Script.{script_answers, script_start}
use Rattle.plan_header.specs.Printed.{header_of}
use Rattle.plan_header.specs.Modules.{module_text}
use Rattle.plan_header.specs.PlantHeaders.{plant_header_text}
use Rattle.plan_picture.specs.Pictures.{IsPicture}
use Rattle.plan_app.specs.Apart.{TellsExploration, told_of}
use Rattle.plan_app.specs.Asked.{IsAsked}
use Rattle.plan_app.specs.Input.{document_in, script_in}
use Rattle.plan_app.specs.Hazards.{TellsReport, start_if}
use Rattle.plan_app.specs.OnWords.{TellsWords}
use Rattle.plan_app.specs.PlantPictures.{IsPlantPicture}
use Rattle.plan_app.specs.PlantRuns.{TellsPlantRun}
use Rattle.plan_app.specs.PlantScreens.{told_of as of_plant}
use Rattle.plan_app.specs.PlantStarts.{plant_start}
use Rattle.plan_app.specs.RunPages.{ShowsRun}
use Rattle.plan_app.specs.Runs.{TellsRun}
use Rattle.plan_app.specs.Screens.{TellsFree}
use Rattle.plan_app.specs.declared.request.PlantRequest.{PlantRequest}
use Rattle.plan_app.specs.declared.request.PlantRequest.TheVariants.{Draw, Header, Listing}
use Rattle.plan_app.specs.declared.request.Together.{Together}
use Rattle.plan_app.specs.declared.request.Together.TheVariants as together

-- ---- by a plan

-- each record of a script was answered, and the answers were written, and nothing else
abbrev pub AnswersScript : Named → List ℕ → Option (List ℕ) → Option (List ℕ) → Type 0
AnswersScript n script old new =
    ((script_answers n script).outcome ≡ Clean) × Appends old new (script_answers n script).text

-- that no programs stand still, from a start, and none starves, of all machines together, was written, and nothing else
abbrev pub WritesFree : Named → PlanPrograms → State → Option (List ℕ) → Option (List ℕ) → Type 0
WritesFree n ps opening old new = (text : List ℕ) × TellsFree n ps opening text × Appends old new text

-- or the same of each group
abbrev pub WritesExploration : Named → PlanPrograms → State → Option (List ℕ) → Option (List ℕ) → Type 0
WritesExploration n ps opening old new =
    (text : List ℕ) × TellsExploration (told_of n ps opening) true text × Appends old new text

-- the start is the script's
abbrev pub Explores : ProgrammedPlan → List ℕ → Option (List ℕ) → Option (List ℕ) → Type 0
Explores plan script old new =
    (opening : State) × (script_start plan.named script ≡ Ok opening)
    × WritesExploration plan.named plan.programs opening old new

-- or of all machines together
abbrev pub FindsFree : ProgrammedPlan → List ℕ → Option (List ℕ) → Option (List ℕ) → Type 0
FindsFree plan script old new =
    (opening : State) × (script_start plan.named script ≡ Ok opening)
    × WritesFree plan.named plan.programs opening old new

-- a report, with turns from the script's start if it has one, by which the motors of each hazard are kept apart, was
-- written, and nothing else
abbrev pub WritesReport : ℕ → ProgrammedPlan → List ℕ → Option (List ℕ) → Option (List ℕ) → Type 0
WritesReport most plan script old new =
    (text : List ℕ) × TellsReport most plan (start_if (script_start plan.named script)) true text × Appends old new text

-- a picture of the plan was written, and nothing else
abbrev pub WritesPicture : ProgrammedPlan → Option (List ℕ) → Option (List ℕ) → Type 0
WritesPicture plan old new = (text : List ℕ) × IsPicture plan text × Appends old new text

-- what machines did in a run from a start, none of them stopped, and the script of their history were written, and
-- nothing else
abbrev pub WritesRunFrom : ProgrammedPlan → ℕ → State → Option (List ℕ) → Option (List ℕ) → Type 0
WritesRunFrom plan turns start old new = (text : List ℕ) × TellsRun plan turns start true text × Appends old new text

-- the start is the script's
abbrev pub WritesRun : ProgrammedPlan → ℕ → List ℕ → Option (List ℕ) → Option (List ℕ) → Type 0
WritesRun plan turns script old new =
    (start : State) × (script_start plan.named script ≡ Ok start) × WritesRunFrom plan turns start old new

-- or the page of that history
abbrev pub WritesRunPageFrom : ProgrammedPlan → ℕ → State → Option (List ℕ) → Option (List ℕ) → Type 0
WritesRunPageFrom plan turns start old new =
    (text : List ℕ) × ShowsRun plan turns start true text × Appends old new text

abbrev pub WritesRunPage : ProgrammedPlan → ℕ → List ℕ → Option (List ℕ) → Option (List ℕ) → Type 0
WritesRunPage plan turns script old new =
    (start : State) × (script_start plan.named script ≡ Ok start) × WritesRunPageFrom plan turns start old new

-- ---- by the plan that is asked for of the document in these bytes: its own, or that of one word of its plant

-- the script after it was answered
abbrev pub AnswersIn : Option ℕ → List ℕ → Option (List ℕ) → Option (List ℕ) → Type 0
AnswersIn word bytes old new =
    (plan : ProgrammedPlan) × IsAsked word (document_in bytes) plan × AnswersScript plan.named (script_in bytes) old new

-- its programs were found free, of standstills and of machines that starve, from the start of the script after it
abbrev pub FindsFreeIn : Option ℕ → List ℕ → Option (List ℕ) → Option (List ℕ) → Type 0
FindsFreeIn word bytes old new =
    (plan : ProgrammedPlan) × IsAsked word (document_in bytes) plan × FindsFree plan (script_in bytes) old new

-- or those of each group
abbrev pub ExploresIn : Option ℕ → List ℕ → Option (List ℕ) → Option (List ℕ) → Type 0
ExploresIn word bytes old new =
    (plan : ProgrammedPlan) × IsAsked word (document_in bytes) plan × Explores plan (script_in bytes) old new

-- its report was written, by which the motors of each hazard are kept apart, and nothing else
abbrev pub ReportsIn : Option ℕ → ℕ → List ℕ → Option (List ℕ) → Option (List ℕ) → Type 0
ReportsIn word most bytes old new =
    (plan : ProgrammedPlan) × IsAsked word (document_in bytes) plan × WritesReport most plan (script_in bytes) old new

-- or its header
abbrev pub WritesHeaderIn : Option ℕ → List ℕ → Option (List ℕ) → Option (List ℕ) → Type 0
WritesHeaderIn word bytes old new =
    (plan : ProgrammedPlan) × IsAsked word (document_in bytes) plan
    × Appends old new (header_of plan)

-- or its module
abbrev pub WritesModuleIn : Option ℕ → List ℕ → Option (List ℕ) → Option (List ℕ) → Type 0
WritesModuleIn word bytes old new =
    (plan : ProgrammedPlan) × IsAsked word (document_in bytes) plan
    × Appends old new (module_text plan.named plan.motors.names plan.motors.motors.items)

-- or its picture
abbrev pub WritesPictureIn : Option ℕ → List ℕ → Option (List ℕ) → Option (List ℕ) → Type 0
WritesPictureIn word bytes old new =
    (plan : ProgrammedPlan) × IsAsked word (document_in bytes) plan × WritesPicture plan old new

-- or a run of its machines
abbrev pub WritesRunIn : Option ℕ → ℕ → List ℕ → Option (List ℕ) → Option (List ℕ) → Type 0
WritesRunIn word turns bytes old new =
    (plan : ProgrammedPlan) × IsAsked word (document_in bytes) plan × WritesRun plan turns (script_in bytes) old new

-- or the page of one
abbrev pub WritesRunPageIn : Option ℕ → ℕ → List ℕ → Option (List ℕ) → Option (List ℕ) → Type 0
WritesRunPageIn word turns bytes old new =
    (plan : ProgrammedPlan) × IsAsked word (document_in bytes) plan × WritesRunPage plan turns (script_in bytes) old new

-- ---- by the plant of the document in these bytes

-- what its words have was written, and that some word keeps the motors of each hazard apart, and nothing else
abbrev pub WritesListing : List ProgrammedPlan → Option (List ℕ) → Option (List ℕ) → Type 0
WritesListing plans old new = (text : List ℕ) × TellsWords plans true text × Appends old new text

-- or their picture
abbrev pub WritesDrawing : List ProgrammedPlan → Option (List ℕ) → Option (List ℕ) → Type 0
WritesDrawing plans old new = (text : List ℕ) × IsPlantPicture plans text × Appends old new text

-- or one header of all of them
abbrev pub WritesAsked : PlantRequest → List ProgrammedPlan → Option (List ℕ) → Option (List ℕ) → Type 0
WritesAsked Listing plans old new = WritesListing plans old new
WritesAsked Header plans old new = Appends old new (plant_header_text plans)
WritesAsked Draw plans old new = WritesDrawing plans old new

abbrev pub WritesPlant : PlantRequest → List ℕ → Option (List ℕ) → Option (List ℕ) → Type 0
WritesPlant request document old new =
    (plant : ProgrammedPlant) × IsPlantIn document plant × WritesAsked request plant.plans.items old new

abbrev pub WritesWordsIn : PlantRequest → List ℕ → Option (List ℕ) → Option (List ℕ) → Type 0
WritesWordsIn request bytes old new = WritesPlant request (document_in bytes) old new

-- that its programs never stand still, of all words together, from these openings, and none starves, of each group or
-- of all machines, was written, and nothing else
abbrev pub WritesPlantFree : ProgrammedPlant → List State → Option (List ℕ) → Option (List ℕ) → Type 0
WritesPlantFree plant openings old new =
    (text : List ℕ) × TellsExploration (of_plant plant.plans.items plant.programs.programs openings) true text
    × Appends old new text

-- what machines did in a run on all words from these openings, none of them stopped, and of each word the script of its
-- history, were written, and nothing else
abbrev pub WritesPlantRun : ℕ → ProgrammedPlant → List State → Option (List ℕ) → Option (List ℕ) → Type 0
WritesPlantRun turns plant openings old new =
    (text : List ℕ) × TellsPlantRun plant turns openings true text × Appends old new text

-- what is written of a plant on all words together, from openings
abbrev pub Writing : Type 1
Writing = ProgrammedPlant → List State → Option (List ℕ) → Option (List ℕ) → Type 0

abbrev pub writes_of : Together → Writing
writes_of (together.Explore most) = WritesPlantFree
writes_of (together.Run turns) = WritesPlantRun turns

-- from those of a script
abbrev pub FromScript : Writing → ProgrammedPlant → List ℕ → Option (List ℕ) → Option (List ℕ) → Type 0
FromScript writes plant script old new =
    (openings : List State) × (plant_start plant script ≡ Ok openings) × writes plant openings old new

-- of the plant in a document
abbrev pub OfDocument : Writing → List ℕ → List ℕ → Option (List ℕ) → Option (List ℕ) → Type 0
OfDocument writes document script old new =
    (plant : ProgrammedPlant) × IsPlantIn document plant × FromScript writes plant script old new

abbrev pub OfBytes : Writing → List ℕ → Option (List ℕ) → Option (List ℕ) → Type 0
OfBytes writes bytes old new = OfDocument writes (document_in bytes) (script_in bytes) old new

-- ---- of the document in the input

abbrev pub AnswersInput : Option ℕ → Option (List ℕ) → Option (List ℕ) → Option (List ℕ) → Type 0
AnswersInput word input old new = IfSome input (λ bytes. AnswersIn word bytes old new)

abbrev pub FindsInputFree : Option ℕ → Option (List ℕ) → Option (List ℕ) → Option (List ℕ) → Type 0
FindsInputFree word input old new = IfSome input (λ bytes. FindsFreeIn word bytes old new)

abbrev pub ExploresInput : Option ℕ → Option (List ℕ) → Option (List ℕ) → Option (List ℕ) → Type 0
ExploresInput word input old new = IfSome input (λ bytes. ExploresIn word bytes old new)

abbrev pub Reports : Option ℕ → ℕ → Option (List ℕ) → Option (List ℕ) → Option (List ℕ) → Type 0
Reports word most input old new = IfSome input (λ bytes. ReportsIn word most bytes old new)

abbrev pub WritesHeader : Option ℕ → Option (List ℕ) → Option (List ℕ) → Option (List ℕ) → Type 0
WritesHeader word input old new = IfSome input (λ bytes. WritesHeaderIn word bytes old new)

abbrev pub WritesModule : Option ℕ → Option (List ℕ) → Option (List ℕ) → Option (List ℕ) → Type 0
WritesModule word input old new = IfSome input (λ bytes. WritesModuleIn word bytes old new)

abbrev pub Draws : Option ℕ → Option (List ℕ) → Option (List ℕ) → Option (List ℕ) → Type 0
Draws word input old new = IfSome input (λ bytes. WritesPictureIn word bytes old new)

abbrev pub TellsInputRun : Option ℕ → ℕ → Option (List ℕ) → Option (List ℕ) → Option (List ℕ) → Type 0
TellsInputRun word turns input old new = IfSome input (λ bytes. WritesRunIn word turns bytes old new)

abbrev pub ShowsInputRun : Option ℕ → ℕ → Option (List ℕ) → Option (List ℕ) → Option (List ℕ) → Type 0
ShowsInputRun word turns input old new = IfSome input (λ bytes. WritesRunPageIn word turns bytes old new)

abbrev pub WritesWords : PlantRequest → Option (List ℕ) → Option (List ℕ) → Option (List ℕ) → Type 0
WritesWords request input old new = IfSome input (λ bytes. WritesWordsIn request bytes old new)

abbrev pub ExploresWords : Option (List ℕ) → Option (List ℕ) → Option (List ℕ) → Type 0
ExploresWords input old new = IfSome input (λ bytes. OfBytes WritesPlantFree bytes old new)

abbrev pub RunsWords : ℕ → Option (List ℕ) → Option (List ℕ) → Option (List ℕ) → Type 0
RunsWords turns input old new = IfSome input (λ bytes. OfBytes (WritesPlantRun turns) bytes old new)

-- of all words together, from the script's start
abbrev pub WritesTogether : Together → Option (List ℕ) → Option (List ℕ) → Option (List ℕ) → Type 0
WritesTogether task input old new = IfSome input (λ bytes. OfBytes (writes_of task) bytes old new)
