-- What the program has written where it ended with status 1, by the plan of the document in its input. Of each text a
-- prefix was written: as much as the writer took.
use Rattle.std.specs.Prelude.{◌≡◌, ◌⊎◌, ◌<◌, ℕ, List, nat_eq, Bool, codes, length, IsTrue}
use Rattle.std.specs.Prelude.{Option, Some, Ok, Err, IfSome}
use Rattle.std.specs.List.{starts_with}
use Rattle.text_io.specs.Output.{WrotePrefix}
use Rattle.program_shell.specs.Faults.{fault_line}
use Rattle.csv_rows.specs.ScriptEnd.{fault_text}
use Rattle.csv_rows.specs.declared.script_end.ScriptFault.{ScriptFault}
use Rattle.plan_rules.specs.declared.state.State.{State}
use Rattle.plan_text.specs.Names.{Text}
use Rattle.plan_text.specs.Named.{Named}
use Rattle.plan_text.specs.Script.{script_answers, script_start}
use Rattle.plan_document.specs.Plants.{IsPlantIn}
use Rattle.plan_document.specs.declared.plants.ProgrammedPlant.{ProgrammedPlant}
use Rattle.plan_document.specs.declared.resolving.ProgrammedPlan.{ProgrammedPlan}
use Rattle.plan_header.specs.Printed.{header_of}
use Rattle.plan_header.specs.Modules.{module_text}
use Rattle.plan_header.specs.PlantHeaders.{plant_header_text}
use Rattle.plan_picture.specs.Pictures.{IsPicture}
use Rattle.plan_app.specs.Apart.{TellsExploration, TellsLarge, told_of}
use Rattle.plan_app.specs.Asked.{HasNoWord, IsAsked, no_word_text}
use Rattle.plan_app.specs.Hazards.{TellsReport, start_if}
use Rattle.plan_app.specs.Input.{byte_limit, document_in, script_in}
use Rattle.plan_app.specs.OnWords.{TellsWords}
use Rattle.plan_app.specs.Pages.{IsLongPage, TellsPage}
use Rattle.plan_app.specs.PlantPictures.{IsPlantPicture}
use Rattle.plan_app.specs.PlantRuns.{AreNoPlant, HasForeignPlantCall, IsPlantTooLong, IsPlantUnexplained, TellsPlantRun}
use Rattle.plan_app.specs.PlantScreens.{told_of as of_plant}
use Rattle.plan_app.specs.PlantStarts.{plant_start}
use Rattle.plan_app.specs.RunPages.{ShowsRun}
use Rattle.plan_app.specs.Runs.{HasForeignCall, IsTooLong, IsUnexplained, TellsRun}
use Rattle.plan_app.specs.Screens.{TellsFree, TellsUnfinished}
use Rattle.plan_app.specs.Served.{Writing}
use Rattle.plan_app.specs.declared.asking.NoPlan.{NoPlan}
use Rattle.plan_app.specs.declared.asking.NoPlan.TheVariants.{OfDocument, OfWord}
use Rattle.plan_app.specs.declared.request.PlantRequest.{PlantRequest}
use Rattle.plan_app.specs.declared.request.PlantRequest.TheVariants as plant_request
use Rattle.plan_app.specs.declared.request.Request.{Request}
use Rattle.plan_app.specs.declared.request.Request.TheVariants.{Check, Draw, Explore, Header, Module, Page}
use Rattle.plan_app.specs.declared.request.Request.TheVariants.{Replay, Run, RunPage}
use Rattle.plan_app.specs.declared.request.Together.{Together}
use Rattle.plan_app.specs.declared.request.Together.TheVariants as together

-- ---- lines of faults

abbrev pub WroteFault : Text → Option Text → Option Text → Type 0
WroteFault words old new = WrotePrefix old new (fault_line words)

-- reading failed, or memory ran out
abbrev pub WroteUnread : Option Text → Option Text → Type 0
WroteUnread old new = WroteFault (codes "read") old new ⊎ WroteFault (codes "memory") old new

-- what the words of a document's fault begin with
abbrev pub IsOfDocument : Text → Type 0
IsOfDocument words = IsTrue (starts_with nat_eq words (codes "plan "))

-- the document has a fault
abbrev pub WroteDocumentFault : Option Text → Option Text → Type 0
WroteDocumentFault old new = (words : Text) × IsOfDocument words × WroteFault words old new

-- the plant in the document has no word with the number that is asked for, and which words it has
abbrev pub WroteNoWord : Option ℕ → Text → Option Text → Option Text → Type 0
WroteNoWord word document old new =
    (number : ℕ) × (count : ℕ) × (word ≡ Some number) × HasNoWord number count document
    × WroteFault (no_word_text number count) old new

-- the line of either
abbrev pub WroteNoPlan : NoPlan → Option Text → Option Text → Type 0
WroteNoPlan (OfDocument fault) old new = WroteDocumentFault old new
WroteNoPlan (OfWord number count) old new = WroteFault (no_word_text number count) old new

-- there are more bytes than a plan and a script may have
abbrev pub WroteLong : Text → Option Text → Option Text → Type 0
WroteLong bytes old new = (byte_limit < length bytes) × WroteFault (codes "long") old new

-- the script has no start, and why
abbrev pub WroteStartFault : Named → Text → Option Text → Option Text → Type 0
WroteStartFault n script old new =
    (fault : ScriptFault) × (script_start n script ≡ Err fault) × WroteFault (fault_text fault) old new

-- turns lead to more situations than are explored, and how far the exploration came
abbrev pub WroteLarge : ℕ → ProgrammedPlan → State → Option Text → Option Text → Type 0
WroteLarge most plan opening old new =
    (words : Text) × TellsUnfinished most plan.named plan.programs opening words × WroteFault words old new

-- ---- by a plan

-- the answers to a script: if it has a fault, they end with its line
abbrev pub WroteAnswers : Named → Text → Option Text → Option Text → Type 0
WroteAnswers n script old new = WrotePrefix old new (script_answers n script).text

-- a report, with turns from a start if there is one, and whether the motors of each hazard are kept apart
abbrev pub WroteReportFrom : ℕ → ProgrammedPlan → Option State → Option Text → Option Text → Type 0
WroteReportFrom most plan start old new =
    (kept : Bool) × (text : Text) × TellsReport most plan start kept text × WrotePrefix old new text

-- the start is the script's
abbrev pub WroteReport : ℕ → ProgrammedPlan → Text → Option Text → Option Text → Type 0
WroteReport most plan script old new = WroteReportFrom most plan (start_if (script_start plan.named script)) old new

-- of each group, or of all machines together, a text shows a standstill, or says that there is none, and whether some
-- machine starves or plates rest
abbrev pub WroteExploration : ProgrammedPlan → State → Option Text → Option Text → Type 0
WroteExploration plan opening old new =
    (well : Bool) × (text : Text) × TellsExploration (told_of plan.named plan.programs opening) well text
    × WrotePrefix old new text

-- the same of a group, or of all machines together
abbrev pub WroteTooMany : ℕ → ProgrammedPlan → State → Option Text → Option Text → Type 0
WroteTooMany most plan opening old new =
    (words : Text) × TellsLarge most (told_of plan.named plan.programs opening) words × WroteFault words old new

abbrev pub WroteEndFrom : ℕ → ProgrammedPlan → State → Option Text → Option Text → Type 0
WroteEndFrom most plan opening old new = WroteTooMany most plan opening old new ⊎ WroteExploration plan opening old new

-- the start is the script's, if it has one
abbrev pub WroteEnd : ℕ → ProgrammedPlan → Text → Option Text → Option Text → Type 0
WroteEnd most plan script old new =
    WroteStartFault plan.named script old new
    ⊎ ((opening : State) × (script_start plan.named script ≡ Ok opening) × WroteEndFrom most plan opening old new)

-- a text is the page of a standstill, or of an order in which a machine starves or plates rest; or it says that there
-- is no such order
abbrev pub TellsPageEnd : ProgrammedPlan → State → Text → Type 0
TellsPageEnd plan opening text = TellsPage plan opening text ⊎ TellsFree plan.named plan.programs opening text

-- such an order has more turns than a page shows
abbrev pub WroteLongPage : ProgrammedPlan → State → Option Text → Option Text → Type 0
WroteLongPage plan opening old new = IsLongPage plan opening × WroteFault (codes "long") old new

abbrev pub WrotePageText : ProgrammedPlan → State → Option Text → Option Text → Type 0
WrotePageText plan opening old new = (text : Text) × TellsPageEnd plan opening text × WrotePrefix old new text

abbrev pub WroteFound : ProgrammedPlan → State → Option Text → Option Text → Type 0
WroteFound plan opening old new = WroteLongPage plan opening old new ⊎ WrotePageText plan opening old new

abbrev pub WrotePageFrom : ℕ → ProgrammedPlan → State → Option Text → Option Text → Type 0
WrotePageFrom most plan opening old new = WroteLarge most plan opening old new ⊎ WroteFound plan opening old new

-- the start is the script's, if it has one
abbrev pub WrotePage : ℕ → ProgrammedPlan → Text → Option Text → Option Text → Type 0
WrotePage most plan script old new =
    WroteStartFault plan.named script old new
    ⊎ ((opening : State) × (script_start plan.named script ≡ Ok opening) × WrotePageFrom most plan opening old new)

abbrev pub WroteHeader : ProgrammedPlan → Option Text → Option Text → Type 0
WroteHeader plan old new = WrotePrefix old new (header_of plan)

abbrev pub WroteModule : ProgrammedPlan → Option Text → Option Text → Type 0
WroteModule plan old new =
    WrotePrefix old new (module_text plan.named plan.motors.names plan.motors.motors.items)

abbrev pub WrotePicture : ProgrammedPlan → Option Text → Option Text → Type 0
WrotePicture plan old new = (text : Text) × IsPicture plan text × WrotePrefix old new text

-- a run has more calls than a script may have, or no history explains it
abbrev pub WroteRunFault : ProgrammedPlan → ℕ → State → Option Text → Option Text → Type 0
WroteRunFault plan turns start old new =
    (IsTooLong plan turns start × WroteFault (codes "long") old new)
    ⊎ ((IsUnexplained plan turns start ⊎ HasForeignCall plan turns start) × WroteFault (codes "audit") old new)

-- what machines did in a run, and the script of their history
abbrev pub WroteRunText : ProgrammedPlan → ℕ → State → Option Text → Option Text → Type 0
WroteRunText plan turns start old new =
    (fine : Bool) × (text : Text) × TellsRun plan turns start fine text × WrotePrefix old new text

abbrev pub WroteRunFrom : ProgrammedPlan → ℕ → State → Option Text → Option Text → Type 0
WroteRunFrom plan turns start old new = WroteRunFault plan turns start old new ⊎ WroteRunText plan turns start old new

-- the start is the script's, if it has one
abbrev pub WroteRun : ProgrammedPlan → ℕ → Text → Option Text → Option Text → Type 0
WroteRun plan turns script old new =
    WroteStartFault plan.named script old new
    ⊎ ((start : State) × (script_start plan.named script ≡ Ok start) × WroteRunFrom plan turns start old new)

-- the same with the page of their history
abbrev pub WroteRunPageText : ProgrammedPlan → ℕ → State → Option Text → Option Text → Type 0
WroteRunPageText plan turns start old new =
    (fine : Bool) × (text : Text) × ShowsRun plan turns start fine text × WrotePrefix old new text

abbrev pub WroteRunPageFrom : ProgrammedPlan → ℕ → State → Option Text → Option Text → Type 0
WroteRunPageFrom plan turns start old new =
    WroteRunFault plan turns start old new ⊎ WroteRunPageText plan turns start old new

abbrev pub WroteRunPage : ProgrammedPlan → ℕ → Text → Option Text → Option Text → Type 0
WroteRunPage plan turns script old new =
    WroteStartFault plan.named script old new
    ⊎ ((start : State) × (script_start plan.named script ≡ Ok start) × WroteRunPageFrom plan turns start old new)

-- what was asked
abbrev pub FailsBy : Request → ProgrammedPlan → Text → Option Text → Option Text → Type 0
FailsBy Replay plan script old new = WroteAnswers plan.named script old new
FailsBy (Explore most) plan script old new = WroteEnd most plan script old new
FailsBy (Page most) plan script old new = WrotePage most plan script old new
FailsBy Header plan script old new = WroteHeader plan old new
FailsBy Module plan script old new = WroteModule plan old new
FailsBy Draw plan script old new = WrotePicture plan old new
FailsBy (Run turns) plan script old new = WroteRun plan turns script old new
FailsBy (RunPage turns) plan script old new = WroteRunPage plan turns script old new
FailsBy (Check most) plan script old new = WroteReport most plan script old new

-- ---- by the plan that is asked for of the document in these bytes: its own, or that of one word of its plant

-- there are too many bytes, or reading failed or memory ran out, or the document has a fault, or its plant has no such
-- word; or there is the plan
abbrev pub FailsIn : Option ℕ → Request → Text → Option Text → Option Text → Type 0
FailsIn word request bytes old new =
    WroteLong bytes old new ⊎ (WroteUnread old new ⊎ (WroteDocumentFault old new
    ⊎ (WroteNoWord word (document_in bytes) old new
    ⊎ ((plan : ProgrammedPlan) × IsAsked word (document_in bytes) plan
    × FailsBy request plan (script_in bytes) old new))))

-- in the input
abbrev pub Fails : Option ℕ → Request → Option Text → Option Text → Option Text → Type 0
Fails word request input old new = IfSome input (λ bytes. FailsIn word request bytes old new)

-- ---- by the plant of the document in these bytes

-- what its words have, and which of them keeps the motors of each hazard apart, or that none does
abbrev pub WroteListing : List ProgrammedPlan → Option Text → Option Text → Type 0
WroteListing plans old new =
    (kept : Bool) × (text : Text) × TellsWords plans kept text × WrotePrefix old new text

-- or their picture
abbrev pub WroteDrawing : List ProgrammedPlan → Option Text → Option Text → Type 0
WroteDrawing plans old new = (text : Text) × IsPlantPicture plans text × WrotePrefix old new text

-- or one header of all of them
abbrev pub WroteAsked : PlantRequest → List ProgrammedPlan → Option Text → Option Text → Type 0
WroteAsked plant_request.Listing plans old new = WroteListing plans old new
WroteAsked plant_request.Header plans old new = WrotePrefix old new (plant_header_text plans)
WroteAsked plant_request.Draw plans old new = WroteDrawing plans old new

abbrev pub WroteWords : PlantRequest → Text → Option Text → Option Text → Type 0
WroteWords request document old new =
    (plant : ProgrammedPlant) × IsPlantIn document plant × WroteAsked request plant.plans.items old new

-- there are too many bytes, or reading failed or memory ran out, or the document has a fault; or there is the plant
abbrev pub FailsWordsIn : PlantRequest → Text → Option Text → Option Text → Type 0
FailsWordsIn request bytes old new =
    WroteLong bytes old new ⊎ (WroteUnread old new ⊎ (WroteDocumentFault old new
    ⊎ WroteWords request (document_in bytes) old new))

-- in the input
abbrev pub FailsWords : PlantRequest → Option Text → Option Text → Option Text → Type 0
FailsWords request input old new = IfSome input (λ bytes. FailsWordsIn request bytes old new)

-- ---- the same of all its words together: of an exploration, and of a run

-- the script has no start of the plant, and why
abbrev pub WroteNoOpenings : ProgrammedPlant → Text → Option Text → Option Text → Type 0
WroteNoOpenings plant script old new =
    (fault : ScriptFault) × (plant_start plant script ≡ Err fault) × WroteFault (fault_text fault) old new

-- turns lead to more situations than are explored, and how far the exploration came
abbrev pub WroteLargePlant : ℕ → ProgrammedPlant → List State → Option Text → Option Text → Type 0
WroteLargePlant most plant openings old new =
    (words : Text) × TellsLarge most (of_plant plant.plans.items plant.programs.programs openings) words
    × WroteFault words old new

-- of each group, or of all machines together, a text shows a standstill of all words together, or says that there is
-- none, and whether some machine starves
abbrev pub WrotePlantText : ProgrammedPlant → List State → Option Text → Option Text → Type 0
WrotePlantText plant openings old new =
    (well : Bool) × (text : Text)
    × TellsExploration (of_plant plant.plans.items plant.programs.programs openings) well text
    × WrotePrefix old new text

abbrev pub WrotePlantFrom : ℕ → ProgrammedPlant → List State → Option Text → Option Text → Type 0
WrotePlantFrom most plant openings old new =
    WroteLargePlant most plant openings old new ⊎ WrotePlantText plant openings old new

-- a run has more calls on some word than a script may have, or no history explains what was noted of a word; or the words
-- aren't those of one plant
abbrev pub WrotePlantRunFault : ℕ → ProgrammedPlant → List State → Option Text → Option Text → Type 0
WrotePlantRunFault turns plant openings old new =
    (IsPlantTooLong plant turns openings × WroteFault (codes "long") old new)
    ⊎ (((IsPlantUnexplained plant turns openings ⊎ HasForeignPlantCall plant turns openings)
    × WroteFault (codes "audit") old new) ⊎ (AreNoPlant plant × WroteFault (codes "words") old new))

-- what machines did in a run, and of each word the script of its history
abbrev pub WrotePlantRunText : ℕ → ProgrammedPlant → List State → Option Text → Option Text → Type 0
WrotePlantRunText turns plant openings old new =
    (fine : Bool) × (text : Text) × TellsPlantRun plant turns openings fine text × WrotePrefix old new text

abbrev pub WrotePlantRun : ℕ → ProgrammedPlant → List State → Option Text → Option Text → Type 0
WrotePlantRun turns plant openings old new =
    WrotePlantRunFault turns plant openings old new ⊎ WrotePlantRunText turns plant openings old new

abbrev pub wrote_of : Together → Writing
wrote_of (together.Explore most) = WrotePlantFrom most
wrote_of (together.Run turns) = WrotePlantRun turns

-- the openings are the script's, if it has them
abbrev pub WroteFromScript : Writing → ProgrammedPlant → Text → Option Text → Option Text → Type 0
WroteFromScript wrote plant script old new =
    WroteNoOpenings plant script old new
    ⊎ ((openings : List State) × (plant_start plant script ≡ Ok openings) × wrote plant openings old new)

abbrev pub WroteOfDocument : Writing → Text → Text → Option Text → Option Text → Type 0
WroteOfDocument wrote document script old new =
    (plant : ProgrammedPlant) × IsPlantIn document plant × WroteFromScript wrote plant script old new

abbrev pub FailsOfBytes : Writing → Text → Option Text → Option Text → Type 0
FailsOfBytes wrote bytes old new =
    WroteLong bytes old new ⊎ (WroteUnread old new ⊎ (WroteDocumentFault old new
    ⊎ WroteOfDocument wrote (document_in bytes) (script_in bytes) old new))

abbrev pub FailsExploreWords : ℕ → Option Text → Option Text → Option Text → Type 0
FailsExploreWords most input old new = IfSome input (λ bytes. FailsOfBytes (WrotePlantFrom most) bytes old new)

abbrev pub FailsRunWords : ℕ → Option Text → Option Text → Option Text → Type 0
FailsRunWords turns input old new = IfSome input (λ bytes. FailsOfBytes (WrotePlantRun turns) bytes old new)

abbrev pub FailsTogether : Together → Option Text → Option Text → Option Text → Type 0
FailsTogether task input old new = IfSome input (λ bytes. FailsOfBytes (wrote_of task) bytes old new)
