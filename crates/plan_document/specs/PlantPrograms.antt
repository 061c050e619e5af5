-- What each machine of a plant asks on which word, line by line of its program.
use Rattle.std.specs.Prelude.{◌≡◌, ◌⊎◌, ◌<◌, ℕ, List, [], get_or, length, map, slice_get, string_bytes}
use Rattle.std.specs.Prelude.{Option, Some, None, IsFalse, IsTrue}
use Rattle.std.specs.List.{AllZip, filter_map, list_any}
use Rattle.std.specs.Str.{bytes_eq}
use Rattle.plan_types.specs.declared.call.Call.{Call}
use Rattle.plan_controller.specs.declared.step.Step.{Step}
use Rattle.plan_explorer.specs.PlantPrograms.{ProgramsOnWords}
use Rattle.plan_explorer.specs.declared.plant_programs.RoutedCall.{RoutedCall}
use Rattle.plan_text.specs.Names.{Text}
use Rattle.plan_words.specs.Plant.{PlantWords, word_at}
use Rattle.plan_document.specs.declared.document.Document.{Document}
use Rattle.plan_document.specs.declared.document.MachineRow.{MachineRow}
use Rattle.plan_document.specs.declared.resolving.ProgrammedPlan.{ProgrammedPlan}
use Rattle.plan_document.specs.Names.{numbered}
use Rattle.plan_document.specs.OnWord.{texts_on}
use Rattle.plan_document.specs.Saying.{IsStepOf, asked}
use Rattle.plan_document.specs.Texts.{DocumentTexts, MachineTexts, document_texts}

-- the lines of a machine's program in a document, and in that of a word
abbrev pub lines_of : DocumentTexts → ℕ → List Text
lines_of d m = get_or (map (λ (row : MachineTexts). row.program) d.machines) m []

abbrev pub lines_on : Document → PlantWords → ℕ → ℕ → List Text
lines_on d words w m = lines_of (texts_on (document_texts d) (word_at words w).group) m

-- a line asks this by a plan: it says a step that does
pub record Asks (plan : ProgrammedPlan) (m : ℕ) (line : Text) (call : Option Call) : Type 0 where
  pub step : Step
  pub says : IsStepOf plan.named plan.motors (get_or plan.sensors.items m []) m line step
  pub asks : asked step ≡ call

-- the same on a word with these lines: nothing if it isn't one of them
abbrev pub AsksOn : List Text → ProgrammedPlan → ℕ → Text → Option Call → Type 0
AsksOn lines plan m line call =
    (IsFalse (list_any (λ other. bytes_eq other line) lines) × (call ≡ None))
    ⊎ (IsTrue (list_any (λ other. bytes_eq other line) lines) × Asks plan m line call)

-- the same on a word of a plant
abbrev pub AsksOnWord : Document → PlantWords → List ProgrammedPlan → ℕ → ℕ → Text → Option Call → Type 0
AsksOnWord d words plans w m line call =
    (plan : ProgrammedPlan) → slice_get plans w ≡ Some plan → AsksOn (lines_on d words w m) plan m line call

-- a line asks a call of one word, where it stands; or it asks nothing on any word
abbrev pub IsRouted : Document → PlantWords → List ProgrammedPlan → ℕ → Text → Option RoutedCall → Type 0
IsRouted d words plans m line None = (w : ℕ) → AsksOnWord d words plans w m line None
IsRouted d words plans m line (Some routed) =
    (routed.word < length plans) × AsksOnWord d words plans routed.word m line (Some routed.call)

-- a machine's program has the call of each line that asks one
pub record IsRoutedProgram (d : Document) (words : PlantWords) (plans : List ProgrammedPlan) (row : ℕ × MachineRow)
    (program : List RoutedCall) : Type 0 where
  pub answers : List (Option RoutedCall)
  pub lines : AllZip (IsRouted d words plans row.0) (map string_bytes row.1.program.items) answers
  pub asks : program ≡ filter_map (λ answer. answer) answers

-- the programs of all machines
pub record ArePlantPrograms (d : Document) (words : PlantWords) (plans : List ProgrammedPlan)
    (programs : ProgramsOnWords) : Type 0 where
  pub count : programs.words ≡ length plans
  pub each : AllZip (IsRoutedProgram d words plans) (numbered d.machines.items) programs.programs
