-- What the programs of a plant mean: what is asked of a word stands there, in the order of the lines.
use Rattle.std.specs.Prelude.{◌≡◌, ◌≤◌, ℕ, List, [], ◌∷◌, length, map, slice_get, string_bytes, Some, None, IsTrue}
use Rattle.std.specs.List.{list_any}
use Rattle.std.specs.Str.{bytes_eq}
use Rattle.plan_explorer.specs.PlantPrograms.{ProgramsOnWords}
use Rattle.plan_explorer.specs.declared.plant_programs.RoutedCall.{RoutedCall}
use Rattle.plan_text.specs.Names.{Text}
use Rattle.plan_words.specs.Plant.{PlantWords}
use Rattle.plan_document.specs.declared.document.Document.{Document}
use Rattle.plan_document.specs.declared.document.MachineRow.{MachineRow}
use Rattle.plan_document.specs.declared.resolving.ProgrammedPlan.{ProgrammedPlan}
use Rattle.plan_document.specs.PlantPrograms.{ArePlantPrograms, Asks, IsRouted, IsRoutedProgram, lines_on}

-- a line is one of a machine's program on a word
abbrev pub Stands : Document → PlantWords → ℕ → ℕ → Text → Type 0
Stands d words w m line = IsTrue (list_any (λ other. bytes_eq other line) (lines_on d words w m))

-- it stands on the word of the call, and asks that call by the word's plan
pub record IsAskedThere (d : Document) (words : PlantWords) (plans : List ProgrammedPlan) (m : ℕ) (line : Text)
    (routed : RoutedCall) : Type 0 where
  pub plan : ProgrammedPlan
  pub of_word : slice_get plans routed.word ≡ Some plan
  pub stands : Stands d words routed.word m line
  pub asks : Asks plan m line (Some routed.call)

-- a line that asks a call asks it on the call's word; one that asks none asks nothing on each word where it stands
pub record LinesAreRouted (d : Document) (words : PlantWords) (plans : List ProgrammedPlan) (m : ℕ) (line : Text)
    : Type 0 where
  pub asked : (routed : RoutedCall) → IsRouted d words plans m line (Some routed)
      → IsAskedThere d words plans m line routed
  pub silent : IsRouted d words plans m line None → (w : ℕ) (plan : ProgrammedPlan) → slice_get plans w ≡ Some plan
      → Stands d words w m line → Asks plan m line None

-- each call of a program is one of the machine's lines; the calls of two lines come in the order of these
abbrev pub lines_in : ℕ × MachineRow → List Text
lines_in row = map string_bytes row.1.program.items

pub record ProgramsAreOfLines (d : Document) (words : PlantWords) (plans : List ProgrammedPlan) (row : ℕ × MachineRow)
    : Type 0 where
  pub of_line : (program : List RoutedCall) (k : ℕ) (routed : RoutedCall) → IsRoutedProgram d words plans row program
      → slice_get program k ≡ Some routed
      → (i : ℕ) × (line : Text) × (slice_get (lines_in row) i ≡ Some line) × IsAskedThere d words plans row.0 line routed
  pub in_order : (first second : Text) (one other : RoutedCall) → lines_in row ≡ first ∷ second ∷ []
      → IsRoutedProgram d words plans row (one ∷ other ∷ [])
      → IsAskedThere d words plans row.0 first one × IsAskedThere d words plans row.0 second other
  pub few : (program : List RoutedCall) → IsRoutedProgram d words plans row program
      → length program ≤ length (lines_in row)

-- of all documents, words and plans
pub record LinesGoToTheirWords : Type 0 where
  pub lines : (d : Document) (words : PlantWords) (plans : List ProgrammedPlan) (m : ℕ) (line : Text)
      → LinesAreRouted d words plans m line
  pub programs : (d : Document) (words : PlantWords) (plans : List ProgrammedPlan) (row : ℕ × MachineRow)
      → ProgramsAreOfLines d words plans row
  pub machines : (d : Document) (words : PlantWords) (plans : List ProgrammedPlan) (programs : ProgramsOnWords)
      → ArePlantPrograms d words plans programs → length programs.programs ≡ length d.machines.items
