-- A machine at work in a plant on several words: its controller, a line for each word, and its devices.
use Rattle.std.specs.Prelude.{◌≡◌, ℕ, List, All, length}
use Rattle.plan_types.specs.declared.answer.Event.{Event}
use Rattle.plan_types.specs.Table.{PlanTable}
use Rattle.plan_rules.specs.declared.state.State.{State}
use Rattle.plan_controller.specs.Turns.{IsAtPlace}
use Rattle.plan_workers.specs.PlantTurns.{PlantControl, OnEachLine, control_on}

pub record AtPlantWork (L D : Type 0) : Type 0 where
  pub control : PlantControl
  pub lines : List L
  pub devices : D

abbrev pub at_plant_work : {L D : Type 0} → PlantControl → List L → D → AtPlantWork L D
at_plant_work control lines devices = record { control = control; lines = lines; devices = devices }

-- each word has a line, which is the controller's machine's; by all that it has seen the machine is there at its place
-- in the word's program
pub record IsPlantWired {L : Type 0} (table : L → PlanTable) (machine : L → ℕ) (opening : L → State)
    (seen : L → List Event) (c : PlantControl) (lines : List L) : Type 0 where
  pub each_word : length lines ≡ c.words
  pub own : All (λ l. machine l ≡ c.machine) lines
  pub at : OnEachLine lines (λ w l. IsAtPlace table opening seen l (control_on w c) (control_on w c).place)
