-- What is found of a group of a plant's machines alone is so among all machines, on all words together.
use Rattle.std.specs.Prelude.{◌≡◌, ℕ, Bool, true, List, [], ◌++◌, length, slice_get, Some, None, Ok}
use Rattle.plan_types.specs.Table.{PlanTable}
use Rattle.plan_rules.specs.declared.state.State.{State}
use Rattle.plan_explorer.specs.Groups.{group_in}
use Rattle.plan_explorer.specs.PlantExplored.{ComeTo, ComeToMore}
use Rattle.plan_explorer.specs.PlantPrograms.{RoutedPrograms, calls_of}
use Rattle.plan_explorer.specs.Programs.{program_of}
use Rattle.plan_liveness.specs.declared.answer.Bound.{Bound}
use Rattle.plan_liveness.specs.declared.answer.Liveness.{Liveness}
use Rattle.plan_liveness.specs.declared.answer.Progress.{Progress}
use Rattle.plan_liveness.specs.declared.answer.Progress.TheVariants.{Within}
use Rattle.plan_liveness.specs.Answers.{all_machines}
use Rattle.plan_liveness.specs.PlantGroupGoing.{GoesOn, PlatesMove}
use Rattle.plan_liveness.specs.PlantGroupLaws.{LeadThem, NeverStandStill, NeverStandStillBefore}
use Rattle.plan_liveness.specs.PlantGroupStarving.{MayStarve}
use Rattle.plan_liveness.specs.PlantGroups.{AreGroups, alone}
use Rattle.plan_text.specs.Names.{Text}
use Rattle.plan_document.specs.declared.plants.ProgrammedPlant.{ProgrammedPlant}
use Rattle.plan_document.specs.declared.resolving.ProgrammedPlan.{ProgrammedPlan}
use Rattle.plan_app.specs.Apart.{group_of}
use Rattle.plan_app.specs.PartLaws.{HaveTheirParts, HoldsBy, StandAmongAll}
use Rattle.plan_app.specs.PlantGoing.{going_text}
use Rattle.plan_app.specs.PlantScreens.{IsUnfinished, TellsGoing, TellsStandstill, told_of, turns_told}
use Rattle.plan_app.specs.PlantStarts.{plant_start, tables_of}
use Rattle.plan_app.specs.Screens.{OfTurns, free_line}
use Rattle.plan_app.specs.declared.explore.Extent.{Extent}

-- a script has the openings of a plant
abbrev pub AreOfScript : ProgrammedPlant → List State → Type 0
AreOfScript plant openings = (script : List ℕ) × (plant_start plant script ≡ Ok openings)

-- ---- machines that go on

-- a machine goes on among all within a bound
abbrev pub GoesOnAmongAll : List PlanTable → RoutedPrograms → List State → ℕ → List ℕ → Bound → Type 0
GoesOnAmongAll ts ps ss m strong bound = GoesOn ts ps ss (Some m) strong bound.plain bound.helped

-- it may starve among all, if all come to some number of situations
abbrev pub StarvesAmongAll : List PlanTable → RoutedPrograms → List State → ℕ → List ℕ → Type 0
StarvesAmongAll ts ps ss m strong = (situations : ℕ) → ComeTo ts ps ss situations → MayStarve ts ps ss m strong

-- of a plant no relay is answered
abbrev pub HoldsAmongAll : List PlanTable → RoutedPrograms → List State → (ℕ → Bool) → ℕ → Liveness → Type 0
HoldsAmongAll ts ps ss ours m answer =
    HoldsBy (length (program_of (calls_of ps) m) ≡ 0) (GoesOnAmongAll ts ps ss m) (λ relay. ⊥)
    (StarvesAmongAll ts ps ss m) ours (all_machines (calls_of ps)) answer

-- by answers and plates of the group alone
pub record GoOnAmongAll (ts : List PlanTable) (ps : RoutedPrograms) (ss : List State) (ours : ℕ → Bool)
    (answers : List Liveness) (plates : Progress) : Type 0 where
  pub never : NeverStandStill ts ps ss ours
  pub each : (m : ℕ) (answer : Liveness) → ours m ≡ true → slice_get answers m ≡ Some answer
      → HoldsAmongAll ts ps ss ours m answer
  pub moving : (bound : Bound) → plates ≡ Within bound → PlatesMove ts ps ss None [] bound.plain bound.helped

-- ---- more situations than are explored

-- all come to more, too; and no turns of all that are fewer than these, or none at all, lead them to a standstill
pub record IsUnfinishedAmongAll (most : ℕ) (ts : List PlanTable) (ps : RoutedPrograms) (ss : List State)
    (ours : ℕ → Bool) (extent : Extent) : Type 0 where
  pub more : ComeToMore ts ps ss most
  pub never : OfTurns (NeverStandStillBefore ts ps ss ours) (NeverStandStill ts ps ss ours) extent

-- ---- what a part tells

-- the text of a group that goes on, and of one that comes to a standstill
pub record GoingIsOfAll (plans : List ProgrammedPlan) (ps : RoutedPrograms) (ss : List State) (ours : ℕ → Bool)
    (text : Text) : Type 0 where
  pub situations : ℕ
  pub answers : List Liveness
  pub plates : Progress
  pub told : text ≡ free_line situations ++ going_text ours plans (alone ours ps) ss answers plates
  pub so : GoOnAmongAll (tables_of plans) ps ss ours answers plates

pub record StandstillIsOfAll (plans : List ProgrammedPlan) (ps : RoutedPrograms) (ss : List State) (ours : ℕ → Bool)
    (text : Text) : Type 0 where
  pub turns : List ℕ
  pub told : text ≡ turns_told plans (alone ours ps) ss turns
  pub so : StandAmongAll (LeadThem (tables_of plans) ps ss ours) turns

pub record PlantPartsSpeakOfAll (plans : List ProgrammedPlan) (ps : RoutedPrograms) (ss : List State) : Type 0 where
  pub going : (groups : List ℕ) → AreGroups (tables_of plans) (group_in groups) → (first : ℕ) (starve : Bool)
      (text : Text) → TellsGoing (group_of groups first) plans (alone (group_of groups first) ps) ss starve text
      → GoingIsOfAll plans ps ss (group_of groups first) text
  pub standstill : (groups : List ℕ) → AreGroups (tables_of plans) (group_in groups) → (first : ℕ) (text : Text)
      → TellsStandstill plans (alone (group_of groups first) ps) ss text
      → StandstillIsOfAll plans ps ss (group_of groups first) text
  pub unfinished : (most : ℕ) (groups : List ℕ) → AreGroups (tables_of plans) (group_in groups) → (first : ℕ)
      (extent : Extent) → IsUnfinished most plans (alone (group_of groups first) ps) ss extent
      → IsUnfinishedAmongAll most (tables_of plans) ps ss (group_of groups first) extent
  -- each group has its part, and all is well only if it is in each
  pub parts : HaveTheirParts (told_of plans ps ss)
