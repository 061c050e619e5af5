-- What `plan explore --words` prints of a plant's machines on all words together: of all machines, or of some alone.
use Rattle.std.specs.Prelude.{◌≡◌, ◌⊎◌, ℕ, Bool, true, false, ◌&&◌, ◌||◌, List, ◌++◌, codes, flat_map, length}
use Rattle.std.specs.Prelude.{slice_get, Some, Result, String, string_bytes}
use Rattle.std.specs.declared.alloc.Global.{Global}
use Rattle.plan_types.specs.Below.{any_below}
use Rattle.plan_rules.specs.declared.state.State.{State}
use Rattle.plan_explorer.specs.PlantExplored.{AreShortest, ComeTo, ComeToMore, LeadToStandstill}
use Rattle.plan_explorer.specs.PlantExplored.{NoneStandsStill, NoneStandsStillBefore}
use Rattle.plan_explorer.specs.PlantPrograms.{RoutedPrograms, calls_of}
use Rattle.plan_explorer.specs.PlantWalks.{outlook_of}
use Rattle.plan_explorer.specs.Plants.{first_situation}
use Rattle.plan_explorer.specs.declared.plant_walk.RoutedEvent.{RoutedEvent}
use Rattle.plan_liveness.specs.declared.answer.Liveness.{Liveness}
use Rattle.plan_liveness.specs.declared.answer.Progress.{Progress}
use Rattle.plan_liveness.specs.PlantAnswers.{IsPlantLiveness}
use Rattle.plan_liveness.specs.PlantGroups.{AreGroups, AreSmallest, alone}
use Rattle.plan_liveness.specs.PlantPlates.{IsPlateProgress}
use Rattle.plan_text.specs.Names.{Text}
use Rattle.plan_document.specs.declared.resolving.ProgrammedPlan.{ProgrammedPlan}
use Rattle.plan_app.specs.Apart as apart
use Rattle.plan_app.specs.Apart.{own_starves, some_move_plates}
use Rattle.plan_app.specs.PlantGoing.{after_all, asked_by, asked_line, everyone, going_text, line_on, named_if}
use Rattle.plan_app.specs.PlantStarts.{tables_of}
use Rattle.plan_app.specs.Screens as screens
use Rattle.plan_app.specs.Starving.{may_rest}
use Rattle.plan_app.specs.declared.apart.Exploration.{Exploration}
use Rattle.plan_app.specs.declared.explore.Extent.{Extent}
use Rattle.plan_app.specs.declared.explore.Screen.{Screen}
use Rattle.plan_app.specs.declared.explore.Screen.TheVariants.{Free, Starving, Standstill, Unfinished}

-- ---- a standstill

-- what a machine asks, and why it waits
abbrev pub wait_line : List ProgrammedPlan → RoutedEvent → Text
wait_line plans e = line_on plans screens.wait_line e

abbrev pub turns_text : List ProgrammedPlan → List RoutedEvent → Text
turns_text plans events = codes "turns:\n" ++ flat_map (asked_line plans) events

-- how many turns lead to a standstill, what each machine waits for there, and what the turns ask
abbrev pub standstill_text : List ProgrammedPlan → ℕ → List RoutedEvent → List RoutedEvent → Text
standstill_text plans turns waiting events =
    screens.count_line turns ++ (flat_map (wait_line plans) waiting ++ turns_text plans events)

-- what the machines ask after turns from openings
abbrev pub outlook_after : List ProgrammedPlan → RoutedPrograms → List State → List ℕ → List RoutedEvent
outlook_after plans ps openings turns = outlook_of (tables_of plans) ps (after_all plans ps openings turns)

abbrev pub turns_told : List ProgrammedPlan → RoutedPrograms → List State → List ℕ → Text
turns_told plans ps openings turns =
    standstill_text plans (length turns) (outlook_after plans ps openings turns) (asked_by plans ps openings turns)

-- the fewest turns to a standstill of all words together, and what each machine waits for there
pub record TellsStandstill (plans : List ProgrammedPlan) (ps : RoutedPrograms) (openings : List State) (text : Text)
    : Type 0 where
  pub turns : List ℕ
  pub lead : LeadToStandstill (tables_of plans) ps openings turns
  pub shortest : AreShortest (tables_of plans) ps openings turns
  pub told : text ≡ turns_told plans ps openings turns

-- ---- no standstill

-- the answers are those of an exploration of all words together, of each machine
pub record AreAnswers (plans : List ProgrammedPlan) (ps : RoutedPrograms) (openings : List State)
    (answers : List Liveness) : Type 0 where
  pub count : length answers ≡ length ps
  pub each : (m : ℕ) (answer : Liveness) → slice_get answers m ≡ Some answer
      → IsPlantLiveness (tables_of plans) ps (first_situation openings) m answer

-- some of these machines may starve by them
abbrev pub any_starves : (ℕ → Bool) → List Liveness → ℕ → Bool
any_starves ours answers count = any_below (own_starves ours answers) count

-- some program moves plates, and they may rest
abbrev pub plates_starve : RoutedPrograms → Progress → Bool
plates_starve ps plates = some_move_plates (calls_of ps) && may_rest plates

-- In no order of turns is there a standstill, and `situations` is the number of situations that the machines come to.
-- What is said of those machines that are told of, and of plates, is said by what explorations answer, and `starve` is
-- whether some starve by that, or plates rest.
pub record TellsGoing (ours : ℕ → Bool) (plans : List ProgrammedPlan) (ps : RoutedPrograms) (openings : List State)
    (starve : Bool) (text : Text) : Type 0 where
  pub free : NoneStandsStill (tables_of plans) ps openings
  pub situations : ℕ
  pub come : ComeTo (tables_of plans) ps openings situations
  pub answers : List Liveness
  pub are : AreAnswers plans ps openings answers
  pub plates : Progress
  pub moving : IsPlateProgress (tables_of plans) ps (first_situation openings) plates
  pub starving : (any_starves ours answers (length ps) || plates_starve ps plates) ≡ starve
  pub told : text ≡ screens.free_line situations ++ going_text ours plans ps openings answers plates

-- by that none starves
abbrev pub TellsFree : (ℕ → Bool) → List ProgrammedPlan → RoutedPrograms → List State → Text → Type 0
TellsFree ours plans ps openings text = TellsGoing ours plans ps openings false text

-- or some do
abbrev pub TellsStarving : (ℕ → Bool) → List ProgrammedPlan → RoutedPrograms → List State → Text → Type 0
TellsStarving ours plans ps openings text = TellsGoing ours plans ps openings true text

-- ---- more situations than are explored

-- turns lead to more situations than `most`, and to a standstill none that are fewer than these, or none at all
pub record IsUnfinished (most : ℕ) (plans : List ProgrammedPlan) (ps : RoutedPrograms) (openings : List State)
    (extent : Extent) : Type 0 where
  pub more : ComeToMore (tables_of plans) ps openings most
  pub none : screens.OfTurns (NoneStandsStillBefore (tables_of plans) ps openings)
      (NoneStandsStill (tables_of plans) ps openings) extent

-- ---- what is found

abbrev pub IsPlantScreen : ℕ → (ℕ → Bool) → List ProgrammedPlan → RoutedPrograms → List State → Screen → Type 0
IsPlantScreen most ours plans ps openings (Free text) = TellsFree ours plans ps openings (string_bytes text)
IsPlantScreen most ours plans ps openings (Starving text) = TellsStarving ours plans ps openings (string_bytes text)
IsPlantScreen most ours plans ps openings (Standstill text) = TellsStandstill plans ps openings (string_bytes text)
IsPlantScreen most ours plans ps openings (Unfinished extent) = IsUnfinished most plans ps openings extent

-- whether all is well by a text: nothing stands still, and none starves
abbrev pub TellsPlant : (ℕ → Bool) → List ProgrammedPlan → RoutedPrograms → List State → Bool → Text → Type 0
TellsPlant ours plans ps openings true text = TellsFree ours plans ps openings text
TellsPlant ours plans ps openings false text =
    TellsStandstill plans ps openings text ⊎ TellsStarving ours plans ps openings text

-- this is told; or which turns lead to no standstill
abbrev pub IsPart : ℕ → (ℕ → Bool) → List ProgrammedPlan → RoutedPrograms → List State
    → Result (Bool × String Global) Extent → Type 0
IsPart most ours plans ps openings told =
    apart.IsTold (TellsPlant ours plans ps openings) (IsUnfinished most plans ps openings) told

-- a screen says that nothing stands still, and what is said of each machine, and of plates, by answers
abbrev pub ShowsGoing : (ℕ → Bool) → List ProgrammedPlan → RoutedPrograms → List State → ℕ → Screen → Type 0
ShowsGoing ours plans ps openings situations screen =
    (answers : List Liveness) × (plates : Progress) × AreAnswers plans ps openings answers
    × IsPlateProgress (tables_of plans) ps (first_situation openings) plates
    × screens.ShowsFree situations (going_text ours plans ps openings answers plates)
    (any_starves ours answers (length ps) || plates_starve ps plates) screen

-- or that these turns lead to a standstill
abbrev pub ShowsStandstill : List ProgrammedPlan → RoutedPrograms → List State → List ℕ → Screen → Type 0
ShowsStandstill plans ps openings turns (Free text) = ⊥
ShowsStandstill plans ps openings turns (Starving text) = ⊥
ShowsStandstill plans ps openings turns (Standstill text) = string_bytes text ≡ turns_told plans ps openings turns
ShowsStandstill plans ps openings turns (Unfinished extent) = ⊥

-- ---- what is printed: of each group if at least two have programs, else of all machines together

-- a group's machines have their names on the first word
abbrev pub names_text : List ProgrammedPlan → List ℕ → ℕ → ℕ → Text
names_text plans groups first count =
    named_if (λ n. apart.names_text n groups first count) (slice_get plans 0)

abbrev pub told_of : List ProgrammedPlan → RoutedPrograms → List State → apart.Telling
told_of plans ps openings = record {
  count = length ps;
  programs = calls_of ps;
  names = λ groups first. names_text plans groups first (length ps);
  all = TellsPlant everyone plans ps openings;
  alone = λ ours. TellsPlant ours plans (alone ours ps) openings;
  all_unfinished = λ most. IsUnfinished most plans ps openings;
  unfinished = λ most ours. IsUnfinished most plans (alone ours ps) openings;
  apart = AreGroups (tables_of plans);
  smallest = AreSmallest (tables_of plans);
}

abbrev pub IsPlantExploration : ℕ → List ProgrammedPlan → RoutedPrograms → List State → Exploration → Type 0
IsPlantExploration most plans ps openings found = apart.IsExploration most (told_of plans ps openings) found
