-- What was found of all words of a plant together is what is printed.
use Rattle.std.proofs.Common.{◌≡◌, ◌∙◌, ◌+◌, ◌<◌, ◌++◌, ◌∷◌, ◌||◌, [], ℕ, Bool, List, Result, Ok, Err, IfOk, ap, get_or, inl, inr, length}
use Rattle.std.proofs.Common.{map, subst, sym, take}
use Rattle.std.proofs.lemmas.List.{length-map, map-append, take_more}
use Rattle.plan_types.specs.Table.{PlanTable}
use Rattle.plan_rules.specs.declared.state.State.{State}
use Rattle.plan_explorer.specs.declared.exploring.Explored.{Explored}
use Rattle.plan_explorer.specs.declared.exploring.Explored.TheVariants as explored
use Rattle.plan_explorer.specs.Explored.{IfFree, IfUnfinished}
use Rattle.plan_explorer.specs.PlantExplored.{AreShortest, ComeTo, ComeToMore, LeadToStandstill, NoneStandsStill}
use Rattle.plan_explorer.specs.PlantExplored.{NoneStandsStillBefore}
use Rattle.plan_explorer.specs.PlantPrograms.{RoutedPrograms}
use Rattle.plan_explorer.specs.Plants.{first_situation}
use Rattle.plan_liveness.specs.declared.answer.Liveness.{Liveness}
use Rattle.plan_liveness.specs.declared.answer.Progress.{Progress}
use Rattle.plan_liveness.specs.PlantPlates.{IsPlateProgress}
use Rattle.plan_document.specs.declared.resolving.ProgrammedPlan.{ProgrammedPlan}
use Rattle.plan_app.specs.PlantGoing.{going_text}
use Rattle.plan_app.specs.Apart.{told_by}
use Rattle.plan_app.specs.PlantScreens.{AreAnswers, IsPart, IsPlantScreen, IsUnfinished, ShowsGoing, ShowsStandstill}
use Rattle.plan_app.specs.PlantScreens.{any_starves, plates_starve}
use Rattle.plan_app.specs.PlantStarts.{tables_of}
use Rattle.plan_app.specs.Screens.{ShowsFree}
use Rattle.plan_app.specs.declared.explore.Extent.TheVariants.{Fewer, Any}
use Rattle.plan_app.specs.declared.explore.Screen.{Screen}
use Rattle.plan_app.specs.declared.explore.Screen.TheVariants.{Free, Starving, Standstill, Unfinished}

-- ---- no standstill

free_is_screen : (most : ℕ) (ours : ℕ → Bool) (plans : List ProgrammedPlan) (ps : RoutedPrograms) (openings : List State) (situations : ℕ)
    (screen : Screen) → NoneStandsStill (tables_of plans) ps openings → ComeTo (tables_of plans) ps openings situations
    → ShowsGoing ours plans ps openings situations screen → IsPlantScreen most ours plans ps openings screen
free_is_screen most ours plans ps openings situations (Free text) none come (answers, plates, are, moving, shown) = record {
  free = none;
  situations = situations;
  come = come;
  answers = answers;
  are = are;
  plates = plates;
  moving = moving;
  starving = shown.0;
  told = shown.1;
}
free_is_screen most ours plans ps openings situations (Starving text) none come (answers, plates, are, moving, shown) = record {
  free = none;
  situations = situations;
  come = come;
  answers = answers;
  are = are;
  plates = plates;
  moving = moving;
  starving = shown.0;
  told = shown.1;
}
free_is_screen most ours plans ps openings situations (Standstill text) none come (answers, plates, are, moving, shown) = absurd shown
free_is_screen most ours plans ps openings situations (Unfinished turns) none come (answers, plates, are, moving, shown) = absurd shown

free_is_shown : {E : Type 0} (most : ℕ) (ours : ℕ → Bool) (plans : List ProgrammedPlan) (ps : RoutedPrograms) (openings : List State)
    (situations : ℕ) (r : Result Screen E) → NoneStandsStill (tables_of plans) ps openings
    → ComeTo (tables_of plans) ps openings situations
    → IfOk r (λ screen. ShowsGoing ours plans ps openings situations screen)
    → IfOk r (λ screen. IsPlantScreen most ours plans ps openings screen)
free_is_shown most ours plans ps openings situations (Ok screen) none come shown =
    free_is_screen most ours plans ps openings situations screen none come shown
free_is_shown most ours plans ps openings situations (Err e) none come shown = tt

pub going_is_shown : {E : Type 0} (ours : ℕ → Bool) (plans : List ProgrammedPlan) (ps : RoutedPrograms) (openings : List State) (situations : ℕ)
    (answers : List Liveness) (plates : Progress) (r : Result Screen E) → AreAnswers plans ps openings answers
    → IsPlateProgress (tables_of plans) ps (first_situation openings) plates
    → IfOk r (λ screen. ShowsFree situations (going_text ours plans ps openings answers plates) (any_starves ours answers (length ps) || plates_starve ps plates) screen)
    → IfOk r (λ screen. ShowsGoing ours plans ps openings situations screen)
going_is_shown ours plans ps openings situations answers plates (Ok screen) are moving shown = (answers, plates, are, moving, shown)
going_is_shown ours plans ps openings situations answers plates (Err e) are moving shown = tt

-- ---- a standstill

standstill_is_screen : (most : ℕ) (ours : ℕ → Bool) (plans : List ProgrammedPlan) (ps : RoutedPrograms) (openings : List State)
    (turns : List ℕ) (screen : Screen) → LeadToStandstill (tables_of plans) ps openings turns
    → AreShortest (tables_of plans) ps openings turns → ShowsStandstill plans ps openings turns screen
    → IsPlantScreen most ours plans ps openings screen
standstill_is_screen most ours plans ps openings turns (Free text) lead shortest shown = absurd shown
standstill_is_screen most ours plans ps openings turns (Starving text) lead shortest shown = absurd shown
standstill_is_screen most ours plans ps openings turns (Unfinished fewer) lead shortest shown = absurd shown
standstill_is_screen most ours plans ps openings turns (Standstill text) lead shortest shown = record {
  turns = turns;
  lead = lead;
  shortest = shortest;
  told = shown;
}

standstill_is_shown : {E : Type 0} (most : ℕ) (ours : ℕ → Bool) (plans : List ProgrammedPlan) (ps : RoutedPrograms) (openings : List State)
    (turns : List ℕ) (r : Result Screen E) → LeadToStandstill (tables_of plans) ps openings turns
    → AreShortest (tables_of plans) ps openings turns
    → IfOk r (λ screen. ShowsStandstill plans ps openings turns screen)
    → IfOk r (λ screen. IsPlantScreen most ours plans ps openings screen)
standstill_is_shown most ours plans ps openings turns (Ok screen) lead shortest shown =
    standstill_is_screen most ours plans ps openings turns screen lead shortest shown
standstill_is_shown most ours plans ps openings turns (Err e) lead shortest shown = tt

-- ---- by what the exploration answers, of these tables

pub free_is_found : {E : Type 0} (most : ℕ) (ours : ℕ → Bool) (plans : List ProgrammedPlan) (ps : RoutedPrograms) (openings : List State)
    (ts : List PlanTable) (found : Explored) (situations : ℕ) (r : Result Screen E) → ts ≡ tables_of plans
    → found ≡ explored.Free situations → IfFree found (λ _. NoneStandsStill ts ps openings)
    → IfFree found (ComeTo ts ps openings) → IfOk r (λ screen. ShowsGoing ours plans ps openings situations screen)
    → IfOk r (λ screen. IsPlantScreen most ours plans ps openings screen)
free_is_found most ours plans ps openings ts found situations r tables is none come shown =
    let none_there = subst (λ f. IfFree f (λ _. NoneStandsStill ts ps openings)) is none in
    let so_many = subst (λ f. IfFree f (ComeTo ts ps openings)) is come in
    free_is_shown most ours plans ps openings situations r (subst (λ t. NoneStandsStill t ps openings) tables none_there)
    (subst (λ t. ComeTo t ps openings situations) tables so_many) shown

pub standstill_is_found : {E : Type 0} (most : ℕ) (ours : ℕ → Bool) (plans : List ProgrammedPlan) (ps : RoutedPrograms) (openings : List State)
    (ts : List PlanTable) (turns told : List ℕ) (r : Result Screen E) → ts ≡ tables_of plans → told ≡ turns
    → LeadToStandstill ts ps openings turns → AreShortest ts ps openings turns
    → IfOk r (λ screen. ShowsStandstill plans ps openings told screen)
    → IfOk r (λ screen. IsPlantScreen most ours plans ps openings screen)
standstill_is_found most ours plans ps openings ts turns told r tables all lead shortest shown =
    standstill_is_shown most ours plans ps openings told r
    (subst (λ t. LeadToStandstill t ps openings told) tables (subst (LeadToStandstill ts ps openings) (sym all) lead))
    (subst (λ t. AreShortest t ps openings told) tables (subst (AreShortest ts ps openings) (sym all) shortest)) shown

pub unfinished_is_found : (most : ℕ) (plans : List ProgrammedPlan) (ps : RoutedPrograms) (openings : List State)
    (ts : List PlanTable) (found : Explored) (turns : ℕ) → ts ≡ tables_of plans → found ≡ explored.Unfinished turns
    → IfUnfinished found (λ _. ComeToMore ts ps openings most) → IfUnfinished found (NoneStandsStillBefore ts ps openings)
    → IsUnfinished most plans ps openings (Fewer turns)
unfinished_is_found most plans ps openings ts found turns tables is more before =
    let many = subst (λ f. IfUnfinished f (λ _. ComeToMore ts ps openings most)) is more in
    let none = subst (λ f. IfUnfinished f (NoneStandsStillBefore ts ps openings)) is before in
    record {
      more = subst (λ t. ComeToMore t ps openings most) tables many;
      none = subst (λ t. NoneStandsStillBefore t ps openings turns) tables none;
    }

-- where no turns at all lead to a standstill, of more situations than a limit
pub none_is_sought : (most : ℕ) (plans : List ProgrammedPlan) (ps : RoutedPrograms) (openings : List State)
    (ts : List PlanTable) (sought : Explored) (looked : ℕ) → ts ≡ tables_of plans → ComeToMore (tables_of plans) ps openings most
    → sought ≡ explored.Free looked → IfFree sought (λ _. NoneStandsStill ts ps openings)
    → IsUnfinished most plans ps openings Any
none_is_sought most plans ps openings ts sought looked tables more is none =
    let never = subst (λ f. IfFree f (λ _. NoneStandsStill ts ps openings)) is none in
    record { more = more; none = subst (λ t. NoneStandsStill t ps openings) tables never }

-- a screen has the facts of what it tells
pub plant_told : (most : ℕ) (ours : ℕ → Bool) (plans : List ProgrammedPlan) (ps : RoutedPrograms) (openings : List State)
    (screen : Screen) → IsPlantScreen most ours plans ps openings screen → IsPart most ours plans ps openings (told_by screen)
plant_told most ours plans ps openings (Free text) is = is
plant_told most ours plans ps openings (Starving text) is = inr is
plant_told most ours plans ps openings (Standstill text) is = inl is
plant_told most ours plans ps openings (Unfinished extent) is = is

-- the tables of one word more
pub table_more : (plans : List ProgrammedPlan) (word : ℕ) (plan : ProgrammedPlan) (before after : List PlanTable) → word < length plans
    → plan ≡ get_or plans word plan → before ≡ tables_of (take word plans) → after ≡ before ++ plan.named.plan ∷ []
    → after ≡ tables_of (take (word + 1) plans)
table_more plans word plan before after few is so_far pushed =
    let more : take (word + 1) plans ≡ take word plans ++ plan ∷ [] = take_more plans word plan few ∙ ap (λ x. take word plans ++ x ∷ []) (sym is) in
    pushed ∙ ap (λ ts. ts ++ plan.named.plan ∷ []) so_far
    ∙ sym (ap tables_of more ∙ map-append (λ (p : ProgrammedPlan). p.named.plan) (take word plans) (plan ∷ []))

-- as many tables as words
pub table_count : {R : Type 0} (now : R → PlanTable) (tables : List R) (plans : List ProgrammedPlan) → map now tables ≡ tables_of plans
    → length tables ≡ length plans
table_count now tables plans are = sym (length-map tables now) ∙ ap length are ∙ length-map plans (λ (p : ProgrammedPlan). p.named.plan)
