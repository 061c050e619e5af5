-- What was found is what is printed.
use Rattle.std.proofs.Common.{◌≡◌, ℕ, Bool, List, Result, Ok, Err, IfOk, subst, sym}
use Rattle.plan_types.specs.Table.{PlanTable}
use Rattle.plan_rules.specs.declared.state.State.{State}
use Rattle.plan_explorer.specs.declared.exploring.Explored.{Explored}
use Rattle.plan_explorer.specs.declared.exploring.Explored.TheVariants as explored
use Rattle.plan_explorer.specs.Explored.{AreShortest, ComeTo, ComeToMore, IfFree, IfUnfinished, LeadToStandstill, NoneStandsStill, NoneStandsStillBefore}
use Rattle.plan_explorer.specs.Programs.{PlanPrograms}
use Rattle.plan_explorer.specs.Runs.{NoRunStandsStill}
use Rattle.plan_text.specs.Named.{Named}
use Rattle.plan_text.specs.Names.{Text}
use Rattle.plan_liveness.specs.declared.answer.Liveness.{Liveness}
use Rattle.plan_liveness.specs.declared.answer.Progress.{Progress}
use Rattle.plan_app.specs.Screens.{AreAnswers, ByAnswers, IsScreenBy, IsUnfinished, ShowsFree, ShowsGoingBy, ShowsStandstill, outlook_after}
use Rattle.plan_app.specs.declared.explore.Extent.TheVariants.{Fewer}
use Rattle.plan_app.specs.declared.explore.Screen.{Screen}
use Rattle.plan_app.specs.declared.explore.Screen.TheVariants.{Free, Starving, Standstill, Unfinished}

free_is_screen : (most : ℕ) (n : Named) (ps : PlanPrograms) (opening : State) (starves : ByAnswers Bool) (going : ByAnswers Text)
    (situations : ℕ) (screen : Screen) → NoneStandsStill n.plan ps opening → NoRunStandsStill n.plan ps opening
    → ComeTo n.plan ps opening situations → ShowsGoingBy n ps opening starves going situations screen
    → IsScreenBy most n ps opening starves going screen
free_is_screen most n ps opening starves going situations (Free text) none runs come (answers, plates, are, shown) = record {
  free = none;
  runs = runs;
  situations = situations;
  come = come;
  answers = answers;
  plates = plates;
  are = are;
  starving = shown.0;
  told = shown.1;
}
free_is_screen most n ps opening starves going situations (Starving text) none runs come (answers, plates, are, shown) = record {
  free = none;
  runs = runs;
  situations = situations;
  come = come;
  answers = answers;
  plates = plates;
  are = are;
  starving = shown.0;
  told = shown.1;
}
free_is_screen most n ps opening starves going situations (Standstill text) none runs come (answers, plates, are, shown) = absurd shown
free_is_screen most n ps opening starves going situations (Unfinished turns) none runs come (answers, plates, are, shown) = absurd shown

pub free_is_shown : {E : Type 0} (most : ℕ) (n : Named) (ps : PlanPrograms) (opening : State) (starves : ByAnswers Bool)
    (going : ByAnswers Text) (situations : ℕ) (r : Result Screen E) → NoneStandsStill n.plan ps opening
    → NoRunStandsStill n.plan ps opening → ComeTo n.plan ps opening situations
    → IfOk r (λ screen. ShowsGoingBy n ps opening starves going situations screen)
    → IfOk r (λ screen. IsScreenBy most n ps opening starves going screen)
free_is_shown most n ps opening starves going situations (Ok screen) none runs come shown =
    free_is_screen most n ps opening starves going situations screen none runs come shown
free_is_shown most n ps opening starves going situations (Err e) none runs come shown = tt

pub going_is_shown : {E : Type 0} (n : Named) (ps : PlanPrograms) (opening : State) (starves : ByAnswers Bool)
    (going : ByAnswers Text) (situations : ℕ) (answers : List Liveness) (plates : Progress) (r : Result Screen E)
    → AreAnswers n ps opening answers plates
    → IfOk r (λ screen. ShowsFree situations (going answers plates) (starves answers plates) screen)
    → IfOk r (λ screen. ShowsGoingBy n ps opening starves going situations screen)
going_is_shown n ps opening starves going situations answers plates (Ok screen) are shown = (answers, plates, are, shown)
going_is_shown n ps opening starves going situations answers plates (Err e) are shown = tt

standstill_is_screen : (most : ℕ) (n : Named) (ps : PlanPrograms) (opening : State) (starves : ByAnswers Bool)
    (going : ByAnswers Text) (turns : List ℕ) (screen : Screen) → LeadToStandstill n.plan ps opening turns
    → AreShortest n.plan ps opening turns
    → ShowsStandstill n ps opening (outlook_after n ps opening turns) turns screen
    → IsScreenBy most n ps opening starves going screen
standstill_is_screen most n ps opening starves going turns (Free text) lead shortest shown = absurd shown
standstill_is_screen most n ps opening starves going turns (Starving text) lead shortest shown = absurd shown
standstill_is_screen most n ps opening starves going turns (Unfinished fewer) lead shortest shown = absurd shown
standstill_is_screen most n ps opening starves going turns (Standstill text) lead shortest shown = record {
  turns = turns;
  lead = lead;
  shortest = shortest;
  told = shown;
}

pub standstill_is_shown : {E : Type 0} (most : ℕ) (n : Named) (ps : PlanPrograms) (opening : State) (starves : ByAnswers Bool)
    (going : ByAnswers Text) (turns : List ℕ) (r : Result Screen E) → LeadToStandstill n.plan ps opening turns
    → AreShortest n.plan ps opening turns
    → IfOk r (λ screen. ShowsStandstill n ps opening (outlook_after n ps opening turns) turns screen)
    → IfOk r (λ screen. IsScreenBy most n ps opening starves going screen)
standstill_is_shown most n ps opening starves going turns (Ok screen) lead shortest shown =
    standstill_is_screen most n ps opening starves going turns screen lead shortest shown
standstill_is_shown most n ps opening starves going turns (Err e) lead shortest shown = tt

-- ---- by what the exploration answers, of a plan that is this one

pub free_is_found : {E : Type 0} (most : ℕ) (n : Named) (ps : PlanPrograms) (opening : State) (starves : ByAnswers Bool)
    (going : ByAnswers Text) (t : PlanTable) (found : Explored) (situations : ℕ) (r : Result Screen E) → t ≡ n.plan
    → found ≡ explored.Free situations → IfFree found (λ _. NoneStandsStill t ps opening)
    → IfFree found (λ _. NoRunStandsStill t ps opening) → IfFree found (ComeTo t ps opening)
    → IfOk r (λ screen. ShowsGoingBy n ps opening starves going situations screen)
    → IfOk r (λ screen. IsScreenBy most n ps opening starves going screen)
free_is_found most n ps opening starves going t found situations r same is none runs come shown =
    let none_there : NoneStandsStill t ps opening = subst (λ f. IfFree f (λ _. NoneStandsStill t ps opening)) is none in
    let no_run : NoRunStandsStill t ps opening = subst (λ f. IfFree f (λ _. NoRunStandsStill t ps opening)) is runs in
    let so_many : ComeTo t ps opening situations = subst (λ f. IfFree f (ComeTo t ps opening)) is come in
    free_is_shown most n ps opening starves going situations r (subst (λ p. NoneStandsStill p ps opening) same none_there)
    (subst (λ p. NoRunStandsStill p ps opening) same no_run) (subst (λ p. ComeTo p ps opening situations) same so_many) shown

pub standstill_is_found : {E : Type 0} (most : ℕ) (n : Named) (ps : PlanPrograms) (opening : State) (starves : ByAnswers Bool)
    (going : ByAnswers Text) (t : PlanTable) (turns told : List ℕ) (r : Result Screen E) → t ≡ n.plan → told ≡ turns
    → LeadToStandstill t ps opening turns → AreShortest t ps opening turns
    → IfOk r (λ screen. ShowsStandstill n ps opening (outlook_after n ps opening told) told screen)
    → IfOk r (λ screen. IsScreenBy most n ps opening starves going screen)
standstill_is_found most n ps opening starves going t turns told r same all lead shortest shown =
    standstill_is_shown most n ps opening starves going told r
    (subst (λ p. LeadToStandstill p ps opening told) same (subst (LeadToStandstill t ps opening) (sym all) lead))
    (subst (λ p. AreShortest p ps opening told) same (subst (AreShortest t ps opening) (sym all) shortest)) shown

pub unfinished_is_found : (most : ℕ) (n : Named) (ps : PlanPrograms) (opening : State) (t : PlanTable) (found : Explored) (turns : ℕ)
    → t ≡ n.plan → found ≡ explored.Unfinished turns → IfUnfinished found (λ _. ComeToMore t ps opening most)
    → IfUnfinished found (NoneStandsStillBefore t ps opening) → IsUnfinished most n ps opening (Fewer turns)
unfinished_is_found most n ps opening t found turns same is more before =
    let many : ComeToMore t ps opening most = subst (λ f. IfUnfinished f (λ _. ComeToMore t ps opening most)) is more in
    let none : NoneStandsStillBefore t ps opening turns = subst (λ f. IfUnfinished f (NoneStandsStillBefore t ps opening)) is before in
    record {
      more = subst (λ p. ComeToMore p ps opening most) same many;
      none = subst (λ p. NoneStandsStillBefore p ps opening turns) same none;
    }
