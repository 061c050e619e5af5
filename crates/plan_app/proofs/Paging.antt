-- Pages: their parts, and what is shown where an order is found, or none.
use Rattle.std.proofs.Common.{◌≡◌, ◌++◌, ◌∙◌, ◌<◌, ℕ, Bool, true, false, List, Option, Some, None, Result, Ok, Err, IfOk, inr, length, ap, refl, subst, sym}
use Rattle.std.proofs.Common.{if◌then◌else◌}
use Rattle.std.proofs.lemmas.List.{append_assoc}
use Rattle.std.proofs.lemmas.Option.{slice_get_within}
use Rattle.std.specs.Prelude.{nat_eq, is_some, ◌||◌}
use Rattle.std.specs.Bool.{then_some}
use Rattle.std.specs.List.{list_any}
use Rattle.std.specs.Option.{option_and_then}
use Rattle.plan_types.proofs.lemmas.Below.{first_below_none, first_of}
use Rattle.plan_rules.specs.declared.state.State.{State}
use Rattle.plan_explorer.specs.Explored.{ComeTo, NoneStandsStill}
use Rattle.plan_explorer.specs.Programs.{PlanPrograms}
use Rattle.plan_explorer.specs.Runs.{NoRunStandsStill}
use Rattle.plan_liveness.specs.declared.answer.FairOrder.{FairOrder}
use Rattle.plan_liveness.specs.declared.answer.Liveness.{Liveness}
use Rattle.plan_liveness.specs.declared.answer.Liveness.TheVariants as liveness
use Rattle.plan_liveness.specs.declared.answer.Progress.{Progress}
use Rattle.plan_liveness.specs.declared.answer.Progress.TheVariants as progress
use Rattle.plan_text.specs.Named.{Named}
use Rattle.plan_text.specs.Names.{Text}
use Rattle.plan_types.specs.declared.answer.Event.{Event}
use Rattle.plan_document.specs.declared.resolving.ProgrammedPlan.{ProgrammedPlan}
use Rattle.plan_app.specs.Going.{going_text}
use Rattle.plan_app.specs.Pages.{IsFreeText, IsPage, Shows, first_starving, order_at, order_by, order_events, order_note, order_of, rest_of, starving_at}
use Rattle.plan_app.specs.Screens.{AreAnswers, free_line}
use Rattle.plan_app.specs.Starving.{any_starves, may_rest, may_starve}
use Rattle.plan_app.specs.declared.page.Page.{Page}
use Rattle.plan_app.specs.declared.page.Page.TheVariants.{Free, Found, Long, Large}
use Rattle.plan_app.proofs.GoingTold.{none_starves}

-- ---- a page, made part by part

pub page_made : (a b c d e head facts middle lines tail : List ℕ) → a ≡ head → b ≡ a ++ facts → c ≡ b ++ middle → d ≡ c ++ lines → e ≡ d ++ tail
    → e ≡ head ++ (facts ++ (middle ++ (lines ++ tail)))
page_made a b c d e head facts middle lines tail begun told between lined ended =
    let whole : (((head ++ facts) ++ middle) ++ lines) ++ tail ≡ head ++ (facts ++ (middle ++ (lines ++ tail))) = simp append_assoc in
    ended ∙ ap (λ x. x ++ tail) (lined ∙ ap (λ x. x ++ lines) (between ∙ ap (λ x. x ++ middle) (told ∙ ap (λ x. x ++ facts) begun))) ∙ whole

-- ---- where no order is found, no machine starves and no plates rest

gives : (b : Bool) (k m : ℕ) → then_some b k ≡ Some m → (b ≡ true) × (k ≡ m)
gives true k m is = let e : k ≡ m = cc in (refl, e)
gives false k m is = absurd (cc)

-- the machine that starves first has an order
has_order : (ps : PlanPrograms) (answers : List Liveness) (m : ℕ) → first_starving ps answers ≡ Some m → is_some (order_at answers m) ≡ true
has_order ps answers m is =
    let first = first_of (starving_at answers) (length ps) m is in
    let both = gives (is_some (order_at answers first.at)) first.at m first.has in
    subst (λ k. is_some (order_at answers k) ≡ true) both.1 both.0

nobody : (n : Named) (ps : PlanPrograms) (answers : List Liveness) (plates : Progress) (who : Option ℕ) → first_starving ps answers ≡ who
    → order_by n answers plates who ≡ None → who ≡ None
nobody n ps answers plates None is none = refl
nobody n ps answers plates (Some m) is none =
    let some : is_some (order_at answers m) ≡ true = has_order ps answers m is in
    let lie : false ≡ true = ap is_some (sym none) ∙ some in absurd (cc)

ends_well : (found : Liveness) → order_of found ≡ None → may_starve found ≡ false
ends_well liveness.Silent none = refl
ends_well (liveness.Always bound) none = refl
ends_well (liveness.IfOne strong bound order) none = absurd (cc)
ends_well (liveness.IfAll bound order) none = absurd (cc)
ends_well (liveness.IfTwo relay order) none = absurd (cc)
ends_well (liveness.Starves order) none = absurd (cc)
ends_well (liveness.Unknown reason) none = refl

without : (b : Bool) (k : ℕ) → then_some b k ≡ None → b ≡ false
without true k none = absurd (cc)
without false k none = refl

no_order : (o : Option FairOrder) → is_some o ≡ false → o ≡ None
no_order None none = refl
no_order (Some order) none = absurd (cc)

machines : (ps : PlanPrograms) (answers : List Liveness) → length answers ≡ length ps → first_starving ps answers ≡ None → list_any may_starve answers ≡ false
machines ps answers many none =
    none_starves answers (λ m found there.
    let few : m < length ps = subst (λ n. m < n) many (slice_get_within answers m found there) in
    let at : order_at answers m ≡ None =
    no_order (order_at answers m) (without (is_some (order_at answers m)) m (first_below_none (starving_at answers) (length ps) none m few)) in
    ends_well found (ap (option_and_then order_of) (sym there) ∙ at))

rests_not : (b : Bool) (plates : Progress) → (if b then None else rest_of plates) ≡ None → (if b then false else may_rest plates) ≡ false
rests_not true plates none = refl
rests_not false (progress.Within bound) none = refl
rests_not false (progress.Starves order) none = absurd (cc)
rests_not false (progress.Unknown reason) none = refl

neither : (a b : Bool) → a ≡ false → b ≡ false → (a || b) ≡ false
neither true b one other = one
neither false b one other = other

pub none_found : (n : Named) (ps : PlanPrograms) (answers : List Liveness) (plates : Progress) → length answers ≡ length ps
    → order_by n answers plates (first_starving ps answers) ≡ None → any_starves n answers plates ≡ false
none_found n ps answers plates many none =
    let nobody_starves : first_starving ps answers ≡ None = nobody n ps answers plates (first_starving ps answers) refl none in
    let rest : order_by n answers plates None ≡ None = subst (λ who. order_by n answers plates who ≡ None) nobody_starves none in
    neither _ _ (machines ps answers many nobody_starves) (rests_not (nat_eq (length n.places) 0) plates rest)

-- ---- what is printed then

pub free_is_page : {E : Type 0} (most : ℕ) (plan : ProgrammedPlan) (opening : State) (situations : ℕ) (answers : List Liveness) (plates : Progress) (r : Result Page E)
    → NoneStandsStill plan.named.plan plan.programs opening → NoRunStandsStill plan.named.plan plan.programs opening
    → ComeTo plan.named.plan plan.programs opening situations → AreAnswers plan.named plan.programs opening answers plates
    → any_starves plan.named answers plates ≡ false
    → IfOk r (λ page. IsFreeText (free_line situations ++ going_text plan.named plan.programs opening answers plates) page)
    → IfOk r (λ page. IsPage most plan opening page)
free_is_page most plan opening situations answers plates (Err e) free runs come are none shown = tt
free_is_page most plan opening situations answers plates (Ok (Free text)) free runs come are none shown = record {
  free = free;
  runs = runs;
  situations = situations;
  come = come;
  answers = answers;
  plates = plates;
  are = are;
  starving = none;
  told = shown;
}
free_is_page most plan opening situations answers plates (Ok (Found text)) free runs come are none shown = absurd shown
free_is_page most plan opening situations answers plates (Ok Long) free runs come are none shown = absurd shown
free_is_page most plan opening situations answers plates (Ok (Large words)) free runs come are none shown = absurd shown

-- ---- an order is found

pub order_shown : (n : Named) (ps : PlanPrograms) (opening : State) (situations : ℕ) (answers : List Liveness) (plates : Progress) (who : Option ℕ) (order : FairOrder)
    (note : Text) (events : List Event) → NoneStandsStill n.plan ps opening → NoRunStandsStill n.plan ps opening → ComeTo n.plan ps opening situations
    → AreAnswers n ps opening answers plates → who ≡ first_starving ps answers → order_by n answers plates who ≡ Some order → note ≡ order_note n who
    → events ≡ order_events n ps opening who order → Shows n ps opening note events
order_shown n ps opening situations answers plates who order note events free runs come are first is noted told =
    inr
    (record {
      free = free;
      runs = runs;
      situations = situations;
      come = come;
      answers = answers;
      plates = plates;
      are = are;
      order = order;
      is = subst (λ w. order_by n answers plates w ≡ Some order) first is;
      noted = subst (λ w. note ≡ order_note n w) first noted;
      told = subst (λ w. events ≡ order_events n ps opening w order) first told;
    })
