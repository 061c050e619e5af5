use Rattle.std.proofs.Common.{◌≡◌, ◌++◌, ◌∙◌, Some, None, IfOk, ap, subst, sym, option_copied}
use Rattle.plan_types.specs.Below.{first_below}
use Rattle.plan_app.specs.Going.{going_text}
use Rattle.plan_app.specs.Pages.{IsFreeText, first_starving, order_by, starving_at}
use Rattle.plan_app.specs.Screens.{AreAnswers, free_line}
use Rattle.plan_app.proofs.Paging.{free_is_page, none_found, order_shown}
use Rattle.plan_app.proofs.page.going_page.Goals as goal

pub film_page-requires-clause-shows : goal.film_page-requires-clause-shows
film_page-requires-clause-shows c =
    let n = c.args.plan.now.named in
    let ps = c.args.plan.now.programs in
    let opening = c.args.opening.now in
    let answers = c.in_ok-answers.answers.items in
    let plates = c.in_ok-plates.plates in
    let who = c.first_starving-who.result in
    let are : AreAnswers n ps opening answers plates = record {
      count = c.in_ok-answers.ensures.count;
      each = c.in_ok-answers.ensures.each;
      moving = c.in_ok-plates.ensures.moving;
      resting = c.in_ok-plates.ensures.resting;
    } in
    let first : who ≡ first_starving ps answers =
    c.first_starving-who.ensures
    ∙ (ap (λ xs. first_below (starving_at xs) c.count.result) c.deref.ensures.value ∙ ap (first_below (starving_at answers)) c.count.ensures.count) in
    let is : order_by n answers plates who ≡ Some c.in-Some.order.now =
    subst (λ xs. order_by n xs plates who ≡ Some c.in-Some.order.now) c.deref-2.ensures.value (sym c.order_by.ensures ∙ ap option_copied c.in-Some.is) in
    order_shown n ps opening c.args.situations answers plates who c.in-Some.order.now _ _ c.requires.free c.requires.runs c.requires.come are first is
    c.in_ok-film-in-Some.ensures.note c.in_ok-film-in-Some.ensures.events

pub returns : goal.returns
returns c = λ most.
    let n = c.args.plan.now.named in
    let ps = c.args.plan.now.programs in
    let opening = c.args.opening.now in
    let answers = c.in_ok-answers.answers.items in
    let plates = c.in_ok-plates.plates in
    let who = c.first_starving-who.result in
    let are : AreAnswers n ps opening answers plates = record {
      count = c.in_ok-answers.ensures.count;
      each = c.in_ok-answers.ensures.each;
      moving = c.in_ok-plates.ensures.moving;
      resting = c.in_ok-plates.ensures.resting;
    } in
    let first : who ≡ first_starving ps answers =
    c.first_starving-who.ensures
    ∙ (ap (λ xs. first_below (starving_at xs) c.count.result) c.deref.ensures.value ∙ ap (first_below (starving_at answers)) c.count.ensures.count) in
    let none : order_by n answers plates (first_starving ps answers) ≡ None =
    subst (λ w. order_by n answers plates w ≡ None) first
    (subst (λ xs. order_by n xs plates who ≡ None) c.deref-2.ensures.value (sym c.order_by.ensures ∙ ap option_copied c.in-None.is)) in
    free_is_page most c.args.plan.now opening c.args.situations answers plates c.free_page.result c.requires.free c.requires.runs c.requires.come are
    (none_found n ps answers plates c.in_ok-answers.ensures.count none)
    (subst (λ xs. IfOk c.free_page.result (λ page. IsFreeText (free_line c.args.situations ++ going_text n ps opening xs plates) page))
    c.deref-in-None.ensures.value c.free_page.ensures)
