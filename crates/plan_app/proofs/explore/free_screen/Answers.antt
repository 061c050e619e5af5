use Rattle.std.proofs.Common.{IfOk, subst}
use Rattle.plan_app.specs.Going.{going_text}
use Rattle.plan_app.specs.Screens.{AreAnswers, ShowsFree}
use Rattle.plan_app.specs.Starving.{any_starves}
use Rattle.plan_app.proofs.Screens.{going_is_shown}
use Rattle.plan_app.proofs.explore.free_screen.Goals as goal

pub returns : goal.returns
returns c =
    let n = c.args.plan.now.named.now in
    let ps = c.args.plan.now.programs.now in
    let opening = c.args.opening.now in
    let answers = c.in_ok-answers.answers.items in
    let plates = c.in_ok-plates.plates in
    let answered : AreAnswers n ps opening answers plates = record {
      count = c.in_ok-answers.ensures.count;
      each = c.in_ok-answers.ensures.each;
      moving = c.in_ok-plates.ensures.moving;
      resting = c.in_ok-plates.ensures.resting;
    } in
    going_is_shown n ps opening (any_starves n) (going_text n ps opening) c.args.situations answers plates c.free_text.result answered
    (subst (λ a. IfOk c.free_text.result
    (λ screen. ShowsFree c.args.situations (going_text n ps opening a plates) (any_starves n a plates) screen))
    c.as_slice.ensures.value c.free_text.ensures)
