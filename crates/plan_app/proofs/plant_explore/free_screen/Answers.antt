use Rattle.std.proofs.Common.{IfOk, length, ◌||◌, subst}
use Rattle.plan_app.specs.PlantGoing.{going_text, machines_of}
use Rattle.plan_app.specs.PlantScreens.{AreAnswers, any_starves, plates_starve}
use Rattle.plan_app.specs.Screens.{ShowsFree}
use Rattle.plan_app.proofs.PlantScreening.{going_is_shown}
use Rattle.plan_app.proofs.plant_explore.free_screen.Goals as goal

pub returns : goal.returns
returns c =
    let ours = machines_of c.args.plant.now.group in
    let plans = c.args.plant.now.plans.now in
    let ps = c.args.plant.now.programs.now.programs in
    let openings = c.args.plant.now.openings.now in
    let answers = c.in_ok-answers.answers.items in
    let plates = c.in_ok-plates.plates in
    let answered : AreAnswers plans ps openings answers = record {
      count = c.in_ok-answers.ensures.count;
      each = c.in_ok-answers.ensures.each;
    } in
    going_is_shown ours plans ps openings c.args.situations answers plates c.free_text.result answered c.in_ok-plates.ensures
    (subst (λ a. IfOk c.free_text.result
    (λ screen. ShowsFree c.args.situations (going_text ours plans ps openings a plates) (any_starves ours a (length ps) || plates_starve ps plates) screen))
    c.as_slice.ensures.value c.free_text.ensures)
