use Rattle.explore_app.proofs.Answered.{answered}
use Rattle.explore_app.proofs.serve.print_answer.Goals as goal

pub returns-in-Ok-screen_for : goal.returns-in-Ok-screen_for
returns-in-Ok-screen_for g c =
    answered c.args.question c.in-Ok.config c.in-Ok-screen_for.screen _ _ c.in-Ok-screen_for.ensures c.print_screen.result c.status-in-Ok-screen_for.result c.status-in-Ok-screen_for.ensures _ _ c.in-Ok.ensures.says
    c.print_screen.ensures.status c.print_screen.ensures.well c.print_screen.ensures.failed c.in-Ok.ensures.taken
