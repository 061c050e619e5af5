use Rattle.std.proofs.Common.{◌⊎◌, subst, sym}
use Rattle.plan_app.specs.Failed.{FailsBy, WroteUnread}
use Rattle.plan_app.proofs.serve.serve_plan.Goals as goal

pub returns-in-Check-clause-failed : goal.returns-in-Check-clause-failed
returns-in-Check-clause-failed g c = λ failed.
    let old = g.W.Write.contents c.args.writer.now in
    let new = g.W.Write.contents c.report_script.new.writer in
    subst (λ request. WroteUnread old new ⊎ FailsBy request c.args.plan.now c.args.script.now old new) (sym c.in-Check.is)
    (c.report_script.ensures.failed failed)

pub returns-in-Explore-clause-failed : goal.returns-in-Explore-clause-failed
returns-in-Explore-clause-failed g c = λ failed.
    let old = g.W.Write.contents c.args.writer.now in
    let new = g.W.Write.contents c.explore_script.new.writer in
    subst (λ request. WroteUnread old new ⊎ FailsBy request c.args.plan.now c.args.script.now old new) (sym c.in-Explore.is)
    (c.explore_script.ensures.failed failed)

pub returns-in-Page-clause-failed : goal.returns-in-Page-clause-failed
returns-in-Page-clause-failed g c = λ failed.
    let old = g.W.Write.contents c.args.writer.now in
    let new = g.W.Write.contents c.page_script.new.writer in
    subst (λ request. WroteUnread old new ⊎ FailsBy request c.args.plan.now c.args.script.now old new) (sym c.in-Page.is)
    (c.page_script.ensures.failed failed)

pub returns-in-Run-clause-failed : goal.returns-in-Run-clause-failed
returns-in-Run-clause-failed g c = λ failed.
    let old = g.W.Write.contents c.args.writer.now in
    let new = g.W.Write.contents c.run_script.new.writer in
    subst (λ request. WroteUnread old new ⊎ FailsBy request c.args.plan.now c.args.script.now old new) (sym c.in-Run.is)
    (c.run_script.ensures.failed failed)

pub returns-in-RunPage-clause-failed : goal.returns-in-RunPage-clause-failed
returns-in-RunPage-clause-failed g c = λ failed.
    let old = g.W.Write.contents c.args.writer.now in
    let new = g.W.Write.contents c.run_page_script.new.writer in
    subst (λ request. WroteUnread old new ⊎ FailsBy request c.args.plan.now c.args.script.now old new) (sym c.in-RunPage.is)
    (c.run_page_script.ensures.failed failed)
