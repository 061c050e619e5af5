use Rattle.std.proofs.Common.{◌⊎◌, subst, sym}
use Rattle.plan_app.specs.Failed.{WroteUnread, wrote_of}
use Rattle.plan_app.specs.Served.{writes_of}
use Rattle.plan_app.proofs.serve_plant.together_from.Goals as goal

pub explore_plant_from-requires-clause-openings : goal.explore_plant_from-requires-clause-openings
explore_plant_from-requires-clause-openings g c = c.requires.openings.count

pub returns-in-Explore-clause-well : goal.returns-in-Explore-clause-well
returns-in-Explore-clause-well g c = λ well.
    let old = g.W.Write.contents c.args.writer.now in
    let new = g.W.Write.contents c.explore_plant_from.new.writer in
    subst (λ task. writes_of task c.args.plant.now c.args.openings.now old new) (sym c.in-Explore.is) (c.explore_plant_from.ensures.free well)

pub returns-in-Explore-clause-failed : goal.returns-in-Explore-clause-failed
returns-in-Explore-clause-failed g c = λ failed.
    let old = g.W.Write.contents c.args.writer.now in
    let new = g.W.Write.contents c.explore_plant_from.new.writer in
    subst (λ task. WroteUnread old new ⊎ wrote_of task c.args.plant.now c.args.openings.now old new) (sym c.in-Explore.is)
    (c.explore_plant_from.ensures.failed failed)

pub returns-in-Run-clause-well : goal.returns-in-Run-clause-well
returns-in-Run-clause-well g c = λ well.
    let old = g.W.Write.contents c.args.writer.now in
    let new = g.W.Write.contents c.run_plant_from.new.writer in
    subst (λ task. writes_of task c.args.plant.now c.args.openings.now old new) (sym c.in-Run.is) (c.run_plant_from.ensures.ran well)

pub returns-in-Run-clause-failed : goal.returns-in-Run-clause-failed
returns-in-Run-clause-failed g c = λ failed.
    let old = g.W.Write.contents c.args.writer.now in
    let new = g.W.Write.contents c.run_plant_from.new.writer in
    subst (λ task. WroteUnread old new ⊎ wrote_of task c.args.plant.now c.args.openings.now old new) (sym c.in-Run.is)
    (c.run_plant_from.ensures.failed failed)
