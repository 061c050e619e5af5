use Rattle.cell_threads.proofs.Names.{◌∙◌, ap, subst, refl, PassView, no_counts, side_of, IsWorkerResult, worker_moment}
use Rattle.cell_threads.proofs.lemmas.Passes.{gives_back}
use Rattle.cell_threads.proofs.worker_result.take_turns_by_pass.Goals as goal

pub returns : goal.returns
returns g c =
    let unit = c.args.unit in
    let line = c.new-line in
    let done = c.take_turns-ending in
    let steps = g.P.Program.steps unit.controller.program in
    let rig = g.B.Part.rig (g.B.Part.make unit.part) in
    let side = side_of unit.controller.progress unit.controller.stopped (g.B.Part.state unit.part) in
    let now = side_of done.new.unit.controller.progress done.new.unit.controller.stopped (g.B.Part.state done.new.unit.part) in
    subst (λ (v : PassView). IsWorkerResult c.args.interlock.now.tries steps rig (g.G.Gate.may_answer c.args.gate.now v.machine) c.args.turns (worker_moment v side no_counts) c.into_parts-pass.result.0 c.into_parts-pass.result.1.items done.result.counts done.result.status (g.B.Part.state done.new.unit.part))
    line.ensures.pass
    (gives_back c.args.interlock.now.tries steps rig (g.G.Gate.may_answer c.args.gate.now line.result.pass.machine) c.args.turns
    (worker_moment line.result side no_counts) (worker_moment done.new.line now done.result.counts) done.result.status line.ensures.tries (ap (λ v. v.seen) line.ensures.pass ∙ c.requires.fresh) refl done.ensures.ended
    _ _ _ _ c.into_parts-pass.ensures.pass c.into_parts-pass.ensures.journal refl refl)
