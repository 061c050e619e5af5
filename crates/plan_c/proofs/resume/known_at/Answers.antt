use Rattle.std.proofs.Common.{◌∙◌, ◌<◌, get_or, length, map, sym, ap, arith}
use Rattle.plan_drives.specs.Facts.{facts_after_line}
use Rattle.plan_drives.proofs.lemmas.Going.{facts_next}
use Rattle.plan_controller.specs.declared.step.Step.TheVariants.{Await}
use Rattle.plan_controller.specs.Steps.{line_of}
use Rattle.plan_c.proofs.Resuming.{row_at, line_at}
use Rattle.plan_c.proofs.resume.known_at.Goals as goal

pub loop-before-preserved : goal.loop-before-preserved
loop-before-preserved c = λ steps same.
    let a = c.args in
    let t = a.plan.now in
    let k = c.loop-before.before in
    let step = get_or steps k (Await 0) in
    let inside : k < length a.program.now = omega (arith, c.loop-before-test.true, c.requires.inside) in
    c.known_after-known.ensures step (row_at a.program.now steps k _ same inside)
    ∙ ap (λ known. facts_after_line t known (line_of step)) (c.loop-before.invariant steps same)
    ∙ sym (facts_next t a.machine (map line_of steps) k (line_of step) (line_at a.program.now steps k same inside))
