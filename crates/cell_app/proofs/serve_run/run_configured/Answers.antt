use Rattle.std.proofs.Common.{rules}
use Rattle.cell_configured.proofs.lemmas.Places.{curves_fit, keeps_curve}
use Rattle.cell_app.proofs.PlaceLemmas.{worked_so}
use Rattle.cell_app.proofs.serve_run.run_configured.Goals as goal

pub run_with_gauges-requires-clause-arm1 : goal.run_with_gauges-requires-clause-arm1
run_with_gauges-requires-clause-arm1 g c κs within = keeps_curve c.gauges_on-points.ensures (λ raw low high _ _ _ _ _. (low, high)) (λ raw v k. search rules)

pub run_with_gauges-requires-clause-arm2 : goal.run_with_gauges-requires-clause-arm2
run_with_gauges-requires-clause-arm2 g c κs within = keeps_curve c.gauges_on-points-2.ensures (λ raw low high _ _ _ _ _. (low, high)) (λ raw v k. search rules)

pub run_with_gauges-requires-clause-rotation : goal.run_with_gauges-requires-clause-rotation
run_with_gauges-requires-clause-rotation g c κs within = keeps_curve c.gauges_on-points-3.ensures (λ raw low high _ _ _ _ _. (low, high)) (λ raw v k. search rules)

pub run_with_gauges-requires-clause-turn : goal.run_with_gauges-requires-clause-turn
run_with_gauges-requires-clause-turn g c κs within = keeps_curve c.gauges_on-points-4.ensures (λ raw low high _ _ _ _ _. (low, high)) (λ raw v k. search rules)

pub run_with_gauges-requires-clause-gripper : goal.run_with_gauges-requires-clause-gripper
run_with_gauges-requires-clause-gripper g c κs within = keeps_curve c.gauges_on-points-5.ensures (λ raw low high _ _ _ _ _. (low, high)) (λ raw v k. search rules)

pub run_with_gauges-requires-clause-scales : goal.run_with_gauges-requires-clause-scales
run_with_gauges-requires-clause-scales g c κs within =
    curves_fit _ _ c.requires.points c.requires.curves
    _ _ _ _ _ _
    (record { arm1 = c.gauges_on-points.ensures; arm2 = c.gauges_on-points-2.ensures; rotation = c.gauges_on-points-3.ensures; turn = c.gauges_on-points-4.ensures; gripper = c.gauges_on-points-5.ensures })

pub returns-clause-work : goal.returns-clause-work
returns-clause-work g c =
    let config = c.args.config.now in
    worked_so config.points config.curves c.requires.points c.requires.curves
    _ _ _ _ _
    config.start c.args.tries c.args.turns (g.G.Gate.may_answer c.args.gate.now) c.run_with_gauges.result _ _ c.run_with_gauges.ensures.work
    (record { arm1 = c.gauges_on-points.ensures; arm2 = c.gauges_on-points-2.ensures; rotation = c.gauges_on-points-3.ensures; turn = c.gauges_on-points-4.ensures; gripper = c.gauges_on-points-5.ensures })
    (record { arm1 = λ raw v k. search rules; arm2 = λ raw v k. search rules; rotation = λ raw v k. search rules; turn = λ raw v k. search rules; gripper = λ raw v k. search rules })
