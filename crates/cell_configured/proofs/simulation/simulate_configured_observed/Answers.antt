use Rattle.std.proofs.Common.{map, rules}
use Rattle.cell_sensors.specs.Curve.{pairs_of}
use Rattle.cell_plant.specs.Machines.{on_curves}
use Rattle.cell_configured.proofs.lemmas.Places.{curves_fit, curves_in_order, keeps_curve, on_curves_as}
use Rattle.cell_configured.proofs.Shown.{sees_both}
use Rattle.cell_configured.proofs.simulation.simulate_configured_observed.Goals as goal

pub show_with_gauges-requires-clause-arm1 : goal.show_with_gauges-requires-clause-arm1
show_with_gauges-requires-clause-arm1 g c = keeps_curve c.points.ensures (λ raw low high _ _ _ _ _. (low, high)) (λ raw v k. search rules)

pub show_with_gauges-requires-clause-arm2 : goal.show_with_gauges-requires-clause-arm2
show_with_gauges-requires-clause-arm2 g c = keeps_curve c.points-2.ensures (λ raw low high _ _ _ _ _. (low, high)) (λ raw v k. search rules)

pub show_with_gauges-requires-clause-rotation : goal.show_with_gauges-requires-clause-rotation
show_with_gauges-requires-clause-rotation g c = keeps_curve c.points-3.ensures (λ raw low high _ _ _ _ _. (low, high)) (λ raw v k. search rules)

pub show_with_gauges-requires-clause-turn : goal.show_with_gauges-requires-clause-turn
show_with_gauges-requires-clause-turn g c = keeps_curve c.points-4.ensures (λ raw low high _ _ _ _ _. (low, high)) (λ raw v k. search rules)

pub show_with_gauges-requires-clause-gripper : goal.show_with_gauges-requires-clause-gripper
show_with_gauges-requires-clause-gripper g c = keeps_curve c.points-5.ensures (λ raw low high _ _ _ _ _. (low, high)) (λ raw v k. search rules)

pub show_with_gauges-requires-clause-scales : goal.show_with_gauges-requires-clause-scales
show_with_gauges-requires-clause-scales g c =
    curves_fit _ _ c.requires.points c.requires.curves
    c.index-config-0.result c.index-config-1.result c.index-config-2.result c.index-config-3.result c.index-config-4.result _
    (record { arm1 = c.points.ensures; arm2 = c.points-2.ensures; rotation = c.points-3.ensures; turn = c.points-4.ensures; gripper = c.points-5.ensures })

pub returns : goal.returns
returns g c =
    let seen =
    sees_both g.W.Observer.sees _ _ (on_curves (map pairs_of c.args.config.now.curves))
    c.args.config.now.points c.args.config.now.start _ c.args.observer.now c.show_with_gauges.new.observer
    (curves_in_order _ _ c.requires.points c.requires.curves
    c.index-config-0.result c.index-config-1.result c.index-config-2.result c.index-config-3.result c.index-config-4.result _
    (record { arm1 = c.points.ensures; arm2 = c.points-2.ensures; rotation = c.points-3.ensures; turn = c.points-4.ensures; gripper = c.points-5.ensures }))
    c.show_with_gauges.result c.show_with_gauges.ensures.run c.show_with_gauges.ensures.ended
    (on_curves_as _ _ c.requires.points c.requires.curves
    c.index-config-0.result c.index-config-1.result c.index-config-2.result c.index-config-3.result c.index-config-4.result _ _
    (record { arm1 = λ raw v k. search rules; arm2 = λ raw v k. search rules; rotation = λ raw v k. search rules; turn = λ raw v k. search rules; gripper = λ raw v k. search rules })) in
    record { run = seen.0; ended = seen.1 }
