use Rattle.cell_plant.proofs.Names.{◌≡◌, IfOk, sym, subst, refl, AreCellScales, RunMoment, first_moment, SeesRun, SeesBeginning}
use Rattle.std.specs.Prelude.{IfErr}
use Rattle.cell_plant.specs.Names.{given_by}
use Rattle.cell_plant.proofs.simulation.simulate_observed.Goals as goal

pub run-requires-clause-begins : goal.run-requires-clause-begins
run-requires-clause-begins g c = subst (λ (m : RunMoment _). m ≡ first_moment m.scales m.gauges c.args.opening) (sym c.new-simulation.ensures) refl

pub run-requires-clause-scales : goal.run-requires-clause-scales
run-requires-clause-scales g c = subst (λ (m : RunMoment _). AreCellScales m.scales) (sym c.new-simulation.ensures) c.requires.scales

pub returns-clause-run : goal.returns-clause-run
returns-clause-run g c =
    let gives = (given_by (record { arm1 = g.F1.Gauge.gives; arm2 = g.F2.Gauge.gives; rotation = g.F3.Gauge.gives; turn = g.F4.Gauge.gives; gripper = g.F5.Gauge.gives })) in
    subst (λ (m : RunMoment _). IfOk c.run.result (SeesRun g.W.Observer.sees m.scales (gives m.gauges) c.args.opening c.args.turns.now c.args.observer.now c.run.new.observer)) c.new-simulation.ensures c.run.ensures.run

pub returns-clause-ended : goal.returns-clause-ended
returns-clause-ended g c =
    let gives = (given_by (record { arm1 = g.F1.Gauge.gives; arm2 = g.F2.Gauge.gives; rotation = g.F3.Gauge.gives; turn = g.F4.Gauge.gives; gripper = g.F5.Gauge.gives })) in
    subst (λ (m : RunMoment _). IfErr c.run.result (SeesBeginning g.W.Observer.sees m.scales (gives m.gauges) c.args.opening c.args.turns.now c.args.observer.now c.run.new.observer)) c.new-simulation.ensures c.run.ensures.ended
