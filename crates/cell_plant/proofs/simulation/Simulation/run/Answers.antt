use Rattle.cell_plant.proofs.Names.{◌∙◌, ◌<◌, ◌+◌, [], take, drop, Ok, Err, sym, ap, refl, arith, take_all, take_more, take-append-drop, Observer, RunMoment}
use Rattle.cell_plant.specs.declared.observer.SeenFault.TheVariants.{Memory}
use Rattle.cell_plant.specs.Names.{given_by}
use Rattle.cell_plant.proofs.lemmas.RunSoFar.{room_left, taken-length}
use Rattle.cell_plant.proofs.Watched.{starts_watched, goes_on_watched, sees_all, sees_some, some_left}
use Rattle.cell_plant.proofs.simulation.Simulation.run.Goals as goal

pub returns-in-Err-clause-ended : goal.returns-in-Err-clause-ended
returns-in-Err-clause-ended g c =
    let sees = g.W.Observer.sees in
    let gives = (given_by (record { arm1 = g.F1.Gauge.gives; arm2 = g.F2.Gauge.gives; rotation = g.F3.Gauge.gives; turn = g.F4.Gauge.gives; gripper = g.F5.Gauge.gives })) in
    let old = c.args.self.now in
    let fault = c.in-Err.fault in
    sees_some sees gives old.scales old.gauges c.args.opening [] c.args.turns.now c.args.turns.now old c.args.observer.now c.show.new.observer (Observer fault) refl tt refl refl (ap (λ (m : RunMoment _). m.opening) c.requires.begins)
    (starts_watched sees gives c.args.opening old c.args.observer.now c.show.new.observer (Err fault) c.requires.begins c.in-Err.ensures)

pub turns-init : goal.turns-init
turns-init g c =
    record {
      scales = refl;
      gauges = refl;
      opening = ap (λ (m : RunMoment _). m.opening) c.requires.begins;
      watched = starts_watched g.W.Observer.sees (given_by (record { arm1 = g.F1.Gauge.gives; arm2 = g.F2.Gauge.gives; rotation = g.F3.Gauge.gives; turn = g.F4.Gauge.gives; gripper = g.F5.Gauge.gives })) c.args.opening c.args.self.now c.args.observer.now c.show.new.observer (Ok tt) c.requires.begins c.in_default.ensures;
    }

pub turn-requires : goal.turn-requires
turn-requires g c =
    let i = c.turns.turn-index in
    let few : i < 18446744073709551615 = omega arith in
    record { room = room_left (given_by (record { arm1 = g.F1.Gauge.gives; arm2 = g.F2.Gauge.gives; rotation = g.F3.Gauge.gives; turn = g.F4.Gauge.gives; gripper = g.F5.Gauge.gives })) (take i c.args.turns.now) _ i c.turns.invariant.watched.run (taken-length i c.args.turns.now c.turns-test.true) few }

pub returns-in_default-turn-clause-ended : goal.returns-in_default-turn-clause-ended
returns-in_default-turn-clause-ended g c =
    let i = c.turns.turn-index in
    let now = c.turns.invariant in
    let old = c.args.self.now in
    sees_some g.W.Observer.sees (given_by (record { arm1 = g.F1.Gauge.gives; arm2 = g.F2.Gauge.gives; rotation = g.F3.Gauge.gives; turn = g.F4.Gauge.gives; gripper = g.F5.Gauge.gives })) old.scales old.gauges c.args.opening (take i c.args.turns.now) (drop i c.args.turns.now) c.args.turns.now _ c.args.observer.now c.turns.observer Memory
    (sym (take-append-drop i c.args.turns.now)) (some_left i c.args.turns.now c.turns-test.true) now.scales now.gauges now.opening now.watched

pub returns-in-Err-show-clause-ended : goal.returns-in-Err-show-clause-ended
returns-in-Err-show-clause-ended g c =
    let gives = (given_by (record { arm1 = g.F1.Gauge.gives; arm2 = g.F2.Gauge.gives; rotation = g.F3.Gauge.gives; turn = g.F4.Gauge.gives; gripper = g.F5.Gauge.gives })) in
    let i = c.turns.turn-index in
    let now = c.turns.invariant in
    let on = c.in-Ok.ensures in
    let old = c.args.self.now in
    sees_some g.W.Observer.sees gives old.scales old.gauges c.args.opening (take (i + 1) c.args.turns.now) (drop (i + 1) c.args.turns.now) c.args.turns.now _ c.args.observer.now c.show-in-turns.new.observer
    (Observer c.in-Err-show.fault) (sym (take-append-drop (i + 1) c.args.turns.now)) tt (on.scales ∙ now.scales) (on.gauges ∙ now.gauges) (on.opening ∙ now.opening)
    (goes_on_watched g.W.Observer.sees gives (take i c.args.turns.now) _ _ _ _ c.args.observer.now c.turns.observer c.show-in-turns.new.observer (Err c.in-Err-show.fault) now.watched on c.in-Err-show.ensures (take (i + 1) c.args.turns.now)
    (take_more c.args.turns.now i _ c.turns-test.true))

pub turns-preserved : goal.turns-preserved
turns-preserved g c =
    let i = c.turns.turn-index in
    let now = c.turns.invariant in
    let on = c.in-Ok.ensures in
    record {
      scales = on.scales ∙ now.scales;
      gauges = on.gauges ∙ now.gauges;
      opening = on.opening ∙ now.opening;
      watched = goes_on_watched g.W.Observer.sees (given_by (record { arm1 = g.F1.Gauge.gives; arm2 = g.F2.Gauge.gives; rotation = g.F3.Gauge.gives; turn = g.F4.Gauge.gives; gripper = g.F5.Gauge.gives })) (take i c.args.turns.now) _ _ _ _ c.args.observer.now c.turns.observer c.show-in-turns.new.observer (Ok tt) now.watched on c.in_default-show.ensures (take (i + 1) c.args.turns.now)
          (take_more c.args.turns.now i _ c.turns-test.true);
    }

pub returns-clause-run : goal.returns-clause-run
returns-clause-run g c =
    let i = c.turns.turn-index in
    let now = c.turns.invariant in
    let old = c.args.self.now in
    sees_all g.W.Observer.sees (given_by (record { arm1 = g.F1.Gauge.gives; arm2 = g.F2.Gauge.gives; rotation = g.F3.Gauge.gives; turn = g.F4.Gauge.gives; gripper = g.F5.Gauge.gives })) old.scales old.gauges c.args.opening (take i c.args.turns.now) c.args.turns.now _ c.args.observer.now c.turns.observer _ (take_all i c.args.turns.now c.turns-test.false) now.scales now.gauges now.opening c.requires.scales c.requires.start now.watched c.take_record.ensures
