use Rattle.cell_plant.proofs.Names.{◌≡◌, take, Ok}
use Rattle.cell_plant.specs.Names.{given_by}
use Rattle.cell_plant.proofs.Watched.{Watched}
use Rattle.cell_plant.proofs.simulation.Simulation.run.Given as goal

abbrev pub invariant-turns : goal.invariant-turns
invariant-turns g l = record {
  scales : l.self.scales ≡ l.fn.self.scales;
  gauges : l.self.gauges ≡ l.fn.self.gauges;
  opening : l.self.opening ≡ l.opening;
  watched : Watched g.W.Observer.sees (given_by (record { arm1 = g.F1.Gauge.gives; arm2 = g.F2.Gauge.gives; rotation = g.F3.Gauge.gives; turn = g.F4.Gauge.gives; gripper = g.F5.Gauge.gives })) l.fn.observer l.observer (take l.turn-index l.turns) (Ok tt) l.self;
}
