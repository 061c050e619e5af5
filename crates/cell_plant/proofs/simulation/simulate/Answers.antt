use Rattle.cell_plant.proofs.Names.{cell_gauges, ◌≡◌, Ok, refl}
use Rattle.cell_plant.specs.Cells.{cell_scales}
use Rattle.cell_plant.proofs.lemmas.Unrefused.{run-unrefused}
use Rattle.cell_plant.proofs.Watched.{none_cut}
use Rattle.cell_plant.specs.Names.{given_by}
use Rattle.cell_plant.specs.declared.observer.NoObserver.{NoObserver}
use Rattle.cell_plant.proofs.simulation.simulate.Goals as goal

pub returns-in-Ok-clause-run : goal.returns-in-Ok-clause-run
returns-in-Ok-clause-run g c = c.in-Ok.ensures.run.tells

pub returns-in-Ok-clause-none_refused : goal.returns-in-Ok-clause-none_refused
returns-in-Ok-clause-none_refused g c =
    run-unrefused (cell_scales c.args.cell) (cell_gauges c.args.cell) c.args.opening c.args.turns.now c.in-Ok.record c.requires.start c.in-Ok.ensures.run.tells

pub returns-in-Err-Memory-clause-no_turn : goal.returns-in-Err-Memory-clause-no_turn
returns-in-Err-Memory-clause-no_turn g c = λ none.
    absurd (none_cut (λ (w : NoObserver) f result v. result ≡ Ok tt) (given_by (record { arm1 = g.F1.Gauge.gives; arm2 = g.F2.Gauge.gives; rotation = g.F3.Gauge.gives; turn = g.F4.Gauge.gives; gripper = g.F5.Gauge.gives })) (cell_scales c.args.cell) (cell_gauges c.args.cell) c.args.opening c.args.turns.now _ _ none (rw c.in-Err-Memory.field-0-is at c.in-Err-Memory.ensures.ended))

pub returns-in-Ok-clause-no_turn : goal.returns-in-Ok-clause-no_turn
returns-in-Ok-clause-no_turn g c = λ _. refl

pub returns-in-Err-Memory-clause-run : goal.returns-in-Err-Memory-clause-run
returns-in-Err-Memory-clause-run g c = tt

pub returns-in-Err-Memory-clause-none_refused : goal.returns-in-Err-Memory-clause-none_refused
returns-in-Err-Memory-clause-none_refused g c = tt
