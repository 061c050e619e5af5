use Rattle.cell_plant.proofs.Names.{◌∙◌, refl, sym, ap, subst, HasRoom, at_machine, cell_scales, five_gauges, RunMoment}
use Rattle.cell_types.specs.declared.machine.Machine.TheVariants.{Feed, Table, Robot, Press, Deposit, Crane, Watch}
use Rattle.cell_plant.proofs.Stepping.{grows, others_stay, unit_on, feed_others, table_others, robot_others, press_others, deposit_others, crane_others, watch_others, with_turn, with_robot, with_gripper}
use Rattle.cell_plant.specs.Simulations.{moment_of}
use Rattle.cell_plant.proofs.simulation.Simulation.turn.Goals as goal

pub take_bench_turn-requires-clause-room : goal.take_bench_turn-requires-clause-room
take_bench_turn-requires-clause-room g c = subst (λ (m : RunMoment _). HasRoom (at_machine m.notes Feed).counts) (sym c.self.view_is) (c.requires.room Feed)

pub take_bench_turn-requires-in-Table-clause-room : goal.take_bench_turn-requires-in-Table-clause-room
take_bench_turn-requires-in-Table-clause-room g c = subst (λ (m : RunMoment _). HasRoom (at_machine m.notes Table).counts) (sym c.self.view_is) (c.requires.room Table)

pub take_bench_turn-requires-in-Robot-clause-room : goal.take_bench_turn-requires-in-Robot-clause-room
take_bench_turn-requires-in-Robot-clause-room g c = subst (λ (m : RunMoment _). HasRoom (at_machine m.notes Robot).counts) (sym c.self.view_is) (c.requires.room Robot)

pub take_bench_turn-requires-in-Press-clause-room : goal.take_bench_turn-requires-in-Press-clause-room
take_bench_turn-requires-in-Press-clause-room g c = subst (λ (m : RunMoment _). HasRoom (at_machine m.notes Press).counts) (sym c.self.view_is) (c.requires.room Press)

pub take_bench_turn-requires-in-Deposit-clause-room : goal.take_bench_turn-requires-in-Deposit-clause-room
take_bench_turn-requires-in-Deposit-clause-room g c = subst (λ (m : RunMoment _). HasRoom (at_machine m.notes Deposit).counts) (sym c.self.view_is) (c.requires.room Deposit)

pub take_bench_turn-requires-in-Crane-clause-room : goal.take_bench_turn-requires-in-Crane-clause-room
take_bench_turn-requires-in-Crane-clause-room g c = subst (λ (m : RunMoment _). HasRoom (at_machine m.notes Crane).counts) (sym c.self.view_is) (c.requires.room Crane)

pub take_bench_turn-requires-in-Watch-clause-room : goal.take_bench_turn-requires-in-Watch-clause-room
take_bench_turn-requires-in-Watch-clause-room g c = subst (λ (m : RunMoment _). HasRoom (at_machine m.notes Watch).counts) (sym c.self.view_is) (c.requires.room Watch)

pub invariant_of-self : goal.invariant_of-self
invariant_of-self g c =
    let old = c.self.invariant in
    let fitted = old.fitted in
    let done = c.take_bench_turn.ensures in
    let rest = others_stay old (grows c.take_bench_turn.result _ _ _ _ _ _ _ _ _ done.turn done.failed) refl refl in
    record {
      fitted = record { arm1 = fitted.arm1; arm2 = fitted.arm2; rotation = fitted.rotation; turn = fitted.turn; gripper = fitted.gripper };
      feed = done.ready;
      table = rest Table refl;
      robot = rest Robot refl;
      press = rest Press refl;
      deposit = rest Deposit refl;
      crane = rest Crane refl;
      watch = rest Watch refl;
    }

pub invariant_of-self-in-Table : goal.invariant_of-self-in-Table
invariant_of-self-in-Table g c =
    let old = c.self.invariant in
    let fitted = old.fitted in
    let done = c.take_bench_turn-in-Table.ensures in
    let rest = others_stay old (grows c.take_bench_turn-in-Table.result _ _ _ _ _ _ _ _ _ done.turn done.failed) refl refl in
    record {
      fitted = record {
        arm1 = fitted.arm1;
        arm2 = fitted.arm2;
        rotation = fitted.rotation;
        turn = done.make ∙ fitted.turn ∙ sym (ap (λ p. p.turn.points) done.program);
        gripper = fitted.gripper;
      };
      feed = rest Feed refl;
      table = done.ready;
      robot = rest Robot refl;
      press = rest Press refl;
      deposit = rest Deposit refl;
      crane = rest Crane refl;
      watch = rest Watch refl;
    }

pub invariant_of-self-in-Robot : goal.invariant_of-self-in-Robot
invariant_of-self-in-Robot g c =
    let old = c.self.invariant in
    let fitted = old.fitted in
    let done = c.take_bench_turn-in-Robot.ensures in
    let rest = others_stay old (grows c.take_bench_turn-in-Robot.result _ _ _ _ _ _ _ _ _ done.turn done.failed) refl refl in
    record {
      fitted = record {
        arm1 = ap (λ s. s.arm1) done.make ∙ fitted.arm1 ∙ sym (ap (λ p. p.arm1.points) done.program);
        arm2 = ap (λ s. s.arm2) done.make ∙ fitted.arm2 ∙ sym (ap (λ p. p.arm2.points) done.program);
        rotation = ap (λ s. s.rotation) done.make ∙ fitted.rotation ∙ sym (ap (λ p. p.rotation.points) done.program);
        turn = fitted.turn;
        gripper = fitted.gripper;
      };
      feed = rest Feed refl;
      table = rest Table refl;
      robot = done.ready;
      press = rest Press refl;
      deposit = rest Deposit refl;
      crane = rest Crane refl;
      watch = rest Watch refl;
    }

pub invariant_of-self-in-Press : goal.invariant_of-self-in-Press
invariant_of-self-in-Press g c =
    let old = c.self.invariant in
    let fitted = old.fitted in
    let done = c.take_bench_turn-in-Press.ensures in
    let rest = others_stay old (grows c.take_bench_turn-in-Press.result _ _ _ _ _ _ _ _ _ done.turn done.failed) refl refl in
    record {
      fitted = record { arm1 = fitted.arm1; arm2 = fitted.arm2; rotation = fitted.rotation; turn = fitted.turn; gripper = fitted.gripper };
      feed = rest Feed refl;
      table = rest Table refl;
      robot = rest Robot refl;
      press = done.ready;
      deposit = rest Deposit refl;
      crane = rest Crane refl;
      watch = rest Watch refl;
    }

pub invariant_of-self-in-Deposit : goal.invariant_of-self-in-Deposit
invariant_of-self-in-Deposit g c =
    let old = c.self.invariant in
    let fitted = old.fitted in
    let done = c.take_bench_turn-in-Deposit.ensures in
    let rest = others_stay old (grows c.take_bench_turn-in-Deposit.result _ _ _ _ _ _ _ _ _ done.turn done.failed) refl refl in
    record {
      fitted = record { arm1 = fitted.arm1; arm2 = fitted.arm2; rotation = fitted.rotation; turn = fitted.turn; gripper = fitted.gripper };
      feed = rest Feed refl;
      table = rest Table refl;
      robot = rest Robot refl;
      press = rest Press refl;
      deposit = done.ready;
      crane = rest Crane refl;
      watch = rest Watch refl;
    }

pub invariant_of-self-in-Crane : goal.invariant_of-self-in-Crane
invariant_of-self-in-Crane g c =
    let old = c.self.invariant in
    let fitted = old.fitted in
    let done = c.take_bench_turn-in-Crane.ensures in
    let rest = others_stay old (grows c.take_bench_turn-in-Crane.result _ _ _ _ _ _ _ _ _ done.turn done.failed) refl refl in
    record {
      fitted = record {
        arm1 = fitted.arm1;
        arm2 = fitted.arm2;
        rotation = fitted.rotation;
        turn = fitted.turn;
        gripper = done.make ∙ fitted.gripper ∙ sym (ap (λ p. p.gripper.points) done.program);
      };
      feed = rest Feed refl;
      table = rest Table refl;
      robot = rest Robot refl;
      press = rest Press refl;
      deposit = rest Deposit refl;
      crane = done.ready;
      watch = rest Watch refl;
    }

pub invariant_of-self-in-Watch : goal.invariant_of-self-in-Watch
invariant_of-self-in-Watch g c =
    let old = c.self.invariant in
    let fitted = old.fitted in
    let done = c.take_bench_turn-in-Watch.ensures in
    let rest = others_stay old (grows c.take_bench_turn-in-Watch.result _ _ _ _ _ _ _ _ _ done.turn done.failed) refl refl in
    record {
      fitted = record { arm1 = fitted.arm1; arm2 = fitted.arm2; rotation = fitted.rotation; turn = fitted.turn; gripper = fitted.gripper };
      feed = rest Feed refl;
      table = rest Table refl;
      robot = rest Robot refl;
      press = rest Press refl;
      deposit = rest Deposit refl;
      crane = rest Crane refl;
      watch = done.ready;
    }

pub returns-in-Feed : goal.returns-in-Feed
returns-in-Feed g c =
    let old = c.self.inside in
    let now = record old { cell = record old.cell { feed = c.take_bench_turn.new.unit }; bench = c.take_bench_turn.new.bench; notebooks = record old.notebooks { feed = c.take_bench_turn.new.notebook } } in
    rw (sym c.self.view_is) (unit_on _ Feed c.args.turn (moment_of old) (moment_of now) c.take_bench_turn.result _ _ _ _ c.in-Feed.is (feed_others _ _ _ _) refl refl c.take_bench_turn.ensures.turn)

pub returns-in-Table : goal.returns-in-Table
returns-in-Table g c =
    let old = c.self.inside in
    let now = record old { cell = record old.cell { table = c.take_bench_turn-in-Table.new.unit }; bench = c.take_bench_turn-in-Table.new.bench; notebooks = record old.notebooks { table = c.take_bench_turn-in-Table.new.notebook } } in
    let done = c.take_bench_turn-in-Table.ensures in
    let fitted = c.self.invariant.fitted in
    let scales = ap (with_turn (cell_scales old.cell)) done.make in
    let gauges = ap (λ p. record (five_gauges old.cell) { turn = p.turn.gauge }) done.program in
    rw (sym c.self.view_is) (unit_on _ Table c.args.turn (moment_of old) (moment_of now) c.take_bench_turn-in-Table.result _ _ _ _ c.in-Table.is (table_others _ _ _ _) scales gauges (rw (← fitted.turn) at done.turn))

pub returns-in-Robot : goal.returns-in-Robot
returns-in-Robot g c =
    let old = c.self.inside in
    let now = record old { cell = record old.cell { robot = c.take_bench_turn-in-Robot.new.unit }; bench = c.take_bench_turn-in-Robot.new.bench; notebooks = record old.notebooks { robot = c.take_bench_turn-in-Robot.new.notebook } } in
    let done = c.take_bench_turn-in-Robot.ensures in
    let fitted = c.self.invariant.fitted in
    let scales = ap (with_robot (cell_scales old.cell)) done.make in
    let gauges = ap (λ p. record (five_gauges old.cell) { arm1 = p.arm1.gauge; arm2 = p.arm2.gauge; rotation = p.rotation.gauge }) done.program in
    rw (sym c.self.view_is) (unit_on _ Robot c.args.turn (moment_of old) (moment_of now) c.take_bench_turn-in-Robot.result _ _ _ _ c.in-Robot.is (robot_others _ _ _ _) scales gauges (rw (← fitted.arm1, ← fitted.arm2, ← fitted.rotation) at done.turn))

pub returns-in-Press : goal.returns-in-Press
returns-in-Press g c =
    let old = c.self.inside in
    let now = record old { cell = record old.cell { press = c.take_bench_turn-in-Press.new.unit }; bench = c.take_bench_turn-in-Press.new.bench; notebooks = record old.notebooks { press = c.take_bench_turn-in-Press.new.notebook } } in
    rw (sym c.self.view_is) (unit_on _ Press c.args.turn (moment_of old) (moment_of now) c.take_bench_turn-in-Press.result _ _ _ _ c.in-Press.is (press_others _ _ _ _) refl refl c.take_bench_turn-in-Press.ensures.turn)

pub returns-in-Deposit : goal.returns-in-Deposit
returns-in-Deposit g c =
    let old = c.self.inside in
    let now = record old { cell = record old.cell { deposit = c.take_bench_turn-in-Deposit.new.unit }; bench = c.take_bench_turn-in-Deposit.new.bench; notebooks = record old.notebooks { deposit = c.take_bench_turn-in-Deposit.new.notebook } } in
    rw (sym c.self.view_is) (unit_on _ Deposit c.args.turn (moment_of old) (moment_of now) c.take_bench_turn-in-Deposit.result _ _ _ _ c.in-Deposit.is (deposit_others _ _ _ _) refl refl c.take_bench_turn-in-Deposit.ensures.turn)

pub returns-in-Crane : goal.returns-in-Crane
returns-in-Crane g c =
    let old = c.self.inside in
    let now = record old { cell = record old.cell { crane = c.take_bench_turn-in-Crane.new.unit }; bench = c.take_bench_turn-in-Crane.new.bench; notebooks = record old.notebooks { crane = c.take_bench_turn-in-Crane.new.notebook } } in
    let done = c.take_bench_turn-in-Crane.ensures in
    let fitted = c.self.invariant.fitted in
    let scales = ap (with_gripper (cell_scales old.cell)) done.make in
    let gauges = ap (λ p. record (five_gauges old.cell) { gripper = p.gripper.gauge }) done.program in
    rw (sym c.self.view_is) (unit_on _ Crane c.args.turn (moment_of old) (moment_of now) c.take_bench_turn-in-Crane.result _ _ _ _ c.in-Crane.is (crane_others _ _ _ _) scales gauges (rw (← fitted.gripper) at done.turn))

pub returns-in-Watch : goal.returns-in-Watch
returns-in-Watch g c =
    let old = c.self.inside in
    let now = record old { watch = c.take_bench_turn-in-Watch.new.unit; bench = c.take_bench_turn-in-Watch.new.bench; notebooks = record old.notebooks { watch = c.take_bench_turn-in-Watch.new.notebook } } in
    rw (sym c.self.view_is) (unit_on _ Watch c.args.turn (moment_of old) (moment_of now) c.take_bench_turn-in-Watch.result _ _ _ _ c.in-Watch.is (watch_others _ _ _ _) refl refl c.take_bench_turn-in-Watch.ensures.turn)
