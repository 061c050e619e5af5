use Rattle.std.proofs.Common.{inl, refl, Option, subst}
use Rattle.cell_renewal.proofs.wired_worker.take_cycle.Goals as goal

pub returns-in-Some-clause-cycle : goal.returns-in-Some-clause-cycle
returns-in-Some-clause-cycle g c =
    let told = c.turn_by_line-told in
    inl (record {
      runs = c.requires.runs;
      let_in = c.requires.let_in;
      sense = c.in-Some.sense;
      read = c.read.new.self;
      shown = subst (λ (s : Option _). g.D.Devices.shows c.args.devices.now s c.read.new.self) c.in-Some.is c.read.ensures;
      told = told.result;
      row = told.ensures.row;
      rest = told.ensures.rest;
      motor_demands = told.ensures.motor_demands;
      set = c.set.ensures;
      counted = refl;
      as_many_missed = refl;
    })
