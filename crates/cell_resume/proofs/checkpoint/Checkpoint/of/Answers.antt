use Rattle.std.proofs.Common.{sym}
use Rattle.cell_resume.proofs.checkpoint.Checkpoint.of.Goals as goal

pub returns-clause-steps : goal.returns-clause-steps
returns-clause-steps c = record {
  feed = c.number.ensures.step;
  table = c.number-2.ensures.step;
  robot = c.number-3.ensures.step;
  press = c.number-4.ensures.step;
  direction = c.number-4.ensures.direction;
  deposit = c.number-5.ensures.step;
  crane = c.number-6.ensures.step;
}

pub returns-clause-in_step : goal.returns-clause-in_step
returns-clause-in_step c = λ i.
    let z = c.args.state.now in
    record {
      sound = c.states_are_sound.ensures.sound;
      word = sym c.pack.ensures;
      numbers = record {
        feed = c.number.ensures.in_step z i.feed;
        table = c.number-2.ensures.in_step z i.table;
        robot = c.number-3.ensures.in_step z i.robot;
        press = c.number-4.ensures.in_step z i.press;
        deposit = c.number-5.ensures.in_step z i.deposit;
        crane = c.number-6.ensures.in_step z i.crane;
      };
      in_step = i;
    }
