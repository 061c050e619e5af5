-- The examples of simulated sensors and motors.
use Rattle.std.proofs.Common.{refl}
use Rattle.plan_app.specs.SimulatedExamples.{SimulationsAreMet}

pub simulation_rows : SimulationsAreMet
simulation_rows = record {
  idle = refl;
  fourth = refl;
  up = refl;
  down = refl;
  both = refl;
  stays = refl;
  paused = refl;
  other_motor = refl;
  same_motor = refl;
  off = refl;
  off_there = refl;
}
