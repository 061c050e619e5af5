use Rattle.std.proofs.Common.{◌≡◌, ◌*◌, ◌<◌, ◌^◌}
use Rattle.plan_types.specs.Below.{sum_below}
use Rattle.plan_rules.specs.State.{one_if}
use Rattle.plan_app.specs.Simulated.{shows_now}
use Rattle.plan_app.proofs.simulated.SimulatedDevices.shown.Given as goal

abbrev pub invariant-loop-sensor : goal.invariant-loop-sensor
invariant-loop-sensor l = record {
  bits : l.shown ≡ sum_below (λ sensor. one_if (shows_now l.self sensor) * 2 ^ sensor) l.sensor;
  below : l.shown < 2 ^ l.sensor;
}
