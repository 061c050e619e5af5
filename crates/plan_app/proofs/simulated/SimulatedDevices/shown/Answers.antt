use Rattle.std.proofs.Common.{◌≡◌, ◌*◌, ◌^◌, subst, arith}
use Rattle.plan_types.specs.Below.{sum_below}
use Rattle.plan_rules.specs.State.{one_if}
use Rattle.plan_app.specs.Simulated.{shows_now}
use Rattle.plan_app.proofs.simulated.SimulatedDevices.shown.Goals as goal

pub returns : goal.returns
returns c =
    let end : c.loop-sensor.sensor ≡ 32 = omega (arith, c.loop-sensor-test.false, c.loop-sensor.auto.sensor-end) in
    subst (λ n. c.loop-sensor.shown ≡ sum_below (λ sensor. one_if (shows_now c.args.self.now sensor) * 2 ^ sensor) n) end c.loop-sensor.invariant.bits
