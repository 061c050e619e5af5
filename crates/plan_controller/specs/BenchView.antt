-- What contracts see of a bench.
use Rattle.plan_controller.specs.declared.bench.PlanBench.{PlanBench}
use Rattle.plan_controller.specs.Benches.{Desk}

abbrev pub desk_of : PlanBench → Desk
desk_of b =
    record { table = b.plan; opening = b.opening; state = b.state; history = b.history.items; machine = b.machine }
