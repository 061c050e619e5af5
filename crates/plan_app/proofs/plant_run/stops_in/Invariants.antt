use Rattle.std.proofs.Common.{◌≡◌, take}
use Rattle.plan_app.specs.PlantRuns as spec
use Rattle.plan_app.proofs.plant_run.stops_in.Given as goal

abbrev pub invariant-backs : goal.invariant-backs
invariant-backs l = l.stops.items ≡ spec.stops_in (take l.k l.backs)
