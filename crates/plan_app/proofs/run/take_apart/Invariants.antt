use Rattle.std.proofs.Common.{◌≡◌, map}
use Rattle.plan_app.specs.Runs.{stops_in}
use Rattle.plan_app.proofs.run.take_apart.Given as goal

abbrev pub invariant-backs : goal.invariant-backs
invariant-backs l = record {
  table : l.passes.table ≡ l.interlock.table;
  journals : l.journals.items ≡ map (λ back. back.journal) l.yielded;
  stops : l.stops.items ≡ stops_in l.yielded;
}
