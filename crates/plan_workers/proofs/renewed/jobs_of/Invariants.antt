use Rattle.std.proofs.Common.{◌≡◌, length}
use Rattle.plan_workers.specs.Renewing.{jobs_from}
use Rattle.plan_workers.proofs.Passes.{left_from}
use Rattle.plan_workers.proofs.renewed.jobs_of.Given as goal

abbrev pub invariant-machines : goal.invariant-machines
invariant-machines g l = record {
  table : l.passes.table ≡ l.interlock.table;
  number : l.number ≡ length l.yielded;
  left : l.passes.actors ≡ left_from l.interlock l.number l.plan.machines;
  jobs : l.jobs.items ≡ jobs_from l.interlock 0 l.yielded;
}
