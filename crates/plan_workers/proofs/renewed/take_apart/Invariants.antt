use Rattle.std.proofs.Common.{◌≡◌, map}
use Rattle.plan_workers.specs.Renewing.{given_back, left_by}
use Rattle.plan_workers.proofs.renewed.take_apart.Given as goal

abbrev pub invariant-backs : goal.invariant-backs
invariant-backs g l = record {
  table : l.passes.table ≡ l.interlock.table;
  passes : l.passes.actors ≡ given_back l.initial.passes.actors l.yielded;
  machines : l.machines.items ≡ map left_by l.yielded;
  journals : l.journals.items ≡ map (λ back. back.journal) l.yielded;
}
