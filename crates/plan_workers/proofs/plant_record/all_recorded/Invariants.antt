use Rattle.std.proofs.Common.{◌≡◌, map}
use Rattle.std.specs.Prelude.{Ok}
use Rattle.plan_workers.proofs.plant_record.all_recorded.Given as goal

abbrev pub invariant-found : goal.invariant-found
invariant-found g l = l.yielded ≡ map (λ back. Ok back) l.backs.items
