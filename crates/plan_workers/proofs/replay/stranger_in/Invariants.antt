use Rattle.std.proofs.Common.{◌≡◌, ℕ, ◌<◌, []}
use Rattle.plan_types.specs.Table.{watch}
use Rattle.plan_workers.specs.Audited.{journals_in}
use Rattle.plan_workers.proofs.replay.stranger_in.Given as goal

abbrev pub invariant-loop-k : goal.invariant-loop-k
invariant-loop-k l = (m : ℕ) → watch < m → m < l.k → journals_in l.journals m ≡ []
