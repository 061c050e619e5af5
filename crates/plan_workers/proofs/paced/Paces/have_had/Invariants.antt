use Rattle.std.proofs.Common.{ℕ, ◌<◌, ◌≤◌, slice_index_or}
use Rattle.plan_workers.proofs.paced.Paces.have_had.Given as goal

abbrev pub invariant-loop-machine : goal.invariant-loop-machine
invariant-loop-machine l = (m : ℕ) → m < l.machine → m < l.machines → l.turns ≤ slice_index_or l.self.turns m 0
