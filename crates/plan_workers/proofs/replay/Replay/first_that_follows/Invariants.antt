use Rattle.std.proofs.Common.{ℕ, ◌<◌}
use Rattle.plan_workers.specs.declared.journal.PlanEntry.{PlanEntry}
use Rattle.plan_workers.specs.Audited.{journals_in}
use Rattle.plan_workers.specs.Replays.{Follows, rest_of}
use Rattle.plan_workers.proofs.replay.Replay.first_that_follows.Given as goal

abbrev pub invariant-loop-machine : goal.invariant-loop-machine
invariant-loop-machine l =
    (m : ℕ) (x : PlanEntry) → m < l.machine → ¬ Follows l.done l.self.state.stamp (rest_of l.self.read (journals_in l.journals)) m x
