use Rattle.std.proofs.Common.{◌≡◌, ℕ, ◌<◌, []}
use Rattle.plan_workers.specs.Audited.{journals_in}
use Rattle.plan_workers.specs.Replays.{rest_of}
use Rattle.plan_workers.proofs.replay.Replay.has_read_all.Given as goal

abbrev pub invariant-loop-machine : goal.invariant-loop-machine
invariant-loop-machine l = (m : ℕ) → m < l.machine → rest_of l.self.read (journals_in l.journals) m ≡ []
