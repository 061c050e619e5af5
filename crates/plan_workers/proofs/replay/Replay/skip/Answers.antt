use Rattle.std.proofs.Common.{arith, subst, sym, set, get_or, ◌+◌}
use Rattle.plan_workers.specs.Audited.{journals_in}
use Rattle.plan_workers.specs.Replays.{IsTaken, rest_of}
use Rattle.plan_workers.proofs.Reading.{taken}
use Rattle.plan_workers.proofs.replay.Replay.skip.Goals as goal

pub returns-clause-taken : goal.returns-clause-taken
returns-clause-taken c =
    let js = journals_in c.args.journals.now in
    let read = c.args.self.now.read in
    subst (λ m. IsTaken c.args.machine (rest_of read js) (rest_of (set read m (get_or read m 0 + 1)) js)) (sym c.from-machine.ensures) (taken js read c.args.machine (omega arith) c.requires.some)
