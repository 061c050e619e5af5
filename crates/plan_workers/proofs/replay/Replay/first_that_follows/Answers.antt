use Rattle.std.proofs.Common.{arith, below_more}
use Rattle.std.proofs.lemmas.Bool.{both_ways}
use Rattle.plan_workers.specs.declared.journal.PlanEntry.{PlanEntry}
use Rattle.plan_workers.specs.Audited.{journals_in}
use Rattle.plan_workers.specs.Replays.{Follows, rest_of}
use Rattle.plan_workers.proofs.Reading.{none_here, other_here}
use Rattle.plan_workers.proofs.replay.Replay.first_that_follows.Goals as goal
use Rattle.plan_workers.proofs.replay.Replay.first_that_follows.Goals.{in-Some+else-may_follow, in_default}

pub loop-machine-preserved : goal.loop-machine-preserved
loop-machine-preserved c =
    let js = rest_of c.args.self.now.read (journals_in c.args.journals.now) in
    let n = c.args.self.now.state.stamp in
    let here : (x : PlanEntry) → ¬ Follows c.args.done n js c.loop-machine.machine x = elim c.match-next_of.branch [
      | in-Some+else-may_follow w ↦
          other_here c.args.done n js c.loop-machine.machine w.in-Some.entry w.in-Some.ensures
          (λ kind at. both_ways w.may_follow.result w.if-may_follow.false (w.may_follow.ensures.all kind at))
      | in_default w ↦ none_here c.args.done n js c.loop-machine.machine w.in_default.ensures
    ] in
    λ m x below. below_more (λ j. (x : PlanEntry) → ¬ Follows c.args.done n js j x) c.loop-machine.machine (λ j below x. c.loop-machine.invariant j x below) here m below x

pub returns : goal.returns
returns c = λ m x f. c.loop-machine.invariant m x (let caller = f.caller in omega (arith, caller)) f
