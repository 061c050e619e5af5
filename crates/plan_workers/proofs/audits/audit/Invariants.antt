use Rattle.std.proofs.Common.{List, ◌++◌}
use Rattle.std.specs.Option.{option_copied}
use Rattle.plan_types.specs.declared.answer.Event.{Event}
use Rattle.plan_workers.specs.Audited.{AreInOrder, IsAudited, HasNoHistory, journals_in}
use Rattle.plan_workers.specs.Replays.{HasNoStranger, rest_of}
use Rattle.plan_workers.proofs.Counting.{count_in}
use Rattle.plan_workers.proofs.Ordering.{IsLastInOrder}
use Rattle.plan_workers.proofs.audits.audit.Given as goal

-- every history that explains what is left goes on from the events so far, and where there is none, there is none at all
abbrev pub invariant-loop-machine : goal.invariant-loop-machine
invariant-loop-machine l =
    let all = journals_in l.journals in
    let rest = rest_of l.replay.read all in
    let end = option_copied l.end in record {
      callers : HasNoStranger all;
      goes_on : (h : List Event) → IsAudited l.plan l.replay.state rest end h → IsAudited l.plan l.start all end (l.events.items ++ h);
      order : AreInOrder l.events.items;
      last : IsLastInOrder l.replay.state.stamp rest l.events.items;
      none : HasNoHistory l.plan l.replay.state rest end → HasNoHistory l.plan l.start all end;
    }

abbrev pub decreases-loop-machine : goal.decreases-loop-machine
decreases-loop-machine l = count_in (rest_of l.replay.read (journals_in l.journals))
