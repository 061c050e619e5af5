use Rattle.plan_workers.proofs.RoundByRound.{none_yet, one_more}
use Rattle.plan_workers.proofs.renewed.work_renewed.Goals as goal

pub loop-round-init : goal.loop-round-init
loop-round-init g c = record { rounds = none_yet _ _ _ _ _ _ _ _; ready = c.requires.ready }

pub loop-round-preserved : goal.loop-round-preserved
loop-round-preserved g c = record {
  rounds = one_more _ _ _ _ _ _ _ _ _ _ _ c.loop-round.invariant.rounds c.in_ok-pause.ensures.round;
  ready = c.in_ok-pause.ensures.ready;
}
