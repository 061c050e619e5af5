-- All laws of a legal history.
use Rattle.std.proofs.Common.{List, subst}
use Rattle.plan_types.specs.declared.answer.Event.{Event}
use Rattle.plan_types.specs.Table.{PlanTable}
use Rattle.plan_types.specs.Plan.{IsPlan}
use Rattle.plan_rules.specs.declared.state.State.{State}
use Rattle.plan_rules.specs.Sound.{IsSound}
use Rattle.plan_rules.specs.History.{IsLegal}
use Rattle.plan_rules.specs.Laws.{Lawful, EveryLegalHistoryIsLawful}
use Rattle.plan_rules.proofs.Histories.{throughout, sound-after}
use Rattle.plan_rules.proofs.HolderLaws.{one_holder, one_at_a_time, mover_is_host, guest_only_while_open}
use Rattle.plan_rules.proofs.Changes.{plates-counted, plates-kept, stamp-counted, posture_by_events_is}
use Rattle.plan_rules.proofs.Lasting.{right_lasts}
use Rattle.plan_rules.proofs.Fitting.{poses_fit, handover_by_holder, advances_fit}
use Rattle.plan_rules.proofs.Stopping.{stopped_along}

lawful : (t : PlanTable) (s : State) → IsPlan t → IsSound t s → (h : List Event) → IsLegal t s h → Lawful t s h
lawful t s p k h l = record {
  one_holder = one_holder t s p k h l;
  one_at_a_time = one_at_a_time t s p k h l;
  mover_is_host = mover_is_host t s p k h l;
  guest_only_while_open = guest_only_while_open t s p k h l;
  plates_are_counted = plates-counted t s p k h l;
  plates_are_kept = plates-kept t s p k h l;
  stamp_counts_changes = stamp-counted t s h l;
  right_lasts = λ before more split. right_lasts t s before more p k (subst (IsLegal t s) split l);
  posture_by_events = posture_by_events_is t s p k h l;
  stays_sound = sound-after t s h p k;
  poses_fit = poses_fit t s h l;
  handover_by_holder = handover_by_holder t s p k h l;
  advances_fit = advances_fit t s h l;
  stopped_until_resumed = stopped_along t s h l;
}

pub every_history : EveryLegalHistoryIsLawful
every_history t s h p k l = throughout t s (Lawful t s) (lawful t s p k) h l
