use Rattle.plan_rules.proofs.OfLift.{laws_of_lift}
use Rattle.plan_rules.proofs.laws.each_law_is_said.Goals as goal

pub returns-clause-lift : goal.returns-clause-lift
returns-clause-lift c = laws_of_lift

pub returns-clause-each : goal.returns-clause-each
returns-clause-each c = λ t s h. record {
  holder = λ law. law.one_holder;
  space = λ law. law.one_at_a_time;
  mover = λ law. law.mover_is_host;
  guest = λ law. law.guest_only_while_open;
  counted = λ law. law.plates_are_counted;
  plates = λ law. law.plates_are_kept;
  stamp = λ law. law.stamp_counts_changes;
  rights = λ law. law.right_lasts;
  postures = λ law. law.posture_by_events;
  sound = λ law. law.stays_sound;
  poses = λ law. law.poses_fit;
  handovers = λ law. law.handover_by_holder;
  advances = λ law. law.advances_fit;
  stops = λ law. law.stopped_until_resumed;
}
