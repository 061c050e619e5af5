use Rattle.std.proofs.Common.{refl}
use Rattle.plan_rules.proofs.examples.causes_are_met.Goals as goal

pub returns : goal.returns
returns c = record {
  eight_zones_are_a_plan = refl;
  claim = record { shut = refl; host = refl; stranger = refl; held_moving = refl; mine_moving = refl; held_open = refl; mine_open = refl; guest_has_it = refl; held_by_guest = refl; late_call = refl; late_watch = refl };
  give = record { free_loader = refl; free_press = refl; given_loader = refl; given_press = refl; given_back_loader = refl; given_back_press = refl; moving_loader = refl; moving_press = refl; outward = refl; no_plate = refl; full = refl; not_owner = refl; late_watch = refl };
  yield = record { free_loader = refl; free_press = refl; given_loader = refl; given_press = refl; moving_loader = refl; moving_press = refl; outward = refl; not_owner = refl; late_call = refl; late_watch = refl };
  take = record { free_loader = refl; moving_loader = refl; moving_press = refl; given_loader = refl; given_press = refl; given_back_loader = refl; given_back_press = refl; late_call = refl; late_watch = refl };
  release = record { free_loader = refl; free_press = refl; given_loader = refl; given_press = refl; moving_loader = refl; moving_press = refl; outward = refl; not_owner = refl; late_call = refl; late_watch = refl };
  pose = record { not_owner = refl; jump = refl; loader = refl; no_pose = refl; full = refl; opens = refl; jump_onto_full = refl; same_pose = refl; moves = refl; plate = refl; plate_closes = refl; plate_same_pose = refl; anothers = refl; anothers_same_pose = refl; anothers_turns = refl; late_moves = refl; late_opens = refl; late_loader = refl };
  watch = record { inquire = refl; inquire_late = refl; inquire_past_the_end = refl; stop = refl; stop_by_loader = refl; stop_late = refl; stop_worn_by_press = refl; stop_worn = refl; resume_worn_by_press = refl; stop_late_by_press = refl; resume = refl; resume_by_loader = refl; resume_late = refl; resume_late_by_press = refl };
  last_zone = record { claim_shut = refl; claim_host = refl; claim_stranger = refl; claim_past_the_end = refl; claim_held = refl; claim_held_by_guest = refl; give_anothers = refl; give = refl; give_full = refl; give_outward = refl; give_full_outward = refl; yield = refl; take = refl; release = refl; pose_free = refl; pose_anothers = refl; pose_full = refl; pose_opens = refl; pose_jumps = refl; pose_of_seventh = refl; anothers_pose = refl; inquire = refl; inquire_past_the_end = refl };
  both_gates = record { both = refl; second = refl; owner_of_second = refl; neither = refl; jump = refl; jump_by_second = refl };
  orders = record { numbers = refl; held = λ o. refl; not_owner = λ o. refl; plate = λ z. refl; claim = λ z. refl; give = λ z. refl; yield = λ z. refl; take = λ z. refl; release = λ z. refl; pose = λ p. refl; inquire = λ z. refl; stop = refl; resume = refl };
  later = record { earlier = refl; next = refl; same = refl; later = refl; next_after = refl; none = refl; not_there = refl };
}
