use Rattle.std.proofs.Common.{refl}
use Rattle.plan_types.proofs.examples.tables_tell.Goals as goal

pub returns : goal.returns
returns c = record {
  rows = record { machines = refl; zones = refl; poses = refl; places = refl; width = refl; host = refl; guest = refl; keeper = refl; last_keeper = refl; machine = refl; first_posture = refl; second_posture = refl; fourth_posture = refl; tenth_posture = refl; inward = refl; outward = refl; first_inward = refl; first_outward = refl; watch = refl; no_zone = refl; no_pose = refl; no_keeper = refl; no_posture = refl; first_zone = refl; second_zone = refl; first_pose = refl; second_pose = refl; last_pose = refl; hosts = refl; guests = refl; keepers = refl; machines_of = refl; postures_of = refl; narrow = refl; of_places = refl; of_zones = refl; of_wide_zones = refl; of_gates = refl; widest = refl; most_zones = refl; most_places = refl; most_poses = refl };
  shapes = record { press = refl; lift = refl; unlike = refl; bits = refl; roads = refl; rack = refl; lathe = refl; plant = refl; widths = refl; no_pose = refl; shut = refl; moves = refl; opens_in = refl; opens_out = refl; all = refl; inward_alone = refl; no_way = refl; postures = refl; posture_fields = refl; each_bits = refl };
  ends = record { sources = refl; sinks = refl; keepers = refl; both = refl; loaders = refl; anothers = refl; none = refl; row = refl; no_row = refl };
  rights = record { hosted = refl; by_guest = refl; by_first_host = refl; hosted_past_the_end = refl; kept = refl; kept_by_another = refl; kept_past_the_end = refl; own_pose = refl; anothers_pose = refl; pose_past_the_end = refl; second_host = refl; second_guest = refl; first_host = refl; party_past_the_end = refl; leads_on = refl; leads_back = refl; leads_past_the_end = refl; leads_nowhere = refl; leads_from_another = refl; leads_to_another = refl; leads_from_first = refl; last_pose = refl; hosted_first = refl; kept_first = refl };
  same_postures = record { closed = refl; moving = refl; open_in = refl; open_out = refl };
  numbers_below = record { first = refl; none = refl; any = refl; zero = refl; not_itself = refl; sum = refl; no_sum = refl; sum_of_one = refl; zero_first = refl; none_below_none = refl; first_of_many = refl; last_of_many = refl; any_of_none = refl };
  moving_poses = record { first_zone = refl; third_zone = refl; tenth_zone = refl; first_of_two = refl; second_of_two = refl; neither = refl; closes = refl; opens = refl; past_the_end = refl; given = refl; left = refl };
  transfers = record {
    inward = refl;
    outward = refl;
    closed = refl;
    moving = refl;
    second_inward = refl;
    second_outward = refl;
    no_way_inward = refl;
    no_way_outward = refl;
    past_the_end = refl;
  };
  parties = record { host = refl; guest = refl; second_host = refl; second_guest = refl; another = refl; stranger = refl; watch = refl; past_the_end = refl };
  own_poses = record { first = refl; last = refl; another = refl; past_the_end = refl; past_the_end_of_first = refl };
}
