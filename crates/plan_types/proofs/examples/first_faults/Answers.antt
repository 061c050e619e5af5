use Rattle.std.proofs.Common.{refl}
use Rattle.plan_types.proofs.examples.first_faults.Goals as goal

pub returns : goal.returns
returns c = record {
  machines = refl;
  zones = refl;
  poses = refl;
  places = refl;
  wide = refl;
  widest = refl;
  wide_by_a_place = refl;
  gates_wide_by_a_place = refl;
  keeper = refl;
  host = refl;
  guest = refl;
  same = refl;
  second = refl;
  inward = refl;
  nowhere = refl;
  outward = refl;
  inward_from_third = refl;
  inward_to_third = refl;
  outward_from_third = refl;
  outward_to_third = refl;
  inward_from_nowhere = refl;
  outward_from_nowhere = refl;
  outward_to_nowhere = refl;
  inward_within_host = refl;
  inward_within_guest = refl;
  outward_within_host = refl;
  outward_within_guest = refl;
  machine = refl;
  foreign = refl;
  beyond = refl;
  closed = refl;
  tenth_zone = refl;
}
