-- Literal states of plans.
use Rattle.std.proofs.Common.{◌≡◌, ◌<◌, ◌≤◌, ℕ, zero, suc, Bool, true, false, get_or, replicate, refl, arith}
use Rattle.std.proofs.lemmas.List.{get_or_past}
use Rattle.plan_types.specs.Examples.{press_table, lift_table, counted}
use Rattle.plan_types.proofs.lemmas.Checked.{is_plan}
use Rattle.plan_types.specs.Table.{postures_of, zone_shape}
use Rattle.plan_rules.specs.State.{free_zone, one_if, zone_at, posture_at, is_full, coming}
use Rattle.plan_rules.specs.Sound.{IsLawfulZone, IsOfSpace, IsSound}
use Rattle.plan_rules.specs.Examples.{press_start, full_press, lift_start}
use Rattle.plan_word.specs.OfPlan.{can_have}
use Rattle.plan_word.specs.Examples.{with_place, StatesOfPlans}
use Rattle.plan_word.proofs.lemmas.Staying.{start_stays}

all_empty : (n p : ℕ) → get_or (replicate n false) p false ≡ false
all_empty zero p = refl
all_empty (suc n) zero = refl
all_empty (suc n) (suc p) = all_empty n p

all_free : (n z : ℕ) → get_or (replicate n free_zone) z free_zone ≡ free_zone
all_free zero z = refl
all_free (suc n) zero = refl
all_free (suc n) (suc z) = all_free n z

start_places : (p : ℕ) → 2 ≤ p → is_full press_start p ≡ false
start_places zero l = absurd (omega arith)
start_places (suc p) l = all_empty 15 p

lift_places : (p : ℕ) → 3 ≤ p → is_full lift_start p ≡ false
lift_places zero l = absurd (omega arith)
lift_places (suc zero) l = absurd (omega arith)
lift_places (suc (suc p)) l = all_empty 14 p

full_places : (p : ℕ) → 2 ≤ p → is_full full_press p ≡ false
full_places zero l = absurd (omega arith)
full_places (suc zero) l = absurd (omega arith)
full_places (suc (suc p)) l = all_empty 14 p

full_zones : (z : ℕ) → 1 ≤ z → zone_at full_press z ≡ free_zone
full_zones zero l = absurd (omega arith)
full_zones (suc z) l = all_free 9 z

full_lawful : (z : ℕ) → z < 1 → IsLawfulZone press_table z (zone_at full_press z)
full_lawful zero l = record { owner_is_party = refl; flag_has_transfer = refl; guest_only_while_open = refl; moving_belongs_to_host = refl }
full_lawful (suc z) l = absurd (omega arith)

full_spaces : (z : ℕ) → z < 1 → IsOfSpace press_table full_press z
full_spaces zero l = record { owner = refl; motion = refl }
full_spaces (suc z) l = absurd (omega arith)

at_most_one : (b : Bool) → one_if b ≤ 1
at_most_one true = omega arith
at_most_one false = omega arith

full_sound : IsSound press_table full_press
full_sound = record {
  stamp_in_range = omega arith;
  has_ten_zones = refl;
  has_sixteen_places = refl;
  zone_is_lawful = full_lawful;
  zone_is_of_space = full_spaces;
  one_plate_a_space = λ y z ly lz same fy fz. omega (arith, ly, lz);
  one_plate_a_place = λ p.
      let none : coming press_table full_press p ≡ 0 = refl in
      let one = at_most_one (is_full full_press p) in
      omega (arith, none, one);
}

full_told : (z : ℕ) → z < 1 → can_have (postures_of (zone_shape press_table z)) (posture_at full_press z) ≡ true
full_told zero l = refl
full_told (suc z) l = absurd (omega arith)

pub states_of_plans : StatesOfPlans
states_of_plans = record {
  start = start_stays press_table press_start (is_plan press_table refl) (record { stamp_in_range = omega arith; has_sixteen_places = refl; same = refl }) start_places;
  full = record { plan = is_plan press_table refl; sound = full_sound; postures_told = full_told; no_more_zones = full_zones; no_more_plates = full_places };
  lift = start_stays lift_table lift_start (is_plan lift_table refl) (record { stamp_in_range = omega arith; has_sixteen_places = refl; same = refl }) lift_places;
  sixteenth_place = start_stays (counted 0 16) (with_place 15) (is_plan (counted 0 16) refl) (record { stamp_in_range = omega arith; has_sixteen_places = refl; same = refl }) (λ p l. get_or_past (with_place 15).full p false l);
}
