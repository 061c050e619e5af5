use Rattle.std.proofs.Common.{◌≡◌, true, false, Some, None, refl, ap, arith}
use Rattle.plan_types.specs.declared.posture.Posture.TheVariants.{Closed, OpenIn}
use Rattle.plan_word.specs.Packed.{packed}
use Rattle.plan_word.specs.Reading.{state_told}
use Rattle.plan_word.proofs.StateRows.{states_of_plans}
use Rattle.plan_word.proofs.laws.words_are_right.Goals as goal

pub returns-clause-words : goal.returns-clause-words
unfolding packed
returns-clause-words c = record { press_starts = refl; press_given = refl; press_stopped = refl; press_full = refl; lift_starts = refl; lift_lifted = refl; two_presses_word = refl; most_zones_word = refl; last_of_places = refl; nothing = refl; rack_word = refl; comes = refl; goes = refl; gates_word = refl; rack_zones = refl; roads = refl; gates = refl; bare = refl; not_told = refl; codes = refl; owners = refl; owners_below = refl; postures = refl; zones = refl; held = refl; parts = refl; of_zones = refl; of_places = refl }

pub returns-clause-states : goal.returns-clause-states
unfolding state_told
returns-clause-states c = record { press_given = refl; press_stopped = refl; press_full = refl; lift_lifted = refl; two_presses_told = refl; most_zones_told = refl; rack_told = refl; gates_told = refl; rack_codes = refl; road_codes = refl; gate_codes = refl; nothing = refl; owners = refl; postures = refl; zones = refl; no_more_zones = refl; no_more_places = refl; spare = refl; last_zone = refl; last_place = refl; stamp = refl; stop = refl }

pub returns-clause-strangers : goal.returns-clause-strangers
returns-clause-strangers c = record {
  second_zone = λ k. let e : Some 0 ≡ None = ap (λ v. v.owner) (k.no_more_zones 1 (omega arith)) in cc;
  tenth_zone = λ k. let e : Some 0 ≡ None = ap (λ v. v.owner) (k.no_more_zones 9 (omega arith)) in cc;
  third_place = λ k. let e : true ≡ false = k.no_more_plates 2 (omega arith) in cc;
  sixteenth_place = λ k. let e : true ≡ false = k.no_more_plates 15 (omega arith) in cc;
  stamp = λ k. absurd (omega (arith, k.sound.stamp_in_range));
  two_plates = λ k. absurd (omega (arith, k.sound.one_plate_a_place 1));
  shut_guest = λ k. let e = (k.sound.zone_is_lawful 0 (omega arith)).guest_only_while_open in cc;
  third_posture = λ k. let e : OpenIn ≡ Closed = ap (λ v. v.posture) (k.no_more_zones 2 (omega arith)) in cc;
  fourth_place = λ k. let e : true ≡ false = k.no_more_plates 3 (omega arith) in cc;
  rack_moves = λ k. let e : false ≡ true = k.postures_told 0 (omega arith) in cc;
}

pub returns-clause-of_plans : goal.returns-clause-of_plans
returns-clause-of_plans c = states_of_plans
