-- The tables of states, computed.
use Rattle.cell_rules.proofs.Names.{◌≡◌, ℕ, Bool, true, false, ◌&&◌, not, nat_le, refl, ap, arith, ◌↔◌, IsTrue, leb-true, le-leb, Z4, Z5, Z6, PressIn, PressOut, ModelState, PlaceSet, zone_at, size_of, has, last_stamp}
use Rattle.cell_rules.specs.Start.{IsStart}
use Rattle.cell_rules.specs.ModelState.{max_plates}
use Rattle.cell_rules.specs.StartDigits.{is_start}
use Rattle.cell_rules.specs.StateTables.{StateTables}

three : (a b c : Bool) → (a && not b && c) ≡ true → (a ≡ true) × (b ≡ false) × (c ≡ true)
three true false true k = (refl, refl, refl)
three _ _ _ k = cc

all_three : (a b c : Bool) → a ≡ true → b ≡ false → c ≡ true → (a && not b && c) ≡ true
all_three a b c ka kb kc = simp (ka, kb, kc)

start_tested : (full : PlaceSet) (stamp : ℕ) → IsStart full stamp ↔ IsTrue (is_start full stamp)
start_tested full stamp =
    let few = nat_le (size_of full) max_plates in
    let two = has full PressIn && has full PressOut in
    let low = nat_le stamp last_stamp in (
      λ k. all_three few two low (le-leb _ _ k.six_plates_at_most) k.one_in_press_at_most (le-leb _ _ k.stamp_in_range),
      λ e. let parts = three few two low e in record {
        six_plates_at_most = leb-true _ _ parts.0;
        one_in_press_at_most = parts.1;
        stamp_in_range = leb-true _ _ parts.2;
      },
    )

pub state_tables : StateTables
state_tables = record {
  owners = record {
    z1 = refl;
    z2 = refl;
    z3 = refl;
    z4 = refl;
    z5 = refl;
    z6 = refl;
    z1_with_plate = refl;
    z2_with_plate = refl;
    z3_with_plate = refl;
    z4_with_plate = refl;
    z5_with_plate = refl;
    z6_with_plate = refl;
  };
  rooms = record {
    onto_table = refl;
    onto_arm_1 = refl;
    into_press = refl;
    onto_arm_2 = refl;
    onto_deposit = refl;
    onto_crane = refl;
    onto_feed = refl;
    press_open = refl;
    press_closed = refl;
  };
  counts = record {
    tested = refl;
    places = refl;
    flags = refl;
    plates = refl;
    all_places_full = refl;
    each_place_counts = refl;
    each_flag_counts = refl;
  };
  starts = record {
    tested = start_tested;
    free = refl;
    digits = refl;
    nine_digits = refl;
    eleven_digits = refl;
    first_is_no_flag = refl;
    last_is_no_flag = refl;
    flags = refl;
    no_flags = refl;
    a_start = record {
      start = record { six_plates_at_most = omega arith; one_in_press_at_most = refl; stamp_in_range = omega arith };
      same = refl;
    };
    held = λ k. let e = ap (λ (s : ModelState). (zone_at s Z4).owner) k.same in cc;
    with_plate_in_zone = λ k. let e = ap (λ (s : ModelState). (zone_at s Z6).flag) k.same in cc;
    open_zone = λ k. let e = ap (λ (s : ModelState). (zone_at s Z5).posture) k.same in cc;
    stopped = λ k. let e = ap (λ (s : ModelState). s.stopped) k.same in cc;
    both_in_press = λ k. let e = k.start.one_in_press_at_most in cc;
  };
}
