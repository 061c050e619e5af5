-- The test of soundness decides soundness.
use Rattle.cell_rules.proofs.Names.{◌≡◌, Bool, true, ◌&&◌, nat_le, refl, leb-true, le-leb, Zone, Z3, all_zones, ModelState, zone_at, last_stamp, IsSound, has_lawful_owner, is_open_to_guest, moves_by_host, is_of_some_pose, has_one_plate, is_sound, has_lawful_plate, is_lawful_at, all_lawful}
use Rattle.cell_rules.proofs.lemmas.Tables.{and_left, and_right, and_both, all_pass, from_zones}

pub five : (a b c d e : Bool) → (a && b && c && d && e) ≡ true → (a ≡ true) × (b ≡ true) × (c ≡ true) × (d ≡ true) × (e ≡ true)
five true true true true true k = (refl, refl, refl, refl, refl)
five _ _ _ _ _ k = cc

all_five : (a b c d e : Bool) → a ≡ true → b ≡ true → c ≡ true → d ≡ true → e ≡ true → (a && b && c && d && e) ≡ true
all_five a b c d e ka kb kc kd ke = simp (ka, kb, kc, kd, ke)

pub sound_by_test : (s : ModelState) → is_sound s ≡ true → IsSound s
sound_by_test s k =
    let at : Zone → Bool = λ z. is_lawful_at s.full z (zone_at s z) in
    let most = nat_le s.stamp last_stamp && all_lawful s.full s.zones in
    let parts = and_left most (has_one_plate s.full (zone_at s Z3)) k in
    let each : (z : Zone) → at z ≡ true = from_zones at (and_right (nat_le s.stamp last_stamp) (all_lawful s.full s.zones) parts) in
    let of = λ (z : Zone). five (has_lawful_owner z (zone_at s z)) (has_lawful_plate s.full z (zone_at s z)) (is_open_to_guest z (zone_at s z)) (moves_by_host z (zone_at s z)) (is_of_some_pose z (zone_at s z).posture) (each z) in
    record {
      stamp_in_range = leb-true _ _ (and_left (nat_le s.stamp last_stamp) (all_lawful s.full s.zones) parts);
      owner_is_party = λ z. (of z).0;
      flag_has_transfer = λ z. (of z).1;
      guest_only_while_open = λ z. (of z).2;
      moving_belongs_to_host = λ z. (of z).3;
      posture_of_some_pose = λ z. (of z).4;
      press_holds_one_plate = and_right most (has_one_plate s.full (zone_at s Z3)) k;
    }

pub test_of_sound : (s : ModelState) → IsSound s → is_sound s ≡ true
test_of_sound s h =
    let at : (z : Zone) → is_lawful_at s.full z (zone_at s z) ≡ true = λ z. all_five _ _ _ _ _ (h.owner_is_party z) (h.flag_has_transfer z) (h.guest_only_while_open z) (h.moving_belongs_to_host z) (h.posture_of_some_pose z) in
    let lawful : all_lawful s.full s.zones ≡ true = all_pass (λ z. is_lawful_at s.full z (zone_at s z)) at all_zones in
    and_both _ _ (and_both _ _ (le-leb _ _ h.stamp_in_range) lawful) h.press_holds_one_plate
