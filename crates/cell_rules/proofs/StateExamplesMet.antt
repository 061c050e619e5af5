-- The examples of states and starts.
use Rattle.cell_rules.proofs.Names.{refl, arith, Z1, Z3}
use Rattle.cell_rules.specs.StateExamples.{SoundExamples, StartExamples}

pub sound_examples : SoundExamples
sound_examples = record {
  stamp_too_great = λ k. absurd (omega (arith, k.stamp_in_range));
  owned_by_stranger = λ k. let e = k.owner_is_party Z3 in cc;
  plate_without_way = λ k. let e = k.flag_has_transfer Z3 in cc;
  plate_with_its_giver = λ k. let e = k.flag_has_transfer Z3 in cc;
  plate_onto_plate = λ k. let e = k.flag_has_transfer Z3 in cc;
  guest_in_closed_zone = λ k. let e = k.guest_only_while_open Z3 in cc;
  moves_unheld = λ k. let e = k.moving_belongs_to_host Z3 in cc;
  posture_of_no_pose = λ k. let e = k.posture_of_some_pose Z1 in cc;
  two_in_press = λ k. let e = k.press_holds_one_plate in cc;
  opens_onto_forged = λ k. let e = k.press_holds_one_plate in cc;
}

pub start_examples : StartExamples
start_examples = record {
  six_plates = record { six_plates_at_most = omega arith; one_in_press_at_most = refl; stamp_in_range = omega arith };
  seven_plates = λ k. absurd (omega (arith, k.six_plates_at_most));
  two_in_press = λ k. let e = k.one_in_press_at_most in cc;
  stamp_too_great = λ k. absurd (omega (arith, k.stamp_in_range));
}
