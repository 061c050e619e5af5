-- Literal rows.
use Rattle.std.proofs.Common.{◌≡◌, ℕ, zero, suc, inl, inr, refl, arith}
use Rattle.plan_types.specs.declared.posture.Posture.TheVariants.{Moving, OpenIn}
use Rattle.plan_words.specs.Group.{HasZone, HasPlace}
use Rattle.plan_words.specs.Rows.{WrongSplits, NoOneOrder, LooksAreNoMoment, lower_alone, first_without_hand}

-- a group with one zone, the first, hasn't the second
not_second : (z : ℕ) → HasZone lower_alone z → z ≡ 1 → ⊥
not_second z (zero, l, e) f = absurd (omega (arith, e, f))
not_second z (suc i, l, e) f = absurd (omega (arith, l))

not_hand : (p : ℕ) → HasPlace first_without_hand p → p ≡ 0 → ⊥
not_hand p (zero, l, e) f = absurd (omega (arith, e, f))
not_hand p (suc i, l, e) f = absurd (omega (arith, l))

pub wrong_splits : WrongSplits
wrong_splits = record {
  one_pose_two_words = λ k. not_second 1 (k.by_pose 0 1 (0, omega arith, refl) (omega arith) (inl (Moving, refl))) refl;
  moving_pose_two_words = λ k. not_second 1 (k.by_pose 0 1 (0, omega arith, refl) (omega arith) (inr (inl refl, refl))) refl;
  one_hand_two_words = λ k. not_second 1 (k.by_place 0 1 (0, omega arith, refl) (omega arith) (OpenIn, record { giver = 0; receiver = 2; from = 0; to = 2 }, refl, inl refl)) refl;
  one_plate_two_words = λ k. not_hand 0 (k.by_way 0 0 (0, omega arith, refl) (OpenIn, record { giver = 0; receiver = 1; from = 0; to = 1 }, refl, inl refl)) refl;
  lift_refused = refl;
  half_refused = refl;
  lift_moves = refl;
  second_give_refused = refl;
  second_give = refl;
}

pub no_one_order : NoOneOrder
no_one_order = record {
  first_is_legal = (refl, (refl, tt));
  second_is_legal = (refl, (refl, tt));
  no_order = λ a b c d e f g h. omega (arith, e, f, g, h);
}

pub looks_are_no_moment : LooksAreNoMoment
looks_are_no_moment = record {
  first_is_legal = (refl, (refl, tt));
  second_is_legal = (refl, (refl, tt));
  whole_is_legal = (refl, (refl, (refl, (refl, tt))));
  never_both = refl;
}
