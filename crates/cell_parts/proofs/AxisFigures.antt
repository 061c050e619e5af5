-- The scales of the axes, and their ends, meet their figures.
use Rattle.std.proofs.Common.{pos, refl, arith, inl, inr}
use Rattle.std.specs.Int.Signed.{le_z_yes, lt_z_yes}
use Rattle.std.proofs.lemmas.Int.{ints}
use Rattle.cell_rules.specs.Types.{Press}
use Rattle.cell_devices.specs.declared.motor.Motor.TheVariants.{Minus}
use Rattle.cell_parts.specs.Axes.{IsAxisScale}
use Rattle.cell_parts.specs.PartExamples.{odd_arm1, odd_arm2, odd_rotation, odd_turn, odd_gripper, three_for_two, scale_to}
use Rattle.cell_parts.specs.Collisions.{DrivesPastEnd}
use Rattle.cell_parts.specs.Examples.{driven_at, with_turn}
use Rattle.cell_parts.specs.ScaleExamples.{AxesAreMet}

three : IsAxisScale (pos 1000) three_for_two
three = record {
  scale = record { raws_rise = omega arith; raws_fit = omega arith; ats_rise = lt_z_yes tt; lowest = le_z_yes tt; highest = le_z_yes tt; finest = le_z_yes tt; coarsest = le_z_yes tt };
  from = refl;
  to = refl;
  wide = le_z_yes tt;
}

short : IsAxisScale (pos 500) (scale_to 500 5 505)
short = record {
  scale = record { raws_rise = omega arith; raws_fit = omega arith; ats_rise = lt_z_yes tt; lowest = le_z_yes tt; highest = le_z_yes tt; finest = le_z_yes tt; coarsest = le_z_yes tt };
  from = refl;
  to = refl;
  wide = le_z_yes tt;
}

arm1 : IsAxisScale (pos 1000) odd_arm1
arm1 = record {
  scale = record { raws_rise = omega arith; raws_fit = omega arith; ats_rise = lt_z_yes tt; lowest = le_z_yes tt; highest = le_z_yes tt; finest = le_z_yes tt; coarsest = le_z_yes tt };
  from = refl;
  to = refl;
  wide = le_z_yes tt;
}

arm2 : IsAxisScale (pos 1000) odd_arm2
arm2 = record {
  scale = record { raws_rise = omega arith; raws_fit = omega arith; ats_rise = lt_z_yes tt; lowest = le_z_yes tt; highest = le_z_yes tt; finest = le_z_yes tt; coarsest = le_z_yes tt };
  from = refl;
  to = refl;
  wide = le_z_yes tt;
}

rotation : IsAxisScale (pos 2000) odd_rotation
rotation = record {
  scale = record { raws_rise = omega arith; raws_fit = omega arith; ats_rise = lt_z_yes tt; lowest = le_z_yes tt; highest = le_z_yes tt; finest = le_z_yes tt; coarsest = le_z_yes tt };
  from = refl;
  to = refl;
  wide = le_z_yes tt;
}

turn : IsAxisScale (pos 500) odd_turn
turn = record {
  scale = record { raws_rise = omega arith; raws_fit = omega arith; ats_rise = lt_z_yes tt; lowest = le_z_yes tt; highest = le_z_yes tt; finest = le_z_yes tt; coarsest = le_z_yes tt };
  from = refl;
  to = refl;
  wide = le_z_yes tt;
}

gripper : IsAxisScale (pos 1000) odd_gripper
gripper = record {
  scale = record { raws_rise = omega arith; raws_fit = omega arith; ats_rise = lt_z_yes tt; lowest = le_z_yes tt; highest = le_z_yes tt; finest = le_z_yes tt; coarsest = le_z_yes tt };
  from = refl;
  to = refl;
  wide = le_z_yes tt;
}

-- the press is at its end and its motor is off
press_stays : ¬ DrivesPastEnd Press (with_turn (driven_at 0 Minus))
press_stays (inl k) = absurd (omega (arith, ints, k.0))
press_stays (inr k) = cc

pub axes : AxesAreMet
axes = record {
  scales = record {
    wide = three;
    as_wide_as_the_axis = short;
    too_narrow = λ k. k.wide.le;
    starts_elsewhere = λ k. absurd (omega (arith, ints, k.from));
    starts_below = λ k. absurd (omega (arith, ints, k.from));
    ends_before = λ k. absurd (omega (arith, ints, k.to));
    ends_after = λ k. absurd (omega (arith, ints, k.to));
    no_scale = λ k. k.scale.finest.le;
  };
  cell = record {
    odd = record { arm1 = arm1; arm2 = arm2; rotation = rotation; turn = turn; gripper = gripper };
    robot = refl;
    arm1 = λ k. absurd (omega (arith, ints, k.arm1.to));
    arm2 = λ k. absurd (omega (arith, ints, k.arm2.to));
    rotation = λ k. absurd (omega (arith, ints, k.rotation.to));
    turn = λ k. absurd (omega (arith, ints, k.turn.to));
    gripper = λ k. absurd (omega (arith, ints, k.gripper.to));
  };
  within = record {
    first = record { first = le_z_yes tt; last = le_z_yes tt };
    last = record { first = le_z_yes tt; last = le_z_yes tt };
    before_first = λ k. k.first.le;
    after_last = λ k. k.last.le;
    at_start = record {
      press = record { first = le_z_yes tt; last = le_z_yes tt };
      arm1 = record { first = le_z_yes tt; last = le_z_yes tt };
      arm2 = record { first = le_z_yes tt; last = le_z_yes tt };
      rotation = record { first = le_z_yes tt; last = le_z_yes tt };
      lift = record { first = le_z_yes tt; last = le_z_yes tt };
      turn = record { first = le_z_yes tt; last = le_z_yes tt };
      travel = record { first = le_z_yes tt; last = le_z_yes tt };
      gripper = record { first = le_z_yes tt; last = le_z_yes tt };
    };
    at_ends = record {
      press = record { first = le_z_yes tt; last = le_z_yes tt };
      arm1 = record { first = le_z_yes tt; last = le_z_yes tt };
      arm2 = record { first = le_z_yes tt; last = le_z_yes tt };
      rotation = record { first = le_z_yes tt; last = le_z_yes tt };
      lift = record { first = le_z_yes tt; last = le_z_yes tt };
      turn = record { first = le_z_yes tt; last = le_z_yes tt };
      travel = record { first = le_z_yes tt; last = le_z_yes tt };
      gripper = record { first = le_z_yes tt; last = le_z_yes tt };
    };
    press = λ k. k.press.last.le;
    arm1 = λ k. k.arm1.last.le;
    arm2 = λ k. k.arm2.last.le;
    rotation = λ k. k.rotation.last.le;
    lift = λ k. k.lift.last.le;
    turn = λ k. k.turn.last.le;
    travel = λ k. k.travel.last.le;
    gripper = λ k. k.gripper.last.le;
    feed_drives_no_axis = λ k. k;
    deposit_drives_no_axis = λ k. k;
    watch_drives_no_axis = λ k. k;
    press_drives_no_table = λ k. press_stays k;
  };
}
