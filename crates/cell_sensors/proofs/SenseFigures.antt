-- The sensors of each machine, and switches that exclude each other, meet their figures.
use Rattle.std.proofs.Common.{refl, inl, inr}
use Rattle.std.specs.Prelude.{true, false}
use Rattle.cell_sensors.specs.Sensors.{PressClashes, SwitchesClash}
use Rattle.cell_sensors.specs.SenseExamples.{SenseExamples, press_by, fourteen}

press_at_bottom : ¬ PressClashes (press_by true false false)
press_at_bottom (inl (inl k)) = cc
press_at_bottom (inl (inr k)) = cc
press_at_bottom (inr k) = cc

press_at_middle : ¬ PressClashes (press_by false true false)
press_at_middle (inl (inl k)) = cc
press_at_middle (inl (inr k)) = cc
press_at_middle (inr k) = cc

press_at_top : ¬ PressClashes (press_by false false true)
press_at_top (inl (inl k)) = cc
press_at_top (inl (inr k)) = cc
press_at_top (inr k) = cc

press_between : ¬ PressClashes (press_by false false false)
press_between (inl (inl k)) = cc
press_between (inl (inr k)) = cc
press_between (inr k) = cc

none_clash : ¬ SwitchesClash fourteen
none_clash (inl (inl k)) = press_at_middle k
none_clash (inl (inr k)) = cc
none_clash (inr k) = cc

pub senses : SenseExamples
senses = record {
  machines = record {
    feed = refl;
    table_low = refl;
    table_high = refl;
    table_turn = refl;
    arm1 = refl;
    arm2 = refl;
    rotation = refl;
    press_low = refl;
    press_middle = refl;
    press_high = refl;
    press_bottom_alone = refl;
    deposit = refl;
    crane_at_deposit = refl;
    crane_at_feed = refl;
    gripper = refl;
  };
  clashes = record {
    table_both = (refl, refl);
    table_at_bottom = λ k. cc;
    table_at_top = λ k. cc;
    press_low_and_middle = inl (inl (refl, refl));
    press_low_and_high = inl (inr (refl, refl));
    press_middle_and_high = inr (refl, refl);
    press_all = inr (refl, refl);
    press_at_bottom = press_at_bottom;
    press_at_middle = press_at_middle;
    press_at_top = press_at_top;
    press_between = press_between;
    crane_both = (refl, refl);
    crane_at_deposit = λ k. cc;
    crane_at_feed = λ k. cc;
  };
  cell = record {
    none = none_clash;
    press = inl (inl (inr (refl, refl)));
    table = inl (inr (refl, refl));
    crane = inr (refl, refl);
  };
}
