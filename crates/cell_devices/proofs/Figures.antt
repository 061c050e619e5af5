-- That the definitions meet their figures.
use Rattle.std.proofs.Common.{◌≡◌, pos, ◌≤ℤ◌, ◌<ℤ◌, refl, arith}
use Rattle.std.specs.Prelude.{neg_ℤ}
use Rattle.std.specs.Int.Signed.{le_z_yes, lt_z_yes}
use Rattle.std.proofs.lemmas.Int.{ints}
use Rattle.cell_sensors.specs.Names.{IsScale}
use Rattle.cell_sensors.specs.Scale.{scale_by}
use Rattle.cell_devices.specs.Drives.{ReadsLine}
use Rattle.cell_devices.specs.Examples.{scale, Goes, DevicesAreMet}
use Rattle.cell_devices.specs.declared.motor.Motor.TheVariants.{Off, Plus, Minus}
use Rattle.cell_devices.specs.declared.stops.Stop.{Stop}
use Rattle.cell_devices.proofs.lemmas.DriveLemmas.{stops_there, goes_plus, goes_minus}
use Rattle.cell_sensors.proofs.lemmas.LineLemmas.{line_in_window_lem, line_below, line_above}

is_scale : IsScale scale
is_scale = record {
  raws_rise = omega arith;
  raws_fit = omega arith;
  ats_rise = omega (arith, ints);
  lowest = omega (arith, ints);
  highest = omega (arith, ints);
  finest = omega (arith, ints);
  coarsest = omega (arith, ints);
}

at_341_less : ReadsLine scale 341 (pos 5) (pos 336)
at_341_less = record { scale = is_scale; tolerance = refl; near = record { not_below = omega (arith, ints); not_above = omega (arith, ints) } }

at_341_more : ReadsLine scale 341 (pos 5) (pos 346)
at_341_more = record { scale = is_scale; tolerance = refl; near = record { not_below = omega (arith, ints); not_above = omega (arith, ints) } }

at_259 : ReadsLine scale 259 (pos 5) (pos 264)
at_259 = record { scale = is_scale; tolerance = refl; near = record { not_below = omega (arith, ints); not_above = omega (arith, ints) } }

at_300_less : ReadsLine scale 300 (pos 5) (pos 295)
at_300_less = record { scale = is_scale; tolerance = refl; near = record { not_below = omega (arith, ints); not_above = omega (arith, ints) } }

at_300_more : ReadsLine scale 300 (pos 5) (pos 305)
at_300_more = record { scale = is_scale; tolerance = refl; near = record { not_below = omega (arith, ints); not_above = omega (arith, ints) } }

-- a scale below 0
deep_scale : IsScale (scale_by 10 110 (neg_ℤ (pos 1000)) (neg_ℤ (pos 900)) (pos 2))
deep_scale = record { raws_rise = omega arith; raws_fit = omega arith; ats_rise = lt_z_yes tt; lowest = le_z_yes tt; highest = le_z_yes tt; finest = le_z_yes tt; coarsest = le_z_yes tt }

-- a scale below 0 whose raw values are its positions above -1000
sunk_scale : IsScale (scale_by 0 1000 (neg_ℤ (pos 1000)) (pos 0) (pos 5))
sunk_scale = record { raws_rise = omega arith; raws_fit = omega arith; ats_rise = lt_z_yes tt; lowest = le_z_yes tt; highest = le_z_yes tt; finest = le_z_yes tt; coarsest = le_z_yes tt }

sunk_at_541 : ReadsLine (scale_by 0 1000 (neg_ℤ (pos 1000)) (pos 0) (pos 5)) 541 (pos 5) (neg_ℤ (pos 464))
sunk_at_541 = record { scale = sunk_scale; tolerance = refl; near = record { not_below = le_z_yes tt; not_above = le_z_yes tt } }

sunk_at_500 : ReadsLine (scale_by 0 1000 (neg_ℤ (pos 1000)) (pos 0) (pos 5)) 500 (pos 5) (neg_ℤ (pos 505))
sunk_at_500 = record { scale = sunk_scale; tolerance = refl; near = record { not_below = le_z_yes tt; not_above = le_z_yes tt } }

off_in_time : Goes (pos 335) Off
off_in_time = record {
  off = λ e s raw r. line_in_window_lem s raw (pos 335) (pos 300) (pos 40) r.scale r.near (let t = r.tolerance in record { not_below = omega (arith, ints); not_above = omega (arith, ints) });
  plus = λ e. cc;
  minus = λ e. cc;
}

up_in_time : Goes (pos 294) Plus
up_in_time = record {
  off = λ e. cc;
  plus = λ e s raw r. line_below s raw (pos 294) (pos 300) r.scale r.near (let t = r.tolerance in omega (arith, ints));
  minus = λ e. cc;
}

down_in_time : Goes (pos 306) Minus
down_in_time = record {
  off = λ e. cc;
  plus = λ e. cc;
  minus = λ e s raw r. line_above s raw (pos 306) (pos 300) r.scale r.near (let t = r.tolerance in omega (arith, ints));
}

abbrev there : Stop
there = record { target = pos 300; half = 40 }

pub devices_are_met : DevicesAreMet
devices_are_met = record {
  directions = record {
    up_then_off = refl;
    up_then_up = refl;
    up_then_down = refl;
    down_then_off = refl;
    down_then_up = refl;
    down_then_down = refl;
    goes_up = refl;
    goes_down = refl;
  };
  readings = record {
    too_much = at_341_more;
    too_little = at_341_less;
    far_too_much = λ k. (let lie : pos 347000 ≤ℤ pos 346000 = k.near.not_below in absurd (omega (arith, ints)));
    far_too_little = λ k. (let lie : pos 341000 ≤ℤ pos 340000 = k.near.not_above in absurd (omega (arith, ints)));
    other_tolerance = λ k. (let lie : pos 5 ≡ pos 6 = k.tolerance in cc);
    no_scale = λ k. k.scale.coarsest.le;
    below_0 = record { scale = deep_scale; tolerance = refl; near = record { not_below = le_z_yes tt; not_above = le_z_yes tt } };
  };
  lines = record {
    off_above = λ k. (let lie : pos 341000 ≤ℤ pos 340000 = (k.off refl scale 341 at_341_less).not_above in absurd (omega (arith, ints)));
    off_below = λ k. (let lie : pos 300000 ≤ℤ pos 299000 = (k.off refl scale 259 at_259).not_below in absurd (omega (arith, ints)));
    up_there = λ k. (let lie : pos 300000 <ℤ pos 300000 = k.plus refl scale 300 at_300_less in absurd (omega (arith, ints)));
    down_there = λ k. (let lie : pos 300000 <ℤ pos 300000 = k.minus refl scale 300 at_300_more in absurd (omega (arith, ints)));
    off_in_time = off_in_time;
    up_in_time = up_in_time;
    down_in_time = down_in_time;
    off_below_0 = λ k. (k.off refl (scale_by 0 1000 (neg_ℤ (pos 1000)) (pos 0) (pos 5)) 541 sunk_at_541).not_above.le;
    up_below_0 = λ k. (k.plus refl (scale_by 0 1000 (neg_ℤ (pos 1000)) (pos 0) (pos 5)) 500 sunk_at_500).lt;
  };
  stops = record {
    up = goes_plus there (pos 10) (pos 269) (le_z_yes tt) (lt_z_yes tt);
    lowest = stops_there there (pos 10) (pos 270) (record { not_below = le_z_yes tt; not_above = le_z_yes tt });
    highest = stops_there there (pos 10) (pos 330) (record { not_below = le_z_yes tt; not_above = le_z_yes tt });
    down = goes_minus there (pos 10) (pos 331) (le_z_yes tt) (lt_z_yes tt);
    not_off = λ k. (k.off.0 refl).not_above.le;
    not_up = λ k. (k.plus.0 refl).lt;
    not_down = λ k. (k.minus.0 refl).lt;
    lowest_by_1 = stops_there there (pos 1) (pos 261) (record { not_below = le_z_yes tt; not_above = le_z_yes tt });
    up_by_1 = goes_plus there (pos 1) (pos 260) (le_z_yes tt) (lt_z_yes tt);
    highest_by_1 = stops_there there (pos 1) (pos 339) (record { not_below = le_z_yes tt; not_above = le_z_yes tt });
    down_by_1 = goes_minus there (pos 1) (pos 340) (le_z_yes tt) (lt_z_yes tt);
    below_0 = goes_plus (record { target = neg_ℤ (pos 100); half = 20 }) (pos 5) (neg_ℤ (pos 116)) (le_z_yes tt) (lt_z_yes tt);
    no_stop = refl;
    no_stop_up = λ k. cc;
    no_stop_down = λ k. cc;
  };
  limits = record {
    retracted = refl;
    travels = refl;
    window = refl;
    coarsest = record { raws_rise = omega arith; raws_fit = omega arith; ats_rise = lt_z_yes tt; lowest = le_z_yes tt; highest = le_z_yes tt; finest = le_z_yes tt; coarsest = le_z_yes tt };
    coarser = λ k. k.coarsest.le;
  };
}
