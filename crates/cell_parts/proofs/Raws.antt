-- The examples of what potentiometers show.
use Rattle.std.proofs.Common.{rules, ℕ, ◌+◌, ◌<◌, ◌≤◌, ℤ, pos, ◌≤ℤ◌, ◌<ℤ◌, arith}
use Rattle.std.specs.Prelude.{T}
use Rattle.std.proofs.lemmas.Int.{ints}
use Rattle.std.specs.Int.Signed.{le_z, lt_z, le_z_yes, lt_z_yes}
use Rattle.cell_sensors.specs.Names.{Scale, IsScale, height_of, line_height, IsRawAt}
use Rattle.cell_sensors.proofs.lemmas.LineLemmas.{one_raw_at}
use Rattle.cell_parts.specs.PartExamples.{Reads, scale_to, odd_arm1, odd_arm2, odd_rotation, odd_turn, odd_gripper, three_for_two, short_scale, RawBounds}
use Rattle.cell_parts.proofs.Figures.{order, past}

apart : {a b : ℤ} → a <ℤ b → b ≤ℤ a → ⊥
apart less more = omega (arith, ints)

limits : (end raw_lo raw_hi : ℕ) → 0 < end → end ≤ 100000 → raw_lo < raw_hi → raw_hi < 65536 → IsScale (scale_to end raw_lo raw_hi)
limits end raw_lo raw_hi some far rise fit = record {
  raws_rise = rise;
  raws_fit = fit;
  ats_rise = (past 0 end).1 some;
  lowest = le_z_yes tt;
  highest = (order end 100000).1 far;
  finest = le_z_yes tt;
  coarsest = le_z_yes tt;
}

short_limits : IsScale short_scale
short_limits = record { raws_rise = omega arith; raws_fit = omega arith; ats_rise = lt_z_yes tt; lowest = le_z_yes tt; highest = le_z_yes tt; finest = le_z_yes tt; coarsest = le_z_yes tt }

three_scale : IsScale three_for_two
three_scale = limits 1000 0 1500 (omega arith) (omega arith) (omega arith) (omega arith)

arm1_scale : IsScale odd_arm1
arm1_scale = limits 1000 0 1501 (omega arith) (omega arith) (omega arith) (omega arith)

arm2_scale : IsScale odd_arm2
arm2_scale = limits 1000 3 2004 (omega arith) (omega arith) (omega arith) (omega arith)

rotation_scale : IsScale odd_rotation
rotation_scale = limits 2000 7 4094 (omega arith) (omega arith) (omega arith) (omega arith)

turn_scale : IsScale odd_turn
turn_scale = limits 500 1 1000 (omega arith) (omega arith) (omega arith) (omega arith)

gripper_scale : IsScale odd_gripper
gripper_scale = limits 1000 5 1508 (omega arith) (omega arith) (omega arith) (omega arith)

-- between the points of a scale exactly one raw value is shown
between : (s : Scale) (p raw : ℕ) → IsScale s → T (le_z s.at_lo (pos p)) → T (le_z (pos p) s.at_hi) → T (le_z (line_height s raw) (height_of s (pos p)))
    → T (lt_z (height_of s (pos p)) (line_height s (raw + 1))) → Reads s p raw
between s p raw k from to low high =
    let is : IsRawAt s (pos p) raw = record { not_above = le_z_yes low; next_above = lt_z_yes high } in (
      record { between = λ _ _. is; below = λ before. absurd (apart before (le_z_yes from)); above = λ beyond. absurd (apart beyond (le_z_yes to)) },
      λ other shown. one_raw_at s (pos p) raw other k is (shown.between (le_z_yes from) (le_z_yes to)),
    )

pub raws : RawBounds
raws = search (rules, between, three_scale, arm1_scale, arm2_scale, rotation_scale, turn_scale, gripper_scale, short_limits)
