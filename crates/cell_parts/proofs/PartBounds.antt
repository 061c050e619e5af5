-- The examples of the parts.
use Rattle.std.proofs.Common.{rules, ◌≡◌, ◌≢◌, ◌↔◌, ℕ, Bool, true, false, inl, inr, refl}
use Rattle.std.proofs.lemmas.Bool.{false_from_ne_true}
use Rattle.std.specs.Int.Signed.{le_z_yes}
use Rattle.cell_sensors.specs.Scale.{Scale}
use Rattle.cell_rules.specs.Types.{Feed, Deposit, Zone, Z1, Z4, Z5, Z6, Give, Take}
use Rattle.cell_parts.specs.declared.belt.Belt.{Belt}
use Rattle.cell_sensors.specs.Names.{RobotScales}
use Rattle.cell_parts.specs.PartExamples.{SettingExamples, MovingBounds, SensorBounds, press_sense, table_sense, robot_sense, crane_sense, feed_sense, deposit_sense, ShowingExamples, feed_hears, deposit_hears, NoteBounds, StartValues}
use Rattle.cell_parts.proofs.Contrasts.{neither, false_true}
use Rattle.cell_parts.proofs.Figures.{always, never, order, inside}
use Rattle.cell_parts.proofs.Raws.{raws}

pub setting : (scale : Scale) (scales : RobotScales) → SettingExamples scale scales
setting scale scales = search rules

pub moving : (scale : Scale) (scales : RobotScales) → MovingBounds scale scales
moving scale scales = search rules

pub sensors : SensorBounds
sensors = search (rules, order, inside)

-- ---- exactly what is shown

off_unless : {P : Type 0} → (b : Bool) → ((b ≡ true) ↔ P) → ¬ P → b ≡ false
off_unless b shown not = false_from_ne_true b (λ on. not (shown.0 on))

press_as : (bottom middle top b m t : Bool) → bottom ≡ b → middle ≡ m → top ≡ t → press_sense bottom middle top ≡ press_sense b m t
press_as bottom middle top b m t e f g = cc

table_as : (low high l h : Bool) (raw r : ℕ) → low ≡ l → high ≡ h → raw ≡ r → table_sense low high raw ≡ table_sense l h r
table_as low high l h raw r e f g = cc

crane_as : (low high l h : Bool) (raw r : ℕ) → low ≡ l → high ≡ h → raw ≡ r → crane_sense low high raw ≡ crane_sense l h r
crane_as low high l h raw r e f g = cc

robot_as : (x y z a b c : ℕ) → x ≡ a → y ≡ b → z ≡ c → robot_sense x y z ≡ robot_sense a b c
robot_as x y z a b c e f g = cc

feed_as : (x b : Bool) → x ≡ b → feed_sense x ≡ feed_sense b
feed_as x b e = cc

deposit_as : (x b : Bool) → x ≡ b → deposit_sense x ≡ deposit_sense b
deposit_as x b e = cc

pub showing : ShowingExamples
showing = record {
  press_at_bottom = (
    record { bottom = always refl (le_z_yes tt); middle = never false_true (λ k. k.0.le); top = never false_true (λ k. k.le) },
    λ other s. press_as other.bottom other.middle other.top true false false (s.bottom.1 (le_z_yes tt)) (off_unless other.middle s.middle (λ k. k.0.le)) (off_unless other.top s.top (λ k. k.le)),
  );
  press_at_middle = (
    record { bottom = never false_true (λ k. k.le); middle = always refl (le_z_yes tt, le_z_yes tt); top = never false_true (λ k. k.le) },
    λ other s. press_as other.bottom other.middle other.top false true false (off_unless other.bottom s.bottom (λ k. k.le)) (s.middle.1 (le_z_yes tt, le_z_yes tt)) (off_unless other.top s.top (λ k. k.le)),
  );
  press_at_top = (
    record { bottom = never false_true (λ k. k.le); middle = never false_true (λ k. k.1.le); top = always refl (le_z_yes tt) },
    λ other s. press_as other.bottom other.middle other.top false false true (off_unless other.bottom s.bottom (λ k. k.le)) (off_unless other.middle s.middle (λ k. k.1.le)) (s.top.1 (le_z_yes tt)),
  );
  press_between = (
    record { bottom = never false_true (λ k. k.le); middle = never false_true (λ k. k.0.le); top = never false_true (λ k. k.le) },
    λ other s. press_as other.bottom other.middle other.top false false false (off_unless other.bottom s.bottom (λ k. k.le)) (off_unless other.middle s.middle (λ k. k.0.le)) (off_unless other.top s.top (λ k. k.le)),
  );
  table_at_bottom = (
    record { bottom = always refl (le_z_yes tt); top = never false_true (λ k. k.le); raw = raws.turn_at_251.0 },
    λ other s. table_as other.bottom other.top true false other.turn 502 (s.bottom.1 (le_z_yes tt)) (off_unless other.top s.top (λ k. k.le)) (raws.turn_at_251.1 other.turn s.raw),
  );
  table_at_top = (
    record { bottom = never false_true (λ k. k.le); top = always refl (le_z_yes tt); raw = raws.turn_at_499.0 },
    λ other s. table_as other.bottom other.top false true other.turn 998 (off_unless other.bottom s.bottom (λ k. k.le)) (s.top.1 (le_z_yes tt)) (raws.turn_at_499.1 other.turn s.raw),
  );
  robot = (
    record { arm1 = raws.arm1_at_1.0; arm2 = raws.arm2_at_999.0; rotation = raws.rotation_at_1001.0 },
    λ other s. robot_as other.arm1 other.arm2 other.rotation 1 2001 2052 (raws.arm1_at_1.1 other.arm1 s.arm1) (raws.arm2_at_999.1 other.arm2 s.arm2) (raws.rotation_at_1001.1 other.rotation s.rotation),
  );
  crane_at_deposit = (
    record { deposit = always refl (le_z_yes tt); feed = never false_true (λ k. k.le); raw = raws.gripper_at_999.0 },
    λ other s. crane_as other.deposit other.feed true false other.gripper 1506 (s.deposit.1 (le_z_yes tt)) (off_unless other.feed s.feed (λ k. k.le)) (raws.gripper_at_999.1 other.gripper s.raw),
  );
  crane_at_feed = (
    record { deposit = never false_true (λ k. k.le); feed = always refl (le_z_yes tt); raw = raws.gripper_at_1.0 },
    λ other s. crane_as other.deposit other.feed false true other.gripper 6 (off_unless other.deposit s.deposit (λ k. k.le)) (s.feed.1 (le_z_yes tt)) (raws.gripper_at_1.1 other.gripper s.raw),
  );
  feed_sees_end = (record { barrier = always refl (inr (le_z_yes tt, le_z_yes tt)) }, λ other s. feed_as other.barrier true (s.barrier.1 (inr (le_z_yes tt, le_z_yes tt))));
  feed_sees_entry = (record { barrier = always refl (inl (le_z_yes tt, le_z_yes tt)) }, λ other s. feed_as other.barrier true (s.barrier.1 (inl (le_z_yes tt, le_z_yes tt))));
  feed_sees_none = (record { barrier = never false_true (neither (λ k. k.0.le) (λ k. k.1.le)) }, λ other s. feed_as other.barrier false (off_unless other.barrier s.barrier (neither (λ k. k.0.le) (λ k. k.1.le))));
  deposit_sees_end = (record { barrier = always refl (inr (le_z_yes tt, le_z_yes tt)) }, λ other s. deposit_as other.barrier true (s.barrier.1 (inr (le_z_yes tt, le_z_yes tt))));
  deposit_sees_entry = (record { barrier = always refl (inl (le_z_yes tt, le_z_yes tt)) }, λ other s. deposit_as other.barrier true (s.barrier.1 (inl (le_z_yes tt, le_z_yes tt))));
  deposit_sees_none = (record { barrier = never false_true (neither (λ k. k.0.le) (λ k. k.1.le)) }, λ other s. deposit_as other.barrier false (off_unless other.barrier s.barrier (neither (λ k. k.0.le) (λ k. k.1.le))));
}

-- ---- what is noted

feed_gives_elsewhere : (b : Belt) (z : Zone) → z ≢ Z1 → feed_hears Feed (Give z) b ≡ b
feed_gives_elsewhere b Z1 other = absurd (other refl)
feed_gives_elsewhere b another other = refl

feed_takes_elsewhere : (b : Belt) (z : Zone) → z ≢ Z6 → feed_hears Feed (Take z) b ≡ b
feed_takes_elsewhere b Z6 other = absurd (other refl)
feed_takes_elsewhere b another other = refl

deposit_gives_elsewhere : (b : Belt) (z : Zone) → z ≢ Z5 → deposit_hears Deposit (Give z) b ≡ b
deposit_gives_elsewhere b Z5 other = absurd (other refl)
deposit_gives_elsewhere b another other = refl

deposit_takes_elsewhere : (b : Belt) (z : Zone) → z ≢ Z4 → deposit_hears Deposit (Take z) b ≡ b
deposit_takes_elsewhere b Z4 other = absurd (other refl)
deposit_takes_elsewhere b another other = refl

pub notes : (scale : Scale) (scales : RobotScales) → NoteBounds scale scales
notes scale scales = search (rules, feed_gives_elsewhere, feed_takes_elsewhere, deposit_gives_elsewhere, deposit_takes_elsewhere)

pub start : StartValues
start = search rules
