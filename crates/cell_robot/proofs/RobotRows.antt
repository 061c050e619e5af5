-- The robot's program meets the rows of the examples.
use Rattle.std.specs.Option.{is_some}
use Rattle.std.proofs.lemmas.Int.{ints}
use Rattle.std.proofs.Common.{◌≡◌, ◌∙◌, sym, ap, rules, ℕ, ℤ, pos, Bool, true, false, if◌then◌else◌, Option, Some, None, refl, arith, not, subst, ◌&&◌, ◌+ℤ◌, ◌+◌, ◌-ℤ◌, ◌||◌, ◌≤ℤ◌}
use Rattle.std.specs.Int.Signed.{le_z_yes, lt_z_yes, le_z}
use Rattle.cell_rules.specs.Types.{Machine, Robot, Posture, OpenIn, Release, Refusal, Z2, Z3}
use Rattle.cell_devices.specs.declared.stops.Stop.{Stop}
use Rattle.cell_devices.specs.declared.motor.Motor.{Motor}
use Rattle.cell_devices.specs.Names.{DrivesTo, StopsAt}
use Rattle.cell_devices.specs.declared.motor.Motor.TheVariants.{Off, Minus, Plus}
use Rattle.cell_devices.specs.declared.stops.TheConstants.{ROTATION_ARM1_TABLE, ROTATION_ARM2_PRESS, ROTATION_ARM1_PRESS, ROTATION_ARM2_DEPOSIT, ARM1_TABLE, ARM1_PRESS, ARM2_PRESS, ARM2_DEPOSIT, RETRACTED}
use Rattle.cell_devices.specs.declared.act.RobotAct.{RobotAct}
use Rattle.cell_devices.proofs.lemmas.DriveLemmas.{drives_one, stops_there, goes_plus, goes_minus}
use Rattle.cell_rules.specs.ModelState.{ModelState}
use Rattle.cell_control.specs.declared.row.Row.{Row}
use Rattle.cell_control.specs.Names.{waits_on, DriveRow, is_inquiry, row_that_drives}
use Rattle.cell_control.proofs.lemmas.WaitLemmas.{stays_never, stays_until_free_and_open}
use Rattle.cell_sensors.specs.Names.{RobotScales}
use Rattle.cell_robot.specs.Names.{row_at, row_of, step_after_inquiry, arm1_stop, arm2_stop, turns_to, Acts, after_done}
use Rattle.cell_robot.specs.declared.robot.RobotStep.{RobotStep}
use Rattle.cell_robot.specs.declared.robot.RobotStep.TheVariants.{AwaitPlate, ReachTable, ReleaseTable, InspectPress, ReleasePress, ReachToLoad, AwaitForged, ReachToUnload, ReleaseUnloaded}
use Rattle.cell_robot.specs.declared.robot.RobotNotes.{RobotNotes}
use Rattle.cell_robot.specs.declared.robot.RobotMagnets.{RobotMagnets}
use Rattle.cell_robot.specs.declared.robot.RobotProgress.{RobotProgress}
use Rattle.cell_robot.specs.declared.robot.RobotReading.{RobotReading}
use Rattle.cell_robot.specs.RobotProgram.{is_off, rotation_stop, turns}
use Rattle.cell_robot.specs.RobotExamples.{noted, magnets, at, act_of, rows_by, begins_with, for_plate, for_room, EndRows, RobotAsks, scales, TurnRows, Arm1Rows, Arm2Rows, Arm1BackRows, Arm2BackRows, RobotDrives, RobotChecks, RobotDemandRows, RobotRowsAreMet, reads}

begins : (points : RobotScales) (s : ModelState) (arm1 press_in press_out arm2 : Bool)
    → (rows_by points).start (record s { full = record s.full { arm1 = arm1; press_in = press_in; press_out = press_out; arm2 = arm2 } }) ≡ begins_with arm1 press_in press_out arm2
begins points s arm1 press_in press_out arm2 = grind (rules)

-- ---- steps that ask

at_table : (owner : Option Machine) (flag : Bool) (posture : Posture) → step_after_inquiry AwaitPlate owner flag posture ≡ for_plate AwaitPlate ReachTable owner flag
at_table (Some Robot) true posture = refl
at_table _ _ posture = refl

at_press : (owner : Option Machine) (flag : Bool) (posture : Posture) → step_after_inquiry AwaitForged owner flag posture ≡ for_plate AwaitForged ReachToUnload owner flag
at_press (Some Robot) true posture = refl
at_press _ _ posture = refl

before_press : (owner : Option Machine) (flag : Bool) (posture : Posture) → step_after_inquiry InspectPress owner flag posture ≡ for_room ReleasePress ReachToLoad posture
before_press owner flag OpenIn = refl
before_press owner flag _ = refl

ends_at_table : (points : RobotScales) (m : RobotMagnets) → EndRows points ReleaseTable (Release Z2) m
ends_at_table points m = record {
  to_deposit = λ arm1 fed. record { asks = refl; stays = stays_never; leads = refl };
  to_unload = λ arm1. record { asks = refl; stays = stays_never; leads = refl };
  to_load = record { asks = refl; stays = stays_never; leads = refl };
  to_table = record { asks = refl; stays = stays_never; leads = refl };
}

ends_at_press : (points : RobotScales) (m : RobotMagnets) → EndRows points ReleaseUnloaded (Release Z3) m
ends_at_press points m = record {
  to_deposit = λ arm1 fed. record { asks = refl; stays = stays_never; leads = refl };
  to_unload = λ arm1. record { asks = refl; stays = stays_never; leads = refl };
  to_load = record { asks = refl; stays = stays_never; leads = refl };
  to_table = record { asks = refl; stays = stays_never; leads = refl };
}

asks : (points : RobotScales) (arm1 arm2 fed : Bool) (m : RobotMagnets) → RobotAsks points arm1 arm2 fed m
asks points arm1 arm2 fed m = record {
  awaits_plate = record { asks = refl; stays = stays_never; leads = λ owner flag posture. ap (λ s. at s (noted arm1 arm2 fed) m) (at_table owner flag posture) };
  takes = record { asks = refl; stays = stays_never; leads = refl };
  releases_table = ends_at_table points m;
  claims_press = record { asks = refl; stays = stays_until_free_and_open; leads = refl };
  inspects = record { asks = refl; stays = stays_never; leads = λ owner flag posture. ap (λ s. at s (noted arm1 arm2 fed) m) (before_press owner flag posture) };
  releases_press = record { asks = refl; stays = stays_never; leads = refl };
  gives_to_press = record { asks = refl; stays = stays_never; leads = refl };
  gives_to_press_beside_forged = record { asks = refl; stays = stays_never; leads = refl };
  awaits_forged = record { asks = refl; stays = stays_never; leads = λ owner flag posture. ap (λ s. at s (noted arm1 arm2 fed) m) (at_press owner flag posture) };
  takes_forged = record { asks = refl; stays = stays_never; leads = refl };
  releases_unloaded = ends_at_press points m;
  claims_deposit = record { asks = refl; stays = stays_until_free_and_open; leads = refl };
  gives_to_deposit = record { asks = refl; stays = stays_never; leads = refl };
  gives_to_deposit_before_load = record { asks = refl; stays = stays_never; leads = refl };
  gives_to_deposit_before_unload = record { asks = refl; stays = stays_never; leads = refl };
}

-- ---- steps that drive

-- a step and a reading determine the commands to motors and magnets
acts_one : (points : RobotScales) (p : RobotProgress) (r : RobotReading) (a b : RobotAct) → Acts points p r a → Acts points p r b → b ≡ a
acts_one points p r a b at_a at_b =
    let first : b.arm1 ≡ a.arm1 = drives_one (arm1_stop p.step) points.arm1.tol r.arm1 a.arm1 b.arm1 at_a.arm1 at_b.arm1 in
    let second : b.arm2 ≡ a.arm2 = drives_one (arm2_stop p.step) points.arm2.tol r.arm2 a.arm2 b.arm2 at_a.arm2 at_b.arm2 in
    let turn : b.rotation ≡ a.rotation = drives_one (turns_to p.step r.retracted) points.rotation.tol r.rotation a.rotation b.rotation at_a.rotation at_b.rotation in
    let magnet1 : b.magnet1 ≡ a.magnet1 = at_b.magnet1 ∙ sym at_a.magnet1 in
    let magnet2 : b.magnet2 ≡ a.magnet2 = at_b.magnet2 ∙ sym at_a.magnet2 in
    ap (λ m. act_of m b.arm2 b.rotation (magnets b.magnet1 b.magnet2)) first
    ∙ ap (λ m. act_of a.arm1 m b.rotation (magnets b.magnet1 b.magnet2)) second
    ∙ ap (λ m. act_of a.arm1 a.arm2 m (magnets b.magnet1 b.magnet2)) turn
    ∙ ap (λ m. act_of a.arm1 a.arm2 a.rotation (magnets m b.magnet2)) magnet1
    ∙ ap (λ m. act_of a.arm1 a.arm2 a.rotation (magnets a.magnet1 m)) magnet2

-- what a step does: its row, the stops to which it drives both arms and the rotation, and whether it turns
record Sheet : Type 0 where
  row : Row RobotProgress
  arm1 : Option Stop
  arm2 : Option Stop
  rotation : Option Stop
  turns : Bool

abbrev sheet_of : RobotProgress → Sheet
sheet_of p = record { row = row_of p; arm1 = arm1_stop p.step; arm2 = arm2_stop p.step; rotation = rotation_stop p.step; turns = turns p.step }

abbrev goes_to : Option Stop → Option Stop → Option Stop → RobotProgress → Sheet
goes_to arm1 arm2 rotation next = record { row = row_that_drives next; arm1 = arm1; arm2 = arm2; rotation = rotation; turns = is_some rotation }

-- such a step is done once all its motors are off, and both arms are retracted if it turns
abbrev leads_on : Bool → Bool → Motor → Motor → Motor → Bool
leads_on turns retracted first second turn = (not turns || retracted) && (is_off first && (is_off second && is_off turn))

drive_row : (p q : RobotProgress) (arm1 arm2 rotation : Option Stop) → sheet_of p ≡ goes_to arm1 arm2 rotation q → (r : RobotReading) (first second turn : Motor)
    → DrivesTo arm1 (pos 5) r.arm1 first → DrivesTo arm2 (pos 6) r.arm2 second → DrivesTo (if r.retracted then rotation else None) (pos 7) r.rotation turn
    → DriveRow (rows_by scales) p r (act_of first second turn q.magnets) (if leads_on (is_some rotation) r.retracted first second turn then q else p)
drive_row p q arm1 arm2 rotation e r first second turn at_arm1 at_arm2 at_rotation =
    let acts : Acts scales p r (act_of first second turn q.magnets) =
    record {
      arm1 = subst (λ (s : Sheet). DrivesTo s.arm1 (pos 5) r.arm1 first) (sym e) at_arm1;
      arm2 = subst (λ (s : Sheet). DrivesTo s.arm2 (pos 6) r.arm2 second) (sym e) at_arm2;
      rotation = subst (λ (s : Sheet). DrivesTo (if r.retracted then s.rotation else None) (pos 7) r.rotation turn) (sym e) at_rotation;
      magnet1 = ap (λ (s : Sheet). s.row.next.magnets.arm1) (sym e);
      magnet2 = ap (λ (s : Sheet). s.row.next.magnets.arm2) (sym e);
    } in
    record {
      asks_nothing = ap (λ (s : Sheet). s.row.call) e;
      drives = acts;
      drives_only = λ other d. acts_one scales p r (act_of first second turn q.magnets) other acts d;
      leads = ap (λ (s : Sheet). if leads_on s.turns r.retracted first second turn then s.row.next else p) e;
    }

-- a motor that drives to a stop is off from one position to another
record Around (stop : Stop) (tol : ℤ) (below first last above : ℕ) : Type 0 where
  up : StopsAt stop tol (pos below) Plus
  from : StopsAt stop tol (pos first) Off
  to : StopsAt stop tol (pos last) Off
  down : StopsAt stop tol (pos above) Minus

abbrev figures : ℤ → ℤ → ℕ → ℕ → Bool → ℤ × ℤ × ℕ × ℕ × Bool
figures first last above_below above room = (first, last, above_below, above, room)

abbrev Figures : Stop → ℤ → ℕ → ℕ → ℕ → ℕ → Type 0
Figures stop tol below first last above =
    figures (pos first) (pos last) first above (le_z (pos 0) (pos stop.half -ℤ tol)) ≡ figures (stop.target -ℤ (pos stop.half -ℤ tol)) (stop.target +ℤ (pos stop.half -ℤ tol)) (below + 1) (last + 1) true

around : (stop : Stop) (tol : ℤ) (below first last above : ℕ) → Figures stop tol below first last above → Around stop tol below first last above
around stop tol below first last above e =
    let from : pos first ≡ (stop.target -ℤ (pos stop.half -ℤ tol)) = ap (λ t. t.0) e in
    let to : pos last ≡ (stop.target +ℤ (pos stop.half -ℤ tol)) = ap (λ t. t.1) e in
    let under : first ≡ below + 1 = ap (λ t. t.2) e in
    let over : above ≡ last + 1 = ap (λ t. t.3) e in
    let room : pos 0 ≤ℤ (pos stop.half -ℤ tol) = le_z_yes (rw (ap (λ t. t.4) e) tt) in
    record {
      up = goes_plus stop tol (pos below) room (omega (arith, ints));
      from = stops_there stop tol (pos first) (record { not_below = omega (arith, ints); not_above = omega (arith, ints) });
      to = stops_there stop tol (pos last) (record { not_below = omega (arith, ints); not_above = omega (arith, ints) });
      down = goes_minus stop tol (pos above) room (omega (arith, ints));
    }

turns_by : (stop : Stop) (step next : RobotStep) (below first last above : ℕ) (n : RobotNotes) (m : RobotMagnets) → sheet_of (at step n m) ≡ goes_to None None (Some stop) (at next n m) → Figures stop (pos 7) below first last above → TurnRows step next below first last above n m
turns_by stop step next below first last above n m e f =
    let k = around stop (pos 7) below first last above f in
    let row = drive_row (at step n m) (at next n m) None None (Some stop) e in
    record {
      up = row _ Off Off Plus refl refl k.up;
      from = row _ Off Off Off refl refl k.from;
      to = row _ Off Off Off refl refl k.to;
      down = row _ Off Off Minus refl refl k.down;
      held_below = row _ Off Off Off refl refl refl;
      held_there = row _ Off Off Off refl refl refl;
      held_above = row _ Off Off Off refl refl refl;
    }

-- the rotation's motor is off in a step that doesn't turn
stands_still : (retracted : Bool) (tol read : ℤ) → DrivesTo (if retracted then None else None) tol read Off
stands_still true tol read = refl
stands_still false tol read = refl

reaches1_by : (stop : Stop) (step next : RobotStep) (below first last above turn : ℕ) (retracted : Bool) (n : RobotNotes) (m : RobotMagnets) → sheet_of (at step n m) ≡ goes_to (Some stop) None None (at next n m) → Figures stop (pos 5) below first last above
    → Arm1Rows step next below first last above turn retracted n m
reaches1_by stop step next below first last above turn retracted n m e f =
    let k = around stop (pos 5) below first last above f in
    let row = λ (read : ℕ) (motor : Motor) (d : StopsAt stop (pos 5) (pos read) motor). drive_row (at step n m) (at next n m) (Some stop) None None e (reads read 0 turn retracted) motor Off Off d refl (stands_still retracted _ _) in
    record { out = row _ _ k.up; from = row _ _ k.from; to = row _ _ k.to; back = row _ _ k.down }

reaches2_by : (stop : Stop) (step next : RobotStep) (below first last above turn : ℕ) (retracted : Bool) (n : RobotNotes) (m : RobotMagnets) → sheet_of (at step n m) ≡ goes_to None (Some stop) None (at next n m) → Figures stop (pos 6) below first last above
    → Arm2Rows step next below first last above turn retracted n m
reaches2_by stop step next below first last above turn retracted n m e f =
    let k = around stop (pos 6) below first last above f in
    let row = λ (read : ℕ) (motor : Motor) (d : StopsAt stop (pos 6) (pos read) motor). drive_row (at step n m) (at next n m) None (Some stop) None e (reads 0 read turn retracted) Off motor Off refl d (stands_still retracted _ _) in
    record { out = row _ _ k.up; from = row _ _ k.from; to = row _ _ k.to; back = row _ _ k.down }

-- an arm that is retracted
leaves1_by : (step next : RobotStep) (turn : ℕ) (retracted : Bool) (n : RobotNotes) (m : RobotMagnets) → sheet_of (at step n m) ≡ goes_to (Some RETRACTED) None None (at next n m) → Arm1BackRows step next turn retracted n m
leaves1_by step next turn retracted n m e =
    let row = λ (read : ℕ) (motor : Motor) (d : StopsAt RETRACTED (pos 5) (pos read) motor). drive_row (at step n m) (at next n m) (Some RETRACTED) None None e (reads read 0 turn retracted) motor Off Off d refl (stands_still retracted _ _) in
    record { out = row _ _ (goes_minus RETRACTED (pos 5) (pos 36) (le_z_yes tt) (lt_z_yes tt)); near_end = row _ _ (stops_there RETRACTED (pos 5) (pos 35) (record { not_below = le_z_yes tt; not_above = le_z_yes tt })); at_end = row _ _ (stops_there RETRACTED (pos 5) (pos 0) (record { not_below = le_z_yes tt; not_above = le_z_yes tt })) }

leaves2_by : (step next : RobotStep) (turn : ℕ) (retracted : Bool) (n : RobotNotes) (m : RobotMagnets) → sheet_of (at step n m) ≡ goes_to None (Some RETRACTED) None (at next n m) → Arm2BackRows step next turn retracted n m
leaves2_by step next turn retracted n m e =
    let row = λ (read : ℕ) (motor : Motor) (d : StopsAt RETRACTED (pos 6) (pos read) motor). drive_row (at step n m) (at next n m) None (Some RETRACTED) None e (reads 0 read turn retracted) Off motor Off refl d (stands_still retracted _ _) in
    record { out = row _ _ (goes_minus RETRACTED (pos 6) (pos 35) (le_z_yes tt) (lt_z_yes tt)); near_end = row _ _ (stops_there RETRACTED (pos 6) (pos 34) (record { not_below = le_z_yes tt; not_above = le_z_yes tt })); at_end = row _ _ (stops_there RETRACTED (pos 6) (pos 0) (record { not_below = le_z_yes tt; not_above = le_z_yes tt })) }

-- a step that switches a magnet
switches : (p q : RobotProgress) → sheet_of p ≡ goes_to None None None q → (r : RobotReading) → DriveRow (rows_by scales) p r (act_of Off Off Off q.magnets) q
switches p q e r = drive_row p q None None None e r Off Off Off refl refl (stands_still r.retracted _ _)

drives : (turn : ℕ) (retracted : Bool) (r : RobotReading) (n : RobotNotes) (first second : Bool) → RobotDrives turn retracted r n first second
drives turn retracted r n first second =
    let m = magnets first second in
    record {
      to_table = turns_by ROTATION_ARM1_TABLE _ _ _ _ _ _ n m refl refl;
      to_load = turns_by ROTATION_ARM1_PRESS _ _ _ _ _ _ n m refl refl;
      to_unload = turns_by ROTATION_ARM2_PRESS _ _ _ _ _ _ n m refl refl;
      to_deposit = turns_by ROTATION_ARM2_DEPOSIT _ _ _ _ _ _ n m refl refl;
      reaches_table = reaches1_by ARM1_TABLE _ _ _ _ _ _ turn retracted n m refl refl;
      leaves_table = leaves1_by _ _ turn retracted n m refl;
      reaches_to_load = reaches1_by ARM1_PRESS _ _ _ _ _ _ turn retracted n m refl refl;
      leaves_loaded = leaves1_by _ _ turn retracted n m refl;
      reaches_to_unload = reaches2_by ARM2_PRESS _ _ _ _ _ _ turn retracted n m refl refl;
      leaves_unloaded = leaves2_by _ _ turn retracted n m refl;
      reaches_deposit = reaches2_by ARM2_DEPOSIT _ _ _ _ _ _ turn retracted n m refl refl;
      leaves_deposit = leaves2_by _ _ turn retracted n m refl;
      grips = switches _ _ refl r;
      drops = switches _ _ refl r;
      grips_forged = switches _ _ refl r;
      drops_forged = switches _ _ refl r;
    }

-- ---- sensors and demands

checks : RobotChecks
checks = record {
  arm1_low = record { low = search rules; not_high = λ k. search rules; no_reading = λ r k. search rules };
  arm2_low = record { low = search rules; not_high = λ k. search rules; no_reading = λ r k. search rules };
  rotation_low = record { low = search rules; not_high = λ k. search rules; no_reading = λ r k. search rules };
  arm1_high = record { high = search rules; not_low = λ k. search rules; no_reading = λ r k. search rules };
  arm2_high = record { high = search rules; not_low = λ k. search rules; no_reading = λ r k. search rules };
  rotation_high = record { high = search rules; not_low = λ k. search rules; no_reading = λ r k. search rules };
  arm1_before_arm2 = record { high = search rules; not_low = λ k. search rules; no_reading = λ r k. search rules };
  arm1_before_rotation = record { low = search rules; not_high = λ k. search rules; no_reading = λ r k. search rules };
  arm2_before_rotation = record { high = search rules; not_low = λ k. search rules; no_reading = λ r k. search rules };
  none_low = λ k. search rules;
  none_high = λ k. search rules;
  no_clash = λ s k. search rules;
  by_gauges = search rules;
  arm1_not_by_line = λ k. search rules;
  arm2_not_by_line = λ k. search rules;
  rotation_not_by_line = λ k. search rules;
  both_in = search rules;
  both_in_is_seen = λ k. search rules;
  arm1_may_be_out = search rules;
  arm1_out_is_seen = λ k. search rules;
  arm2_may_be_out = search rules;
  arm2_out_is_seen = λ k. search rules;
}

demands : RobotDemandRows
demands = record {
  reaches_table = λ points n m act opening seen on k. let at = k.arm1 on in record { holds = at.0; stands = at.1 };
  leaves_table = λ points n m act opening seen on k. let at = k.arm1 on in record { holds = at.0; stands = at.1 };
  reaches_to_load = λ points n m act opening seen on k. let at = k.arm1 on in record { holds = at.0; stands = at.1 };
  leaves_loaded = λ points n m act opening seen on k. let at = k.arm1 on in record { holds = at.0; stands = at.1 };
  reaches_to_unload = λ points n m act opening seen on k. let at = k.arm2 on in record { holds = at.0; stands = at.1 };
  leaves_unloaded = λ points n m act opening seen on k. let at = k.arm2 on in record { holds = at.0; stands = at.1 };
  reaches_deposit = λ points n m act opening seen on k. let at = k.arm2 on in record { holds = at.0; stands = at.1 };
  leaves_deposit = λ points n m act opening seen on k. let at = k.arm2 on in record { holds = at.0; stands = at.1 };
}

-- answers that can't come
not_done : (s : RobotStep) (n : RobotNotes) (m : RobotMagnets) → is_inquiry (row_of (at s n m)).call ≡ true → after_done (at s n m) ≡ at s n m
not_done AwaitPlate n m e = refl
not_done InspectPress n m e = refl
not_done AwaitForged n m e = refl
not_done _ n m e = cc

not_shown : (s : RobotStep) (p : RobotProgress) (owner : Option Machine) (flag : Bool) (posture : Posture) → is_inquiry (row_at s p).call ≡ false → step_after_inquiry s owner flag posture ≡ s
not_shown AwaitPlate p owner flag posture e = cc
not_shown InspectPress p owner flag posture e = cc
not_shown AwaitForged p owner flag posture e = cc
not_shown _ p owner flag posture e = refl

never_refused : (s : RobotStep) (p : RobotProgress) (r : Refusal) → (row_at s p).call ≡ None → waits_on (row_at s p).waits r ≡ false
never_refused AwaitPlate p r e = cc
never_refused _ p r e = cc

pub robot-rows : RobotRowsAreMet
robot-rows = record {
  starts = λ points. record { whose = refl; by_places = λ s. begins points s s.full.arm1 s.full.press_in s.full.press_out s.full.arm2 };
  asks = asks;
  drives = drives;
  checks = checks;
  no_other_answers = λ points. record { not_done = λ p e. not_done p.step p.notes p.magnets e; not_shown = λ p owner flag posture e. ap (λ s. at s p.notes p.magnets) (not_shown p.step p owner flag posture e); not_refused = λ p r e. never_refused p.step p r e };
  rests = λ points step n m. refl;
  demands = demands;
}
