-- What press and table have at each step: they are in step with a state exactly if they have this.
use Rattle.std.specs.Prelude.{◌≡◌, Bool, ◌&&◌, ◌||◌, not, map}
use Rattle.std.specs.List.{range_with_len}
use Rattle.cell_types.specs.declared.machine.Machine.{Machine}
use Rattle.cell_types.specs.declared.machine.Machine.TheVariants.{Table as TableMachine}
use Rattle.cell_types.specs.declared.place.Place.TheVariants.{Table as OnTable}
use Rattle.cell_rules.specs.Types.{Press, Z1, Z2, Z3, PressIn, PressOut, Posture, Closed, OpenIn, OpenOut, Moving}
use Rattle.cell_rules.specs.Types.{same_posture}
use Rattle.cell_rules.specs.Names.{ModelState, is_full, is_owned_by, same_flag, zone_at}
use Rattle.cell_rules.specs.declared.zones.ZoneState.{ZoneState}
use Rattle.cell_devices.specs.declared.motor.Direction.{Direction}
use Rattle.cell_table_press.specs.declared.press.PressStep.{PressStep}
use Rattle.cell_table_press.specs.declared.press.PressStep.TheVariants as press
use Rattle.cell_table_press.specs.declared.table.TableStep.{TableStep}
use Rattle.cell_table_press.specs.declared.table.TableStep.TheVariants as table
use Rattle.cell_table_press.specs.PressProgram as press_program
use Rattle.cell_table_press.specs.TableProgram as table_program
use Rattle.cell_table_press.specs.PressExamples.{at as press_at}
use Rattle.cell_table_press.specs.TableExamples.{at as table_at}

-- a machine has the zone, and no plate is on its way there; if it has the zone, a plate is on its way there
abbrev pub has_empty : Machine → ZoneState → Bool
has_empty m v = is_owned_by v.owner m && not v.flag

abbrev pub lends : Machine → ZoneState → Bool
lends m v = not (is_owned_by v.owner m) || v.flag

abbrev pub stands : ZoneState → Posture → Bool
stands v posture = same_posture v.posture posture

-- by the press's zone, and whether an unforged and a forged plate are in the press
abbrev pub press_is_at : PressStep → ZoneState → Bool → Bool → Bool
press_is_at press.ClaimFirst v unforged forged = (lends Press v && stands v Closed) && not (unforged && forged)
press_is_at press.LeaveForMiddle v unforged forged = has_empty Press v && (not unforged && not forged)
press_is_at press.MoveToMiddle v unforged forged =
    (has_empty Press v && stands v Moving)
    && (not unforged && not forged)
press_is_at press.PoseMiddle v unforged forged =
    (has_empty Press v && stands v Moving)
    && (not unforged && not forged)
press_is_at press.ReleaseInterior v unforged forged =
    (has_empty Press v && stands v OpenIn)
    && (not unforged && not forged)
press_is_at press.TakePlate v unforged forged = (lends Press v && stands v OpenIn) && (not unforged && not forged)
press_is_at press.LeaveForTop v unforged forged = has_empty Press v && (unforged && not forged)
press_is_at press.MoveToTop v unforged forged = (has_empty Press v && stands v Moving) && (unforged && not forged)
press_is_at press.PoseTop v unforged forged = (has_empty Press v && stands v Moving) && (unforged && not forged)
press_is_at press.Forge v unforged forged = (has_empty Press v && stands v Closed) && (unforged && not forged)
press_is_at press.LeaveForBottom v unforged forged = has_empty Press v && (not unforged && forged)
press_is_at press.MoveToBottom v unforged forged = (has_empty Press v && stands v Moving) && (not unforged && forged)
press_is_at press.PoseLow v unforged forged = (has_empty Press v && stands v Moving) && (not unforged && forged)
press_is_at press.GivePlate v unforged forged = (has_empty Press v && stands v OpenOut) && (not unforged && forged)
press_is_at press.ClaimBack v unforged forged = (lends Press v && stands v OpenOut) && (not unforged && not forged)

-- by the table's zone with the feed belt, by its zone with the robot, and whether a plate is on the table
abbrev pub table_is_at : TableStep → ZoneState → ZoneState → Bool → Bool
table_is_at table.ClaimEntry entry exit loaded =
    (lends TableMachine entry && stands entry Closed) && (lends TableMachine exit && stands exit Closed)
table_is_at table.ClaimExit entry exit loaded =
    has_empty TableMachine entry && (lends TableMachine exit && stands exit Closed)
table_is_at table.LeaveForLoading entry exit loaded =
    (has_empty TableMachine entry && has_empty TableMachine exit)
    && not loaded
table_is_at table.MoveToLoading entry exit loaded =
    ((has_empty TableMachine entry && stands entry Moving) && (has_empty TableMachine exit && stands exit Moving))
    && not loaded
table_is_at table.PoseLoading entry exit loaded =
    ((has_empty TableMachine entry && stands entry Moving) && (has_empty TableMachine exit && stands exit Moving))
    && not loaded
table_is_at table.ReleaseEntry entry exit loaded =
    ((has_empty TableMachine entry && stands entry OpenIn) && (has_empty TableMachine exit && stands exit Closed))
    && not loaded
table_is_at table.TakePlate entry exit loaded =
    ((lends TableMachine entry && stands entry OpenIn) && (has_empty TableMachine exit && stands exit Closed))
    && not loaded
table_is_at table.LeaveForUnloading entry exit loaded =
    (has_empty TableMachine entry && has_empty TableMachine exit)
    && loaded
table_is_at table.MoveToUnloading entry exit loaded =
    ((has_empty TableMachine entry && stands entry Moving) && (has_empty TableMachine exit && stands exit Moving))
    && loaded
table_is_at table.PoseUnloading entry exit loaded =
    ((has_empty TableMachine entry && stands entry Moving) && (has_empty TableMachine exit && stands exit Moving))
    && loaded
table_is_at table.GivePlate entry exit loaded =
    ((has_empty TableMachine entry && stands entry Closed) && (has_empty TableMachine exit && stands exit OpenOut))
    && loaded
table_is_at table.ClaimBack entry exit loaded =
    ((has_empty TableMachine entry && stands entry Closed) && (lends TableMachine exit && stands exit OpenOut))
    && not loaded

-- each notes its plates as they are
-- the steps are numbered from 0, in the order of the program
pub record NumberExamples : Type 0 where
  pub press_steps : map press_program.number_at press_program.steps ≡ range_with_len 0 15
  pub press_claims : press_program.number_at press.ClaimFirst ≡ 0
  pub press_takes : press_program.number_at press.TakePlate ≡ 5
  pub press_forges : press_program.number_at press.Forge ≡ 9
  pub press_gives : press_program.number_at press.GivePlate ≡ 13
  pub press_claims_back : press_program.number_at press.ClaimBack ≡ 14
  pub table_steps : map table_program.number_at table_program.steps ≡ range_with_len 0 12
  pub table_claims : table_program.number_at table.ClaimEntry ≡ 0
  pub table_takes : table_program.number_at table.TakePlate ≡ 6
  pub table_gives : table_program.number_at table.GivePlate ≡ 10
  pub table_claims_back : table_program.number_at table.ClaimBack ≡ 11

pub record KeepsAreMet : Type 0 where
  pub numbers : NumberExamples
  pub press : (z : ModelState) (step : PressStep) (loaded forged : Bool) (d : Direction)
      → press_program.in_step (press_at step loaded forged d) z
      ≡ (press_is_at step (zone_at z Z3) loaded forged
      && (same_flag (is_full z PressIn) loaded && same_flag (is_full z PressOut) forged))
  pub table : (z : ModelState) (step : TableStep) (loaded : Bool)
      → table_program.in_step (table_at step loaded) z
      ≡ (table_is_at step (zone_at z Z1) (zone_at z Z2) loaded && same_flag (is_full z OnTable) loaded)
