-- What press and table keep at each step is what the examples say.
use Rattle.std.proofs.Common.{◌≡◌, Bool, true, false, ◌&&◌, not, refl}
use Rattle.cell_types.specs.declared.machine.Machine.TheVariants.{Table as TableMachine}
use Rattle.cell_types.specs.declared.place.Place.TheVariants.{Table as OnTable}
use Rattle.cell_rules.specs.Types.{Press, Z1, Z2, Z3, PressIn, PressOut, Closed, OpenIn, OpenOut, Moving}
use Rattle.cell_rules.specs.Names.{ModelState, is_full, same_flag, zone_at}
use Rattle.cell_devices.specs.declared.motor.Direction.{Direction}
use Rattle.cell_table_press.specs.declared.press.PressStep.{PressStep}
use Rattle.cell_table_press.specs.declared.press.PressStep.TheVariants as press
use Rattle.cell_table_press.specs.declared.table.TableStep.{TableStep}
use Rattle.cell_table_press.specs.declared.table.TableStep.TheVariants as table
use Rattle.cell_table_press.specs.PressProgram as press_program
use Rattle.cell_table_press.specs.TableProgram as table_program
use Rattle.cell_table_press.specs.PressExamples.{at as press_at}
use Rattle.cell_table_press.specs.TableExamples.{at as table_at}
use Rattle.cell_table_press.specs.KeepExamples.{has_empty, lends, stands, press_is_at, table_is_at, KeepsAreMet}

-- one zone, in a posture or in any; `p` is of the plates, `n` of the notes
posed : (a p n : Bool) → ((a && true) && (p && n)) ≡ ((a && p) && n)
posed true p n = refl
posed false p n = refl

unposed : (a p n : Bool) → (((a && true) && true) && (p && n)) ≡ ((a && p) && n)
unposed true p n = refl
unposed false p n = refl

-- two zones
pp : (a b p n : Bool) → ((a && (b && true)) && (p && n)) ≡ (((a && b) && p) && n)
pp true b p n = posed b p n
pp false b p n = refl

uu : (a b p n : Bool) → (((a && true) && ((b && true) && true)) && (p && n)) ≡ (((a && b) && p) && n)
uu true b p n = unposed b p n
uu false b p n = refl

-- two zones, and any plates
pp0 : (a b n : Bool) → ((a && (b && true)) && n) ≡ ((a && b) && n)
pp0 true true n = refl
pp0 true false n = refl
pp0 false b n = refl

up0 : (a b n : Bool) → (((a && true) && (b && true)) && n) ≡ ((a && b) && n)
up0 true b n = pp0 true b n
up0 false b n = refl

abbrev noted : ModelState → Bool → Bool → Bool
noted z loaded forged = same_flag (is_full z PressIn) loaded && same_flag (is_full z PressOut) forged

press_keeps : (z : ModelState) (step : PressStep) (loaded forged : Bool) (d : Direction)
    → press_program.in_step (press_at step loaded forged d) z ≡ (press_is_at step (zone_at z Z3) loaded forged && noted z loaded forged)
press_keeps z press.ClaimFirst loaded forged d = posed ((lends Press (zone_at z Z3) && stands (zone_at z Z3) Closed)) (not (loaded && forged)) (noted z loaded forged)
press_keeps z press.LeaveForMiddle loaded forged d = unposed (has_empty Press (zone_at z Z3)) ((not loaded && not forged)) (noted z loaded forged)
press_keeps z press.MoveToMiddle loaded forged d = posed ((has_empty Press (zone_at z Z3) && stands (zone_at z Z3) Moving)) ((not loaded && not forged)) (noted z loaded forged)
press_keeps z press.PoseMiddle loaded forged d = posed ((has_empty Press (zone_at z Z3) && stands (zone_at z Z3) Moving)) ((not loaded && not forged)) (noted z loaded forged)
press_keeps z press.ReleaseInterior loaded forged d = posed ((has_empty Press (zone_at z Z3) && stands (zone_at z Z3) OpenIn)) ((not loaded && not forged)) (noted z loaded forged)
press_keeps z press.TakePlate loaded forged d = posed ((lends Press (zone_at z Z3) && stands (zone_at z Z3) OpenIn)) ((not loaded && not forged)) (noted z loaded forged)
press_keeps z press.LeaveForTop loaded forged d = unposed (has_empty Press (zone_at z Z3)) ((loaded && not forged)) (noted z loaded forged)
press_keeps z press.MoveToTop loaded forged d = posed ((has_empty Press (zone_at z Z3) && stands (zone_at z Z3) Moving)) ((loaded && not forged)) (noted z loaded forged)
press_keeps z press.PoseTop loaded forged d = posed ((has_empty Press (zone_at z Z3) && stands (zone_at z Z3) Moving)) ((loaded && not forged)) (noted z loaded forged)
press_keeps z press.Forge loaded forged d = posed ((has_empty Press (zone_at z Z3) && stands (zone_at z Z3) Closed)) ((loaded && not forged)) (noted z loaded forged)
press_keeps z press.LeaveForBottom loaded forged d = unposed (has_empty Press (zone_at z Z3)) ((not loaded && forged)) (noted z loaded forged)
press_keeps z press.MoveToBottom loaded forged d = posed ((has_empty Press (zone_at z Z3) && stands (zone_at z Z3) Moving)) ((not loaded && forged)) (noted z loaded forged)
press_keeps z press.PoseLow loaded forged d = posed ((has_empty Press (zone_at z Z3) && stands (zone_at z Z3) Moving)) ((not loaded && forged)) (noted z loaded forged)
press_keeps z press.GivePlate loaded forged d = posed ((has_empty Press (zone_at z Z3) && stands (zone_at z Z3) OpenOut)) ((not loaded && forged)) (noted z loaded forged)
press_keeps z press.ClaimBack loaded forged d = posed ((lends Press (zone_at z Z3) && stands (zone_at z Z3) OpenOut)) ((not loaded && not forged)) (noted z loaded forged)

table_keeps : (z : ModelState) (step : TableStep) (loaded : Bool)
    → table_program.in_step (table_at step loaded) z ≡ (table_is_at step (zone_at z Z1) (zone_at z Z2) loaded && same_flag (is_full z OnTable) loaded)
table_keeps z table.ClaimEntry loaded = pp0 ((lends TableMachine (zone_at z Z1) && stands (zone_at z Z1) Closed)) ((lends TableMachine (zone_at z Z2) && stands (zone_at z Z2) Closed)) (same_flag (is_full z OnTable) loaded)
table_keeps z table.ClaimExit loaded = up0 (has_empty TableMachine (zone_at z Z1)) ((lends TableMachine (zone_at z Z2) && stands (zone_at z Z2) Closed)) (same_flag (is_full z OnTable) loaded)
table_keeps z table.LeaveForLoading loaded = uu (has_empty TableMachine (zone_at z Z1)) (has_empty TableMachine (zone_at z Z2)) (not loaded) (same_flag (is_full z OnTable) loaded)
table_keeps z table.MoveToLoading loaded = pp ((has_empty TableMachine (zone_at z Z1) && stands (zone_at z Z1) Moving)) ((has_empty TableMachine (zone_at z Z2) && stands (zone_at z Z2) Moving)) (not loaded) (same_flag (is_full z OnTable) loaded)
table_keeps z table.PoseLoading loaded = pp ((has_empty TableMachine (zone_at z Z1) && stands (zone_at z Z1) Moving)) ((has_empty TableMachine (zone_at z Z2) && stands (zone_at z Z2) Moving)) (not loaded) (same_flag (is_full z OnTable) loaded)
table_keeps z table.ReleaseEntry loaded = pp ((has_empty TableMachine (zone_at z Z1) && stands (zone_at z Z1) OpenIn)) ((has_empty TableMachine (zone_at z Z2) && stands (zone_at z Z2) Closed)) (not loaded) (same_flag (is_full z OnTable) loaded)
table_keeps z table.TakePlate loaded = pp ((lends TableMachine (zone_at z Z1) && stands (zone_at z Z1) OpenIn)) ((has_empty TableMachine (zone_at z Z2) && stands (zone_at z Z2) Closed)) (not loaded) (same_flag (is_full z OnTable) loaded)
table_keeps z table.LeaveForUnloading loaded = uu (has_empty TableMachine (zone_at z Z1)) (has_empty TableMachine (zone_at z Z2)) (loaded) (same_flag (is_full z OnTable) loaded)
table_keeps z table.MoveToUnloading loaded = pp ((has_empty TableMachine (zone_at z Z1) && stands (zone_at z Z1) Moving)) ((has_empty TableMachine (zone_at z Z2) && stands (zone_at z Z2) Moving)) (loaded) (same_flag (is_full z OnTable) loaded)
table_keeps z table.PoseUnloading loaded = pp ((has_empty TableMachine (zone_at z Z1) && stands (zone_at z Z1) Moving)) ((has_empty TableMachine (zone_at z Z2) && stands (zone_at z Z2) Moving)) (loaded) (same_flag (is_full z OnTable) loaded)
table_keeps z table.GivePlate loaded = pp ((has_empty TableMachine (zone_at z Z1) && stands (zone_at z Z1) Closed)) ((has_empty TableMachine (zone_at z Z2) && stands (zone_at z Z2) OpenOut)) (loaded) (same_flag (is_full z OnTable) loaded)
table_keeps z table.ClaimBack loaded = pp ((has_empty TableMachine (zone_at z Z1) && stands (zone_at z Z1) Closed)) ((lends TableMachine (zone_at z Z2) && stands (zone_at z Z2) OpenOut)) (not loaded) (same_flag (is_full z OnTable) loaded)

pub keeps_are_met : KeepsAreMet
keeps_are_met = record {
  numbers = record {
    press_steps = refl;
    press_claims = refl;
    press_takes = refl;
    press_forges = refl;
    press_gives = refl;
    press_claims_back = refl;
    table_steps = refl;
    table_claims = refl;
    table_takes = refl;
    table_gives = refl;
    table_claims_back = refl;
  };
  press = press_keeps;
  table = table_keeps;
}
