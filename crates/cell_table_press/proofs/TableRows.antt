-- The table's program meets the rows of the examples.
use Rattle.std.proofs.Common.{◌≡◌, ◌∙◌, sym, ap, rules, None, pos, Bool, true, false, refl}
use Rattle.std.specs.Int.Signed.{le_z_yes, lt_z_yes}
use Rattle.cell_types.specs.declared.answer.Refusal.{Refusal}
use Rattle.cell_sensors.specs.Scale.{Scale}
use Rattle.cell_devices.specs.declared.stops.Stop.{Stop}
use Rattle.cell_devices.specs.declared.act.TableAct.{TableAct}
use Rattle.cell_devices.proofs.lemmas.DriveLemmas.{drives_one, stops_there, goes_plus, goes_minus}
use Rattle.cell_rules.specs.ModelState.{ModelState}
use Rattle.cell_control.specs.Names.{waits_on, DriveRow, is_inquiry}
use Rattle.cell_control.proofs.lemmas.WaitLemmas.{stays_never, stays_until_free, stays_until_owner, stays_until_room}
use Rattle.cell_table_press.specs.Names.{row_of, rotation_stop, Acts, after_act}
use Rattle.cell_table_press.specs.declared.table.TableStep.{TableStep}
use Rattle.cell_table_press.specs.declared.table.TableStep.TheVariants.{MoveToLoading, MoveToUnloading, ClaimEntry}
use Rattle.cell_table_press.specs.declared.table.TableReading.{TableReading}
use Rattle.cell_table_press.specs.declared.table.TableProgress.{TableProgress}
use Rattle.cell_table_press.specs.TableProgram.{row_at}
use Rattle.cell_table_press.specs.TableExamples.{begins_with, rows_by, scale, at, act_of, TableAsks, TableDrives, TableChecks, TableRowsAreMet}

begins : (points : Scale) (s : ModelState) (loaded : Bool) → (rows_by points).start (record s { full = record s.full { table = loaded } }) ≡ begins_with loaded
begins points s false = refl
begins points s true = refl

asks : (points : Scale) (loaded : Bool) → TableAsks points loaded
asks points loaded = record {
  claims_entry = record { asks = refl; stays = stays_never; leads = refl };
  claims_exit = record { asks = refl; stays = stays_never; leads = refl };
  claims_exit_loaded = record { asks = refl; stays = stays_never; leads = refl };
  leaves_for_loading = record { asks = refl; stays = stays_never; leads = refl };
  poses_loading = record { asks = refl; stays = stays_never; leads = refl };
  releases_entry = record { asks = refl; stays = stays_never; leads = refl };
  takes = record { asks = refl; stays = stays_until_owner; leads = refl };
  leaves_for_unloading = record { asks = refl; stays = stays_never; leads = refl };
  poses_unloading = record { asks = refl; stays = stays_never; leads = refl };
  gives = record { asks = refl; stays = stays_until_room; leads = refl };
  claims_back = record { asks = refl; stays = stays_until_free; leads = refl };
}

-- a step and a reading determine the commands to the two motors
acts_one : (points : Scale) (step : TableStep) (r : TableReading) (a b : TableAct) → Acts points step r a → Acts points step r b → b ≡ a
acts_one points step r a b at_a at_b =
    let height : b.height ≡ a.height = at_b.height ∙ sym at_a.height in
    let rotation : b.rotation ≡ a.rotation = drives_one (rotation_stop step) points.tol r.turn a.rotation b.rotation at_a.rotation at_b.rotation in
    ap (λ h. act_of h b.rotation) height ∙ ap (λ m. act_of a.height m) rotation

drive_row : (loaded : Bool) (step : TableStep) (r : TableReading) (act : TableAct) (next : TableProgress) → (row_of (at step loaded)).call ≡ None → Acts scale step r act → after_act (at step loaded) act ≡ next → DriveRow (rows_by scale) (at step loaded) r act next
drive_row loaded step r act next asks_nothing acts leads = record { asks_nothing = asks_nothing; drives = acts; drives_only = λ other d. acts_one scale step r act other acts d; leads = leads }

abbrev loading : Stop
loading = record { target = pos 0; half = 20 }

abbrev unloading : Stop
unloading = record { target = pos 500; half = 20 }

drives : (loaded : Bool) → TableDrives loaded
drives loaded = record {
  to_loading = drive_row loaded MoveToLoading _ _ _ refl (record { height = refl; rotation = goes_minus loading (pos 5) (pos 16) (le_z_yes tt) (lt_z_yes tt) }) refl;
  to_loading_at_top = drive_row loaded MoveToLoading _ _ _ refl (record { height = refl; rotation = goes_minus loading (pos 5) (pos 500) (le_z_yes tt) (lt_z_yes tt) }) refl;
  to_loading_turned = drive_row loaded MoveToLoading _ _ _ refl (record { height = refl; rotation = stops_there loading (pos 5) (pos 15) (record { not_below = le_z_yes tt; not_above = le_z_yes tt }) }) refl;
  to_loading_lowered = drive_row loaded MoveToLoading _ _ _ refl (record { height = refl; rotation = goes_minus loading (pos 5) (pos 16) (le_z_yes tt) (lt_z_yes tt) }) refl;
  to_loading_there = drive_row loaded MoveToLoading _ _ _ refl (record { height = refl; rotation = stops_there loading (pos 5) (pos 15) (record { not_below = le_z_yes tt; not_above = le_z_yes tt }) }) refl;
  to_unloading = drive_row loaded MoveToUnloading _ _ _ refl (record { height = refl; rotation = goes_plus unloading (pos 5) (pos 484) (le_z_yes tt) (lt_z_yes tt) }) refl;
  to_unloading_at_bottom = drive_row loaded MoveToUnloading _ _ _ refl (record { height = refl; rotation = goes_plus unloading (pos 5) (pos 0) (le_z_yes tt) (lt_z_yes tt) }) refl;
  to_unloading_turned = drive_row loaded MoveToUnloading _ _ _ refl (record { height = refl; rotation = stops_there unloading (pos 5) (pos 485) (record { not_below = le_z_yes tt; not_above = le_z_yes tt }) }) refl;
  to_unloading_lifted = drive_row loaded MoveToUnloading _ _ _ refl (record { height = refl; rotation = goes_plus unloading (pos 5) (pos 484) (le_z_yes tt) (lt_z_yes tt) }) refl;
  to_unloading_too_far = drive_row loaded MoveToUnloading _ _ _ refl (record { height = refl; rotation = goes_minus unloading (pos 5) (pos 516) (le_z_yes tt) (lt_z_yes tt) }) refl;
  to_unloading_there_first = drive_row loaded MoveToUnloading _ _ _ refl (record { height = refl; rotation = stops_there unloading (pos 5) (pos 485) (record { not_below = le_z_yes tt; not_above = le_z_yes tt }) }) refl;
  to_unloading_there_last = drive_row loaded MoveToUnloading _ _ _ refl (record { height = refl; rotation = stops_there unloading (pos 5) (pos 515) (record { not_below = le_z_yes tt; not_above = le_z_yes tt }) }) refl;
}

checks : TableChecks
checks = record {
  clash = (search rules);
  clash_is_no_reading = λ r k. search rules;
  no_clash_at_bottom = λ k. search rules;
  no_clash_at_top = λ k. search rules;
  clash_before_raw_value = λ k. search rules;
  clash_before_high_value = λ k. search rules;
  too_low = search rules;
  too_low_is_no_reading = λ r k. search rules;
  not_too_low = λ k. search rules;
  too_high = search rules;
  too_high_is_no_reading = λ r k. search rules;
  not_too_high = λ k. search rules;
  switches_as_shown = λ s r k. k.switches;
  by_gauge = search rules;
  not_by_line = λ k. search rules;
}

-- answers that can't come
no_inquiry : (s : TableStep) (p : TableProgress) → is_inquiry (row_at s p).call ≡ true → ⊥
no_inquiry ClaimEntry p e = cc
no_inquiry _ p e = cc

never_refused : (s : TableStep) (p : TableProgress) (r : Refusal) → (row_at s p).call ≡ None → waits_on (row_at s p).waits r ≡ false
never_refused MoveToLoading p r e = refl
never_refused MoveToUnloading p r e = refl
never_refused _ p r e = cc

pub table-rows : TableRowsAreMet
table-rows = record {
  starts = λ points. record { whose = refl; by_places = λ s. begins points s s.full.table };
  asks = asks;
  drives = drives;
  checks = checks;
  no_other_answers = λ points. record { not_done = λ p e. absurd (no_inquiry p.step p e); not_shown = λ p owner flag posture e. refl; not_refused = λ p r e. never_refused p.step p r e };
  rests = λ points p. refl;
  demands = λ points p height rotation opening seen on k. let at = k on in record { holds_entry = at.0.0; holds_exit = at.0.1; entry_moves = at.1.0; exit_moves = at.1.1 };
}
