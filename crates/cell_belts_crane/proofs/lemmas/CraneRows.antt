-- The crane's program meets the rows of the examples.
use Rattle.std.proofs.Common.{◌≡◌, ◌∙◌, sym, ap, rules, Some, None, Bool, true, false, Option, refl}
use Rattle.cell_rules.specs.Types.{Machine, Crane, Posture, Refusal}
use Rattle.cell_sensors.specs.Scale.{Scale}
use Rattle.cell_devices.specs.declared.act.CraneAct.{CraneAct}
use Rattle.cell_devices.proofs.lemmas.DriveLemmas.{drives_one, stops_there, goes_plus, goes_minus}
use Rattle.cell_rules.specs.ModelState.{ModelState}
use Rattle.cell_control.specs.Names.{waits_on, DriveRow, is_inquiry}
use Rattle.cell_control.proofs.lemmas.WaitLemmas.{stays_never, stays_until_free_and_open}
use Rattle.cell_belts_crane.specs.Names.{row_at, row_of, gripper_stop, Acts, after_done, step_after_inquiry}
use Rattle.cell_belts_crane.specs.declared.crane.CraneStep.{CraneStep}
use Rattle.cell_belts_crane.specs.declared.crane.CraneStep.TheVariants.{RaiseToFetch, AwaitPlate}
use Rattle.cell_belts_crane.specs.declared.crane.CraneReading.{CraneReading}
use Rattle.cell_belts_crane.specs.declared.crane.CraneProgress.{CraneProgress}
use Rattle.cell_belts_crane.specs.CraneProgram.{after_act}
use Rattle.cell_belts_crane.specs.CraneExamples.{begins_with, rows_by, scale, at, act_of, awaits, CraneRowsAreMet}

begins : (points : Scale) (s : ModelState) (loaded : Bool) → (rows_by points).start (record s { full = record s.full { crane = loaded } }) ≡ begins_with loaded
begins points s false = refl
begins points s true = refl

leads_awaiting : (points : Scale) (magnet : Bool) (owner : Option Machine) (flag : Bool) (posture : Posture) → (rows_by points).after_inquiry (at AwaitPlate magnet) owner flag posture ≡ awaits magnet owner flag posture
leads_awaiting points magnet (Some Crane) true posture = refl
leads_awaiting points magnet _ _ posture = refl

-- a step and a reading determine the commands to motors and magnet
pub acts_one : (points : Scale) (p : CraneProgress) (r : CraneReading) (a b : CraneAct) → Acts points p r a → Acts points p r b → b ≡ a
acts_one points p r a b at_a at_b =
    let travel : b.travel ≡ a.travel = at_b.travel ∙ sym at_a.travel in
    let height : b.height ≡ a.height = drives_one (gripper_stop p.step) points.tol r.gripper a.height b.height at_a.height at_b.height in
    let magnet : b.magnet ≡ a.magnet = at_b.magnet ∙ sym at_a.magnet in
    ap (λ t. act_of t b.height b.magnet) travel ∙ ap (λ h. act_of a.travel h b.magnet) height ∙ ap (λ m. act_of a.travel a.height m) magnet

drive_row : (step : CraneStep) (magnet : Bool) (r : CraneReading) (act : CraneAct) (next : CraneProgress) → (row_of (at step magnet)).call ≡ None → Acts scale (at step magnet) r act → after_act (at step magnet) r act ≡ next → DriveRow (rows_by scale) (at step magnet) r act next
drive_row step magnet r act next asks_nothing acts leads = record { asks_nothing = asks_nothing; drives = acts; drives_only = λ other d. acts_one scale (at step magnet) r act other acts d; leads = leads }

-- answers that can't come
not_done : (s : CraneStep) (magnet : Bool) → is_inquiry (row_of (at s magnet)).call ≡ true → after_done (at s magnet) ≡ at s magnet
not_done AwaitPlate magnet e = refl
not_done _ magnet e = cc

not_shown : (s : CraneStep) (magnet : Bool) (owner : Option Machine) (flag : Bool) → is_inquiry (row_of (at s magnet)).call ≡ false → at (step_after_inquiry s owner flag) magnet ≡ at s magnet
not_shown AwaitPlate magnet owner flag e = cc
not_shown _ magnet owner flag e = refl

never_refused : (s : CraneStep) (p : CraneProgress) (r : Refusal) → (row_at s p).call ≡ None → waits_on (row_at s p).waits r ≡ false
never_refused RaiseToFetch p r e = refl
never_refused _ p r e = first_of (assumption, cc)

pub crane_rows : CraneRowsAreMet
crane_rows = record {
  starts = λ points. record { whose = refl; by_places = λ s. begins points s s.full.crane };
  asks = λ points magnet. assumption (stays_never, stays_until_free_and_open, leads_awaiting points magnet);
  gripper = λ magnet. search (drive_row, goes_plus, goes_minus, stops_there, rules);
  travel = λ magnet height. search (drive_row, rules);
  magnet = λ magnet reading. search (drive_row, rules);
  checks = search rules;
  no_other_answers = λ points. record { not_done = λ p e. not_done p.step p.magnet e; not_shown = λ p owner flag posture e. not_shown p.step p.magnet owner flag e; not_refused = λ p r e. never_refused p.step p r e };
  rests = λ points step magnet. refl;
  demands = λ points magnet on travel height opening seen is_on. record { lower_to_plate = λ k. k is_on; raise_with_plate = λ k. k is_on; lower_to_feed = λ k. k is_on; raise_from_feed = λ k. k is_on };
}
