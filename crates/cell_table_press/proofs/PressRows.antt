-- The press's program meets the rows of the examples.
use Rattle.std.proofs.Common.{◌≡◌, Bool, true, false, refl, None}
use Rattle.cell_types.specs.declared.answer.Refusal.{Refusal}
use Rattle.cell_devices.specs.declared.motor.Direction.{Direction}
use Rattle.cell_rules.specs.ModelState.{ModelState}
use Rattle.cell_control.specs.Names.{waits_on, is_inquiry}
use Rattle.cell_control.proofs.lemmas.WaitLemmas.{stays_never, stays_until_free, stays_until_owner, stays_until_room}
use Rattle.cell_table_press.specs.Names.{row_at, press_steps}
use Rattle.cell_table_press.specs.declared.press.PressStep.{PressStep}
use Rattle.cell_table_press.specs.declared.press.PressStep.TheVariants.{ClaimFirst, MoveToMiddle, MoveToTop, MoveToBottom}
use Rattle.cell_table_press.specs.declared.press.PressProgress.{PressProgress}
use Rattle.cell_table_press.specs.PressExamples.{begins_with, PressAsks, PressDrives, PressChecks, PressRowsAreMet}

begins : (s : ModelState) (loaded forged : Bool) → press_steps.start (record s { full = record s.full { press_in = loaded; press_out = forged } }) ≡ begins_with loaded forged
begins s false false = refl
begins s true false = refl
begins s false true = refl
begins s true true = refl

asks : (loaded forged : Bool) (d : Direction) → PressAsks loaded forged d
asks loaded forged d = record {
  claims = record { asks = refl; stays = stays_never; leads = refl };
  claims_loaded = record { asks = refl; stays = stays_never; leads = refl };
  claims_forged = record { asks = refl; stays = stays_never; leads = refl };
  leaves_for_middle = record { asks = refl; stays = stays_never; leads = refl };
  poses_middle = record { asks = refl; stays = stays_never; leads = refl };
  releases = record { asks = refl; stays = stays_never; leads = refl };
  takes = record { asks = refl; stays = stays_until_owner; leads = refl };
  leaves_for_top = record { asks = refl; stays = stays_never; leads = refl };
  poses_top = record { asks = refl; stays = stays_never; leads = refl };
  forges = record { asks = refl; stays = stays_never; leads = refl };
  leaves_for_bottom = record { asks = refl; stays = stays_never; leads = refl };
  poses_low = record { asks = refl; stays = stays_never; leads = refl };
  gives = record { asks = refl; stays = stays_until_room; leads = refl };
  claims_back = record { asks = refl; stays = stays_until_free; leads = refl };
}

drives : (loaded forged : Bool) (d : Direction) → PressDrives loaded forged d
drives loaded forged d = record {
  to_middle_at_bottom = record { asks_nothing = refl; drives = refl; drives_only = λ other e. e; leads = refl };
  to_middle_at_top = record { asks_nothing = refl; drives = refl; drives_only = λ other e. e; leads = refl };
  to_middle_on_its_way_up = record { asks_nothing = refl; drives = refl; drives_only = λ other e. e; leads = refl };
  to_middle_on_its_way_down = record { asks_nothing = refl; drives = refl; drives_only = λ other e. e; leads = refl };
  to_middle_there = record { asks_nothing = refl; drives = refl; drives_only = λ other e. e; leads = refl };
  to_top_at_bottom = record { asks_nothing = refl; drives = refl; drives_only = λ other e. e; leads = refl };
  to_top_at_middle = record { asks_nothing = refl; drives = refl; drives_only = λ other e. e; leads = refl };
  to_top_on_its_way = record { asks_nothing = refl; drives = refl; drives_only = λ other e. e; leads = refl };
  to_top_there = record { asks_nothing = refl; drives = refl; drives_only = λ other e. e; leads = refl };
  to_bottom_at_top = record { asks_nothing = refl; drives = refl; drives_only = λ other e. e; leads = refl };
  to_bottom_at_middle = record { asks_nothing = refl; drives = refl; drives_only = λ other e. e; leads = refl };
  to_bottom_on_its_way = record { asks_nothing = refl; drives = refl; drives_only = λ other e. e; leads = refl };
  to_bottom_there = record { asks_nothing = refl; drives = refl; drives_only = λ other e. e; leads = refl };
}

checks : PressChecks
checks = record {
  bottom = record { says = refl; says_only = λ other k. k };
  middle = record { says = refl; says_only = λ other k. k };
  top = record { says = refl; says_only = λ other k. k };
  none = record { says = refl; says_only = λ other k. k };
  bottom_and_middle = record { says = refl; says_only = λ other k. k };
  bottom_and_top = record { says = refl; says_only = λ other k. k };
  middle_and_top = record { says = refl; says_only = λ other k. k };
  all_three = record { says = refl; says_only = λ other k. k };
}

-- answers that can't come
no_inquiry : (s : PressStep) (p : PressProgress) → is_inquiry (row_at s p).call ≡ true → ⊥
no_inquiry ClaimFirst p e = cc
no_inquiry _ p e = cc

never_refused : (s : PressStep) (p : PressProgress) (r : Refusal) → (row_at s p).call ≡ None → waits_on (row_at s p).waits r ≡ false
never_refused MoveToMiddle p r e = refl
never_refused MoveToTop p r e = refl
never_refused MoveToBottom p r e = refl
never_refused _ p r e = cc

pub press-rows : PressRowsAreMet
press-rows = record {
  starts = record { whose = refl; by_places = λ s. begins s s.full.press_in s.full.press_out };
  asks = asks;
  drives = drives;
  checks = checks;
  no_other_answers = record { not_done = λ p e. absurd (no_inquiry p.step p e); not_shown = λ p owner flag posture e. refl; not_refused = λ p r e. never_refused p.step p r e };
  rests = λ p. refl;
  demands = λ p motor opening seen on k. k on;
}
