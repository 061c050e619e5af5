-- The examples of safe and unsafe states, steps and runs: each is decided by computing.
use Rattle.cell_plant.proofs.Names.{◌≡◌, ℕ, true, false, [], ◌∷◌, refl, ModelState, Axis, PlantState, CellState, Step, IsSafeState, IsSafelySet, SafeRuns, SafetyExamples, quiet, danger, loaded, through, drops, OnlyCollides, OnlyPositionUnmet, OnlyMotorUnmet, StandsWithin, OnlySetIsUnsafe, OnlyStepIsUnsafe}
use Rattle.cell_plant.proofs.Deciding.{is_yes, so, not_so}
use Rattle.cell_plant.proofs.SafetyDecided.{is_safe, only_collides, only_position_unmet, only_motor_unmet, stands_within, is_safely_set, only_set_is_unsafe, only_step_is_unsafe, is_safe_run}

-- a state, an end of an axis, a step: each lemma leaves what it decides to the computing of a test
safe_by : (w : CellState) → is_yes (is_safe w) ≡ true → IsSafeState w
safe_by w e = so (is_safe w) e

unsafe_by : (w : CellState) → is_yes (is_safe w) ≡ false → ¬ IsSafeState w
unsafe_by w e = not_so (is_safe w) e

collides_by : (w : CellState) → is_yes (only_collides w) ≡ true → OnlyCollides w
collides_by w e = so (only_collides w) e

stands_by : (s : ModelState) (with_axis : Axis → PlantState) (end : ℕ) → is_yes (stands_within s with_axis end) ≡ true → StandsWithin s with_axis end
stands_by s with_axis end e = so (stands_within s with_axis end) e

position_by : (w : CellState) → is_yes (only_position_unmet w) ≡ true → OnlyPositionUnmet w
position_by w e = so (only_position_unmet w) e

motor_by : (w : CellState) → is_yes (only_motor_unmet w) ≡ true → OnlyMotorUnmet w
motor_by w e = so (only_motor_unmet w) e

set_by : (w : CellState) (s : Step) → is_yes (is_safely_set w s) ≡ true → IsSafelySet w s
set_by w s e = so (is_safely_set w s) e

once_set_by : (w : CellState) (s : Step) → is_yes (only_set_is_unsafe w s) ≡ true → OnlySetIsUnsafe w s
once_set_by w s e = so (only_set_is_unsafe w s) e

step_by : (w : CellState) (s : Step) → is_yes (only_step_is_unsafe w s) ≡ true → OnlyStepIsUnsafe w s
step_by w s e = so (only_step_is_unsafe w s) e

safe_runs : SafeRuns
safe_runs = record {
  safe = so (is_safe_run quiet (through quiet quiet ∷ through quiet quiet ∷ [])) refl;
  no_turn = not_so (is_safe_run danger []) refl;
  first = not_so (is_safe_run danger (through quiet quiet ∷ through quiet quiet ∷ [])) refl;
  first_set = not_so (is_safe_run quiet (through danger quiet ∷ through quiet quiet ∷ [])) refl;
  first_moved = not_so (is_safe_run quiet (through quiet danger ∷ through quiet quiet ∷ [])) refl;
  last_set = not_so (is_safe_run quiet (through quiet quiet ∷ through danger quiet ∷ [])) refl;
  last = not_so (is_safe_run quiet (through quiet quiet ∷ through quiet danger ∷ [])) refl;
  plate_dropped = not_so (is_safe_run loaded (drops ∷ [])) refl;
  plate_dropped_last = not_so (is_safe_run quiet (through quiet loaded ∷ drops ∷ [])) refl;
}

pub safety_examples : SafetyExamples
safety_examples = record {
  safe = search safe_by;
  colliding = search (collides_by, unsafe_by);
  ends = search stands_by;
  positions = search position_by;
  motors = search motor_by;
  steps = search (set_by, once_set_by, step_by);
  runs = safe_runs;
}
