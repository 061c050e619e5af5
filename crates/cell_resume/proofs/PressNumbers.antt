-- The number of a step of the press leads back to the step, with its notes.
use Rattle.cell_resume.proofs.Names.{◌≡◌, Bool, true, Some, refl, ap, ◌∙◌, ℕ, ◌+◌, ◌*◌, ◌<◌, ◌/◌, nat_eq, if◌then◌else◌, arith, option_map, slice_get, Press, PressIn, PressOut, ModelState, is_full, same_flag, and_left, and_right, PressStep, PressProgress, one_flag}
use Rattle.std.proofs.lemmas.Nat.{div-mul-add, mod-mul-add}
use Rattle.cell_control.specs.Keeping.{are_kept}
use Rattle.cell_devices.specs.declared.motor.Direction.{Direction}
use Rattle.cell_devices.specs.declared.motor.Direction.TheVariants.{Plus as Upward, Minus as Downward}
use Rattle.cell_table_press.specs.PressProgram.{number_at, keeps_at, zones_at, are_there, in_step, steps}
use Rattle.cell_table_press.proofs.lemmas.StepNumbers.{press_found}
use Rattle.cell_resume.specs.PressKeeps.{bit_of, direction_of, progress_at}

abbrev noted : PressStep → Bool → Bool → Direction → PressProgress
noted step loaded forged direction = record { step = step; loaded = loaded; forged = forged; direction = direction }

bit_small : (d : Direction) → bit_of d < 2
bit_small Upward = omega arith
bit_small Downward = omega arith

bit_tells : (d : Direction) → (if nat_eq (bit_of d) 1 then Upward else Downward) ≡ d
bit_tells Upward = refl
bit_tells Downward = refl

pub direction_back : (n : ℕ) (d : Direction) → direction_of (n * 2 + bit_of d) ≡ d
direction_back n d = ap (λ x. if nat_eq x 1 then Upward else Downward) (mod-mul-add n 2 (bit_of d) (bit_small d)) ∙ bit_tells d

pub step_back : (step : PressStep) (d : Direction) → slice_get steps ((number_at step * 2 + bit_of d) / 2) ≡ Some step
step_back step d = ap (slice_get steps) (div-mul-add (number_at step) 2 (bit_of d) (bit_small d)) ∙ press_found step

pub leads_back : (p : PressProgress) (z : ModelState) → in_step p z ≡ true → progress_at (number_at p.step * 2 + bit_of p.direction) z ≡ Some p
leads_back p z e =
    let notes = and_right (are_there (keeps_at p.step).plates p.loaded p.forged) _ (and_right (are_kept (zones_at p.step) Press z) _ e) in
    let n = number_at p.step * 2 + bit_of p.direction in
    ap (λ k. option_map (λ s. noted s (is_full z PressIn) (is_full z PressOut) (direction_of n)) (slice_get steps k)) (div-mul-add (number_at p.step) 2 (bit_of p.direction) (bit_small p.direction))
    ∙ ap (option_map (λ s. noted s (is_full z PressIn) (is_full z PressOut) (direction_of n))) (press_found p.step)
    ∙ ap (λ b. Some (noted p.step b (is_full z PressOut) (direction_of n))) (one_flag _ _ (and_left _ _ notes))
    ∙ ap (λ b. Some (noted p.step p.loaded b (direction_of n))) (one_flag _ _ (and_right (same_flag (is_full z PressIn) p.loaded) _ notes))
    ∙ ap (λ d. Some (noted p.step p.loaded p.forged d)) (direction_back (number_at p.step) p.direction)
