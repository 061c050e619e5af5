-- Programs that may go on at a step where they stood.
use Rattle.std.specs.Prelude.{◌≡◌, Bool, true, if◌then◌else◌, List, None}
use Rattle.cell_types.specs.declared.answer.Event.{Event}
use Rattle.cell_rules.specs.Names.{ModelState, IsSound, after, IsLegal}
use Rattle.cell_control.specs.Steps.{Steps}
use Rattle.cell_control.proofs.lemmas.StepLemmas.{Knowing}

-- the same program, but it begins at the step where it stood, if that is in step with the state; else at its start
abbrev pub resumed_steps : {S Sense Reading Act : Type 0}
    → Steps S Sense Reading Act → (S → ModelState → Bool) → S → Steps S Sense Reading Act
resumed_steps t in_step stood = record t { start = λ s. if in_step stood s then stood else t.start s }

-- A step that is in step with a state knows there what it needs, as the first step does. Turns keep what steps know,
-- whatever others do. So what the motors demand holds at each step that drives.
pub record IsResumable {S Sense Reading Act : Type 0}
    (t : Steps S Sense Reading Act) (in_step : S → ModelState → Bool) (Knows : S → ModelState → Type 0) : Type 0 where
  pub begins : (s : ModelState) → Knows (t.start s) s
  pub enters : (p : S) (s : ModelState) → in_step p s ≡ true → Knows p s
  pub knowing : Knowing t Knows
  pub demands : (p : S) (reading : Reading) (act : Act) (opening : ModelState) (seen : List Event)
      → (t.row p).call ≡ None → t.drives p reading act → IsSound opening → IsLegal opening seen
      → Knows p (after opening seen) → t.motor_demands p act opening seen
