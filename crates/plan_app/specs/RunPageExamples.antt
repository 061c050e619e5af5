-- Literal notes on the pages of runs.
use Rattle.std.specs.Prelude.{◌≡◌, [], ◌∷◌, ◌++◌, codes, Some, None}
use Rattle.plan_types.specs.declared.answer.Refusal.TheVariants.{Held, Jump}
use Rattle.plan_text.specs.WordExamples.{floors}
use Rattle.plan_app.specs.RunExamples.{last_stopped}
use Rattle.plan_app.specs.RunPages.{run_note}

pub record RunNotes : Type 0 where
  pub none : run_note floors 2 (None ∷ None ∷ None ∷ [])
      ≡ codes "3 machines took 2 turns each, in threads of their own"
  pub last : run_note floors 1 last_stopped
      ≡ codes "3 machines took 1 turn each, in threads of their own; high was stopped by jump"
  pub two : run_note floors 12 (Some (Held 2) ∷ None ∷ Some Jump ∷ [])
      ≡ codes "3 machines took 12 turns each, in threads of their own; lift was stopped by held high"
      ++ codes "; high was stopped by jump"
