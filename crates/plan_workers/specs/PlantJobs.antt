-- Machines of a plant that are to go to work over its interlock, each by its pass.
use Rattle.std.specs.Prelude.{◌≡◌, ◌<◌, ℕ, List, length, slice_index_or}
use Rattle.plan_interlock.specs.Book.{plan_of}
use Rattle.plan_interlock.specs.Plant.{IsOfPlant, PlantPassView, RightView, WordView}
use Rattle.plan_workers.specs.declared.plant_run.PlantJob.{PlantJob}
use Rattle.plan_workers.specs.Jobs.{IsInPlace, IsJobOf}
use Rattle.plan_workers.specs.PlantTurns.{PlantControl, control_on}

-- this holds of the interlock of each word, and of a pass's right there
abbrev pub OnEachRight : List WordView → PlantPassView → (ℕ → WordView → RightView → Type 0) → Type 0
OnEachRight words pass holds =
    (w : ℕ) (i : WordView) (v : RightView) → w < length words
    → holds w (slice_index_or words w i) (slice_index_or pass.rights w v)

-- a pass was made with this plant's interlock: it has one right on each word, by the word's plan
pub record IsPlantJobOf (words : List WordView) (pass : PlantPassView) : Type 0 where
  pub plant : IsOfPlant words pass
  pub on_words : OnEachRight words pass (λ _ i v. IsJobOf i v)

-- A controller is that of a pass's machine, and goes through a program on these words. On each word the machine is at
-- its place in the word's program by all that its right there has seen
pub record IsPlantInPlace (words : List WordView) (pass : PlantPassView) (c : PlantControl) : Type 0 where
  pub own : c.machine ≡ pass.actor
  pub each_word : c.words ≡ length words
  pub on_words : OnEachRight words pass (λ w i v. IsInPlace (plan_of i.rules) v (control_on w c))

-- a machine may go to work over this plant's interlock, by its pass, from where its controller is
pub record IsPlantReady {D : Type 0} (words : List WordView) (job : PlantJob D) : Type 0 where
  pub own : IsPlantJobOf words job.pass
  pub in_place : IsPlantInPlace words job.pass job.controller
