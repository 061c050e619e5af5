-- Literal examples of simulated sensors and motors: of a hoist that runs up until sensor 0 shows, and down until
-- sensor 1 does, and then waits for sensor 5.
use Rattle.std.specs.Prelude.{◌≡◌, ℕ, List, [], ◌∷◌, map}
use Rattle.plan_controller.specs.declared.step.Step.{Step}
use Rattle.plan_controller.specs.declared.step.Step.TheVariants.{Await, Run}
use Rattle.plan_app.specs.Simulated.{Simulation, after_driving, after_reading, new_simulation, shown_by}

-- bit 0: up; bit 3: down
abbrev pub hoist : List Step
hoist = Run 1 0 ∷ Await 0 ∷ Run 8 1 ∷ Run 0 5 ∷ []

abbrev pub hoist_at : ℕ → ℕ → ℕ → Simulation
hoist_at motors turns waits = record { steps = hoist; motors = motors; turns = turns; waits = waits }

abbrev pub new_hoist : Simulation
new_hoist = new_simulation hoist

-- what the sensors show in turns in which these motors are given: each after the sensors were read
abbrev pub shown_in : Simulation → List ℕ → List ℕ
shown_in d [] = []
shown_in d (motors ∷ more) = shown_by d ∷ shown_in (after_driving (after_reading d) motors) more

pub record SimulationsAreMet : Type 0 where
  -- sensor 5, which no run brings, in every fourth turn; and so all that no step names
  pub idle : map shown_by (hoist_at 0 0 0 ∷ hoist_at 0 0 1 ∷ hoist_at 0 0 2 ∷ hoist_at 0 0 3 ∷ [])
      ≡ 0 ∷ 0 ∷ 0 ∷ 4294967292 ∷ []
  pub fourth : shown_in new_hoist (0 ∷ 0 ∷ 0 ∷ 0 ∷ 0 ∷ 0 ∷ 0 ∷ 0 ∷ [])
      ≡ 0 ∷ 0 ∷ 0 ∷ 4294967292 ∷ 0 ∷ 0 ∷ 0 ∷ 4294967292 ∷ []
  -- up for three turns; then it stays up while all are off, until it goes down
  pub up : map (λ turns. shown_by (hoist_at 1 turns 0)) (0 ∷ 1 ∷ 2 ∷ 3 ∷ []) ≡ 0 ∷ 0 ∷ 0 ∷ 1 ∷ []
  pub down : map (λ turns. shown_by (hoist_at 8 turns 0)) (0 ∷ 1 ∷ 2 ∷ 3 ∷ []) ≡ 0 ∷ 0 ∷ 0 ∷ 2 ∷ []
  pub both : shown_by (hoist_at 9 3 0) ≡ 0
  pub stays : shown_in new_hoist (1 ∷ 1 ∷ 1 ∷ 0 ∷ 0 ∷ 8 ∷ 8 ∷ 8 ∷ 0 ∷ 0 ∷ [])
      ≡ 0 ∷ 0 ∷ 0 ∷ 4294967293 ∷ 1 ∷ 1 ∷ 0 ∷ 4294967292 ∷ 2 ∷ 2 ∷ []
  -- two turns, a pause, and one turn more
  pub paused : shown_in new_hoist (1 ∷ 1 ∷ 0 ∷ 1 ∷ 1 ∷ 1 ∷ 1 ∷ []) ≡ 0 ∷ 0 ∷ 0 ∷ 4294967292 ∷ 0 ∷ 0 ∷ 1 ∷ []
  pub other_motor : after_driving (hoist_at 1 3 2) 8 ≡ hoist_at 8 1 2
  pub same_motor : after_driving (hoist_at 1 3 2) 1 ≡ hoist_at 1 3 2
  pub off : after_driving (hoist_at 1 2 2) 0 ≡ hoist_at 1 0 2
  pub off_there : after_driving (hoist_at 1 3 2) 0 ≡ hoist_at 1 3 2
