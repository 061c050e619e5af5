-- Sound states of the words are always one state of the large plan; so each word decides its part of a hazard exactly.
use Rattle.std.specs.Prelude.{ℕ, ◌<◌}
use Rattle.plan_types.specs.Table.{PlanTable}
use Rattle.plan_rules.specs.declared.state.State.{State}
use Rattle.plan_rules.specs.Sound.{IsSound}
use Rattle.plan_motors.specs.declared.motor.Motor.{Motor}
use Rattle.plan_motors.specs.Motor.{Permits}
use Rattle.plan_words.specs.Run.{Word, IsWhole}
use Rattle.plan_words.specs.Motors.{motor_in}

abbrev pub StatesAreWhole : PlanTable → ℕ → (ℕ → Word) → Type 0
StatesAreWhole t count words =
    (states : ℕ → State) → ((n : ℕ) → n < count → IsSound (words n).table (states n))
    → (whole : State) × IsWhole t count words states whole

-- where each word has a sound state that permits its parts of both motors, a state of the large plan permits both
abbrev pub HazardsAreDecided : PlanTable → ℕ → (ℕ → Word) → Type 0
HazardsAreDecided t count words =
    (states : ℕ → State) (a b : Motor) → ((n : ℕ) → n < count → IsSound (words n).table (states n))
    → ((n : ℕ) → n < count → Permits (words n).table (states n) (motor_in (words n).group a))
    → ((n : ℕ) → n < count → Permits (words n).table (states n) (motor_in (words n).group b))
    → (whole : State) × IsWhole t count words states whole × Permits t whole a × Permits t whole b
