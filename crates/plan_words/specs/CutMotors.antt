-- What a motor needs of a place that is cut: that it is full it reads at an exit, that it is empty at an entry.
use Rattle.std.specs.Prelude.{◌≡◌, ℕ, ◌<◌, true, false, Some}
use Rattle.plan_types.specs.Table.{place_count}
use Rattle.plan_rules.specs.declared.state.State.{State}
use Rattle.plan_motors.specs.declared.motor.Motor.{Motor}
use Rattle.plan_motors.specs.Motor.{need_of, place_need, Permits}
use Rattle.plan_words.specs.Cut.{Cut, is_cut, IsExit, IsEntry, StandsFor}

-- a motor of the cut plan reads for one of the plan
pub record IsReadFor (c : Cut) (read motor : Motor) : Type 0 where
  pub machine : read.machine ≡ motor.machine
  pub zone : (z : ℕ) → need_of read z ≡ need_of motor z
  pub uncut : (p : ℕ) → p < place_count c.plan → is_cut c p ≡ false → place_need read p ≡ place_need motor p
  pub full : (p : ℕ) → p < place_count c.plan → is_cut c p ≡ true → place_need motor p ≡ Some true
      → (q : ℕ) × IsExit c q p × (place_need read q ≡ Some true)
  pub empty : (p : ℕ) → p < place_count c.plan → is_cut c p ≡ true → place_need motor p ≡ Some false
      → (e : ℕ) × IsEntry c e p × (place_need read e ≡ Some false)

-- what the cut plan permits so, the plan does
abbrev pub PermittedByCut : Cut → Type 0
PermittedByCut c =
    (there whole : State) (read motor : Motor) → StandsFor c there whole → IsReadFor c read motor
    → Permits c.cut there read → Permits c.plan whole motor
