-- When a machine may go on at a line of its program in a state, as after a power cut, by the state alone.
use Rattle.std.specs.Prelude.{ℕ, ◌<◌, Bool, ◌||◌, List, length, get_or, [], is_none, is_some, IsTrue}
use Rattle.plan_types.specs.Table.{PlanTable, zone_count, place_count, is_hosted, is_place_of}
use Rattle.plan_rules.specs.declared.state.State.{State}
use Rattle.plan_motors.specs.declared.motor.Motor.{Motor}
use Rattle.plan_motors.specs.Motor.{need_of, place_need, Permits}
use Rattle.plan_drives.specs.declared.line.Line.{Line}
use Rattle.plan_drives.specs.Facts.{facts_at}

-- no other machine can change what is known: postures are of zones that the machine holds or hosts, and places are its
-- own
pub record IsOwn (t : PlanTable) (known : Motor) : Type 0 where
  pub postures : (z : ℕ) → z < zone_count t → IsTrue (is_some (need_of known z).posture)
      → IsTrue ((need_of known z).holds || is_hosted t z known.machine)
  pub places : (p : ℕ) → p < place_count t → IsTrue (is_some (place_need known p))
      → IsTrue (is_place_of t p known.machine)

-- the same of one zone and of one place, computed
abbrev pub is_own_zone : PlanTable → Motor → ℕ → Bool
is_own_zone t known z =
    is_none (need_of known z).posture || (need_of known z).holds || is_hosted t z known.machine

abbrev pub is_own_place : PlanTable → Motor → ℕ → Bool
is_own_place t known p = is_none (place_need known p) || is_place_of t p known.machine

-- what is known is so in a state, and no other machine can change it
pub record IsKnownIn (t : PlanTable) (s : State) (known : Motor) : Type 0 where
  pub is_so : Permits t s known
  pub own : IsOwn t known

-- a machine is in step with a state at a line of its program: what the lines before tell is so
pub record IsInStep (t : PlanTable) (s : State) (m : ℕ) (program : List Line) (k : ℕ) : Type 0 where
  pub line : k < length program
  pub known : IsKnownIn t s (facts_at t m program k)

-- each machine of the plan is in step with a state, at its line of its program
abbrev pub AreInStep : PlanTable → State → List (List Line) → List ℕ → Type 0
AreInStep t s programs lines = (m : ℕ) → m < t.machines → IsInStep t s m (get_or programs m []) (get_or lines m 0)

-- this machine isn't, and all before it are
pub record IsFirstOutOfStep (t : PlanTable) (s : State) (programs : List (List Line)) (lines : List ℕ) (m : ℕ)
    : Type 0 where
  pub machine : m < t.machines
  pub out : ¬ IsInStep t s m (get_or programs m []) (get_or lines m 0)
  pub before : (n : ℕ) → n < m → IsInStep t s n (get_or programs n []) (get_or lines n 0)
