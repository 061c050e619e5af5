-- What a machine knows after a done call, by words: a call tells the same on its own word, and nothing on another.
use Rattle.std.specs.Prelude.{◌≡◌, ◌↔◌, ℕ, ◌<◌, length, ⊤}
use Rattle.plan_types.specs.declared.call.Call.{Call}
use Rattle.plan_types.specs.declared.call.Call.TheVariants.{SetPose}
use Rattle.plan_types.specs.Table.{PlanTable, machine_of}
use Rattle.plan_motors.specs.declared.motor.Motor.{Motor}
use Rattle.plan_motors.specs.Motor.{need_of, place_need}
use Rattle.plan_drives.specs.Facts.{zone_facts, place_facts}
use Rattle.plan_words.specs.Group.{Group, zone_out, pose_out, place_out}
use Rattle.plan_words.specs.Words.{call_out, IsCallOf}
use Rattle.plan_drives.specs.Program.{Backs}
use Rattle.plan_words.specs.Run.{Word}
use Rattle.plan_words.specs.Motors.{motor_in}

-- what is known on a word is the part of what is known in the large plan
pub record IsKnownIn (g : Group) (known : Motor) (whole : Motor) : Type 0 where
  pub machine : whole.machine ≡ known.machine
  pub zone : (i : ℕ) → i < length g.zones → need_of whole (zone_out g i) ≡ need_of known i
  pub place : (j : ℕ) → j < length g.places → place_need whole (place_out g j) ≡ place_need known j

-- after a call of the word
pub record TellsAlike (t : PlanTable) (g : Group) (u : PlanTable) (known whole : Motor) (c : Call) : Type 0 where
  pub zone : (i : ℕ) → i < length g.zones
      → zone_facts t whole (call_out g c) (zone_out g i) ≡ zone_facts u known c i
  pub place : (j : ℕ) → j < length g.places
      → place_facts t whole (call_out g c) (place_out g j) ≡ place_facts u known c j

abbrev pub CallsTellAlike : PlanTable → ℕ → (ℕ → Word) → Type 0
CallsTellAlike t count words =
    (n : ℕ) (known whole : Motor) (c : Call) → n < count → IsKnownIn (words n).group known whole
    → IsCallOf (words n).group c → TellsAlike t (words n).group (words n).table known whole c

-- a pose is the machine's own
abbrev pub IsOwn : PlanTable → Group → ℕ → Call → Type 0
IsOwn t g m (SetPose k) = machine_of t (pose_out g k) ≡ m
IsOwn t g m _ = ⊤

-- a call of one word tells nothing of another's zones and places
pub record TellsNothing (t : PlanTable) (g h : Group) (whole : Motor) (c : Call) : Type 0 where
  pub zone : (i : ℕ) → i < length h.zones
      → zone_facts t whole (call_out g c) (zone_out h i) ≡ need_of whole (zone_out h i)
  pub place : (j : ℕ) → j < length h.places
      → place_facts t whole (call_out g c) (place_out h j) ≡ place_need whole (place_out h j)

abbrev pub OthersAreToldNothing : PlanTable → ℕ → (ℕ → Word) → Type 0
OthersAreToldNothing t count words =
    (n k : ℕ) (whole : Motor) (c : Call) → n < count → k < count → ¬ (k ≡ n) → IsCallOf (words n).group c
    → IsOwn t (words n).group whole.machine c → TellsNothing t (words n).group (words k).group whole c

-- what a motor needs follows from what is known, exactly if on each word its part follows from what is known there
abbrev pub BackedByWords : PlanTable → ℕ → (ℕ → Word) → Type 0
BackedByWords t count words =
    (known : ℕ → Motor) (whole motor : Motor) → ((n : ℕ) → n < count → IsKnownIn (words n).group (known n) whole)
    → motor.machine ≡ whole.machine
    → (Backs t whole motor ↔ ((n : ℕ) → n < count → Backs (words n).table (known n) (motor_in (words n).group motor)))
