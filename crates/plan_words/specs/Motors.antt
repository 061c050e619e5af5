-- A motor looks at zones and places of several words; a hazard is kept apart by one zone, or one place, on one word.
use Rattle.std.specs.Prelude.{◌↔◌, ◌⊎◌, ℕ, ◌<◌, ◌||◌, is_some, IsTrue, List, [], ◌∷◌, map}
use Rattle.plan_types.specs.Table.{PlanTable, zone_count, place_count, is_party, is_hosted, is_place_of}
use Rattle.plan_rules.specs.declared.state.State.{State}
use Rattle.plan_rules.specs.History.{IsLegal}
use Rattle.plan_rules.specs.Laws.{Throughout, Lawful}
use Rattle.plan_motors.specs.declared.motor.Motor.{Motor}
use Rattle.plan_motors.specs.Motor.{need_of, place_need, Permits}
use Rattle.plan_motors.specs.Decided.{IsApartByZone, IsApartByPlace}
use Rattle.plan_word.specs.OfPlan.{IsWithin}
use Rattle.plan_motors.specs.OfPlan.{IsMotorOf, is_needed}
use Rattle.plan_motors.specs.Poses.{NeverFrom}
use Rattle.plan_motors.specs.Laws.{MayRun}
use Rattle.plan_words.specs.Group.{Group}
use Rattle.plan_words.specs.Words.{call_out, seen_by}
use Rattle.plan_words.specs.Run.{left, Word, WordEvent, states_after, events_of, AreCallsOf, IsWhole}

-- what a motor needs of a group's zones and places: its part on that word
abbrev pub motor_in : Group → Motor → Motor
motor_in g m = record { machine = m.machine; zones = map (need_of m) g.zones; places = map (place_need m) g.places }

-- the state of the large plan after the events of all words
abbrev pub whole_after : PlanTable → (ℕ → Word) → (ℕ → State) → State → List WordEvent → State
whole_after t words states whole [] = whole
whole_after t words states whole (x ∷ h) =
    whole_after t words (states_after words states x)
    (left t (seen_by (states x.word) whole) x.event.machine (call_out (words x.word).group x.event.call)) h

-- each word's own history is legal by its own plan
abbrev pub AreLegal : ℕ → (ℕ → Word) → (ℕ → State) → List WordEvent → Type 0
AreLegal count words states h = (n : ℕ) → n < count → IsLegal (words n).table (states n) (events_of h n)

-- so on each word all laws of plans hold, of each prefix of its history
abbrev pub WordsKeepLaws : PlanTable → ℕ → (ℕ → Word) → Type 0
WordsKeepLaws t count words =
    (states : ℕ → State) (whole : State) (h : List WordEvent) → IsWhole t count words states whole
    → AreLegal count words states h → (n : ℕ) → n < count
    → Throughout (Lawful (words n).table (states n)) (events_of h n)

-- a state of the large plan permits a motor exactly if each word permits its part there
abbrev pub PermittedByWords : PlanTable → ℕ → (ℕ → Word) → Type 0
PermittedByWords t count words =
    (states : ℕ → State) (whole : State) (m : Motor) → IsWhole t count words states whole
    → (Permits t whole m ↔ ((n : ℕ) → n < count → Permits (words n).table (states n) (motor_in (words n).group m)))

-- on each word a motor's part is a motor of that word's plan
abbrev pub IsMotorByWords : ℕ → (ℕ → Word) → Motor → Type 0
IsMotorByWords count words m = (n : ℕ) → n < count → IsMotorOf (words n).table (motor_in (words n).group m)

-- a machine has read its motor's permission on each word, each at a moment of its own, and on no word has a call of its
-- own lost it since
abbrev pub MayRunByWords : ℕ → (ℕ → Word) → (ℕ → State) → List WordEvent → Motor → Type 0
MayRunByWords count words states h m =
    (n : ℕ) → n < count → MayRun (words n).table (states n) (events_of h n) (motor_in (words n).group m)

-- then the large plan's state permits the motor now, whatever others have done, in any order of the words' calls
abbrev pub PermissionsLastByWords : PlanTable → ℕ → (ℕ → Word) → Type 0
PermissionsLastByWords t count words =
    (states : ℕ → State) (whole : State) (h : List WordEvent) (m : Motor) → IsWhole t count words states whole
    → AreCallsOf count words h → IsMotorByWords count words m → MayRunByWords count words states h m
    → Permits t (whole_after t words states whole h) m

-- one zone of the plan, or one place, keeps two motors apart
abbrev pub AreKeptApart : PlanTable → Motor → Motor → Type 0
AreKeptApart t a b =
    ((z : ℕ) × (z < zone_count t) × IsApartByZone t a b z) ⊎ ((p : ℕ) × (p < place_count t) × IsApartByPlace a b p)

-- two such motors never both run, however the words' calls come
abbrev pub HazardsNeverRunByWords : PlanTable → ℕ → (ℕ → Word) → Type 0
HazardsNeverRunByWords t count words =
    (states : ℕ → State) (whole : State) (h : List WordEvent) (a b : Motor) → IsWhole t count words states whole
    → AreLegal count words states h → IsMotorByWords count words a → IsMotorByWords count words b → AreKeptApart t a b
    → MayRunByWords count words states h a → ¬ MayRunByWords count words states h b

-- on one word the parts of two motors are never both permitted, by a zone, a place, or the poses of a machine there: so
-- much is decided by one word's plan, its opening and its part of each motor
abbrev pub AreApartOnAWord : ℕ → (ℕ → Word) → (ℕ → State) → Motor → Motor → Type 0
AreApartOnAWord count words states a b =
    (n : ℕ) × (n < count)
    × NeverFrom (words n).table (states n) (motor_in (words n).group a) (motor_in (words n).group b)

-- then the two never both run
abbrev pub OneWordKeepsApart : PlanTable → ℕ → (ℕ → Word) → Type 0
OneWordKeepsApart t count words =
    (states : ℕ → State) (whole : State) (h : List WordEvent) (a b : Motor) → IsWhole t count words states whole
    → AreLegal count words states h → IsMotorByWords count words a → IsMotorByWords count words b
    → AreApartOnAWord count words states a b → MayRunByWords count words states h a
    → ¬ MayRunByWords count words states h b

-- a motor of the large plan: it needs only what no other machine can change, and some states of all words permit it
pub record IsMotorOfPlant (t : PlanTable) (count : ℕ) (words : ℕ → Word) (m : Motor) : Type 0 where
  pub machine_is_of_plan : m.machine < t.machines
  pub zone_is_shared : (z : ℕ) → IsTrue (is_needed (need_of m z)) → IsTrue (is_party t m.machine z)
  pub posture_is_kept : (z : ℕ) → IsTrue (is_some (need_of m z).posture)
      → IsTrue ((need_of m z).holds || is_hosted t z m.machine)
  pub place_is_own : (p : ℕ) → IsTrue (is_some (place_need m p)) → IsTrue (is_place_of t p m.machine)
  pub can_be : (states : ℕ → State) × (whole : State) × IsWhole t count words states whole
      × ((n : ℕ) → n < count → IsWithin (words n).table (states n)) × Permits t whole m

-- its part on each word is a motor of that word's plan
abbrev pub PartsAreMotors : PlanTable → ℕ → (ℕ → Word) → Type 0
PartsAreMotors t count words = (m : Motor) → IsMotorOfPlant t count words m → IsMotorByWords count words m
