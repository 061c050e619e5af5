-- What loads of all words of a plant say about motors. A motor has a part on each word: what it needs there.
use Rattle.std.specs.Prelude.{◌≡◌, ◌↔◌, ◌+◌, ℕ, ◌<◌, List, ◌++◌, length, slice_index_or}
use Rattle.plan_types.specs.declared.answer.Event.{Event}
use Rattle.plan_rules.specs.History.{after}
use Rattle.plan_motors.specs.declared.motor.Motor.{Motor}
use Rattle.plan_motors.specs.declared.mask.MotorMask.{MotorMask}
use Rattle.plan_motors.specs.Motor.{Permits}
use Rattle.plan_motors.specs.Mask.{IsMaskOf, mask_at}
use Rattle.plan_motors.specs.OfPlan.{IsMotorOf}
use Rattle.plan_motors.specs.Laws.{KeepsPermission}
use Rattle.word_interlock.specs.Seen.{HasSeenMore}
use Rattle.plan_interlock.specs.Book.{plan_book, plan_of}
use Rattle.plan_interlock.specs.Motors.{HasBit}
use Rattle.plan_interlock.specs.Plant.{WordView, RightView, PlantPassView}

-- one load of a word, for no call
pub record HasLooked (i : WordView) (v w : RightView) : Type 0 where
  pub more : HasSeenMore (plan_book (plan_of i.rules)) v w
  pub moments : w.moments ≡ v.moments
  pub one_load : w.loads ≡ v.loads + 1
  pub no_exchange : w.exchanges ≡ v.exchanges

-- a word permits a part, after all that a right has seen there
abbrev pub PermitsPart : WordView → RightView → Motor → Type 0
PermitsPart i w part = Permits (plan_of i.rules) (after (plan_of i.rules) w.opening w.seen) part

-- and permits it after whatever events follow, until a call of the motor's machine loses the permission
abbrev pub PermitsPartLong : WordView → RightView → Motor → Type 0
PermitsPartLong i w part =
    IsMotorOf (plan_of i.rules) part → (since : List Event)
    → KeepsPermission (plan_of i.rules) (after (plan_of i.rules) w.opening w.seen) since part
    → Permits (plan_of i.rules) (after (plan_of i.rules) w.opening (w.seen ++ since)) part

-- this holds of each word, of a pass's right there, and of a motor's part there
abbrev pub OnEachWord : List WordView → PlantPassView → (ℕ → Motor) → (WordView → RightView → Motor → Type 0) → Type 0
OnEachWord words pass parts holds =
    (n : ℕ) (i : WordView) (w : RightView) → n < length words
    → holds (slice_index_or words n i) (slice_index_or pass.rights n w) (parts n)

-- on each word the mask with this number is that of a motor's part there
abbrev pub AreMasksOf : List WordView → List (List MotorMask) → ℕ → (ℕ → Motor) → Type 0
AreMasksOf words masks k parts =
    (n : ℕ) (i : WordView) (several : List MotorMask) → n < length words
    → (k < length (slice_index_or masks n several))
    × IsMaskOf (plan_of (slice_index_or words n i).rules) (parts n) (mask_at (slice_index_or masks n several) k)

-- what one load of a word told of the motors with these masks there: bit k of the one with the k-th mask
pub record IsFound (masks : List MotorMask) (bits : ℕ) (i : WordView) (v w : RightView) : Type 0 where
  pub looked : HasLooked i v w
  pub permitted : (k : ℕ) (part : Motor) → k < length masks → IsMaskOf (plan_of i.rules) part (mask_at masks k)
      → (HasBit bits k ↔ PermitsPart i w part)
  pub lasts : (k : ℕ) (part : Motor) → k < length masks → IsMaskOf (plan_of i.rules) part (mask_at masks k)
      → HasBit bits k → PermitsPartLong i w part
  pub no_other : (k : ℕ) → HasBit bits k → k < length masks
