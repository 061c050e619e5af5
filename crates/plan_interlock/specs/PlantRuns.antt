-- Machines run motors by what one load of each word told them, on the words that `plan_words` lays out.
use Rattle.std.specs.Prelude.{◌≡◌, ◌⊎◌, ℕ, ◌<◌, List, ◌++◌, length, slice_index_or}
use Rattle.plan_types.specs.declared.answer.Event.{Event}
use Rattle.plan_types.specs.Table.{PlanTable}
use Rattle.plan_rules.specs.declared.state.State.{State}
use Rattle.plan_rules.specs.History.{after}
use Rattle.plan_motors.specs.declared.motor.Motor.{Motor}
use Rattle.plan_motors.specs.Laws.{KeepsPermission}
use Rattle.plan_words.specs.Run.{Word, WordEvent, IsLaidOut, IsWhole, events_of}
use Rattle.plan_words.specs.Motors.{motor_in, AreLegal, AreKeptApart, AreApartOnAWord, IsMotorByWords, MayRunByWords}
use Rattle.plan_interlock.specs.Book.{plan_of}
use Rattle.plan_interlock.specs.Plant.{WordView, RightView, PlantPassView}
use Rattle.plan_interlock.specs.PlantMotors.{OnEachWord, PermitsPart}

-- the words of an interlock have the plans of these words, and a pass's rights there begin with these states
pub record IsOfWords (words : ℕ → Word) (states : ℕ → State) (interlock : List WordView) (pass : PlantPassView)
    : Type 0 where
  pub plan : (n : ℕ) (i : WordView) → n < length interlock
      → plan_of (slice_index_or interlock n i).rules ≡ (words n).table
  pub opening : (n : ℕ) (w : RightView) → n < length interlock → (slice_index_or pass.rights n w).opening ≡ states n

-- what a motor needs on each word
abbrev pub parts_of : (ℕ → Word) → Motor → ℕ → Motor
parts_of words m n = motor_in (words n).group m

-- a word's history goes on from what a right has seen there, and no call of a part's machine has lost its permission
pub record KeepsPart (i : WordView) (w : RightView) (part : Motor) (h : List Event) : Type 0 where
  pub since : List Event
  pub is : h ≡ w.seen ++ since
  pub kept : KeepsPermission (plan_of i.rules) (after (plan_of i.rules) w.opening w.seen) since part

-- one load of each word told a pass that a motor may run: each word permitted its part then. By the history of all
-- words, no call of the motor's machine has lost that since
pub record GoesByLoads (words : ℕ → Word) (states : ℕ → State) (interlock : List WordView) (h : List WordEvent)
    (pass : PlantPassView) (m : Motor) : Type 0 where
  pub own : IsOfWords words states interlock pass
  pub told : OnEachWord interlock pass (parts_of words m) PermitsPart
  pub kept : (n : ℕ) (i : WordView) (w : RightView) → n < length interlock
      → KeepsPart (slice_index_or interlock n i) (slice_index_or pass.rights n w) (parts_of words m n) (events_of h n)

-- one zone or place keeps two motors apart, or one word's plan does
abbrev pub AreApart : PlanTable → ℕ → (ℕ → Word) → (ℕ → State) → Motor → Motor → Type 0
AreApart t count words states a b = AreKeptApart t a b ⊎ AreApartOnAWord count words states a b

pub record LoadsKeepApart : Type 0 where
  -- such loads are readings of a permission, each at a moment of its own
  pub read : (words : ℕ → Word) (states : ℕ → State) (interlock : List WordView) (h : List WordEvent)
      (pass : PlantPassView) (m : Motor) → GoesByLoads words states interlock h pass m
      → MayRunByWords (length interlock) words states h m
  -- two motors that are kept apart never both run by them, whoever's passes they are
  pub apart : (t : PlanTable) (words : ℕ → Word) (states : ℕ → State) (whole : State) (interlock : List WordView)
      (h : List WordEvent) (one other : PlantPassView) (a b : Motor) → IsLaidOut t (length interlock) words
      → IsWhole t (length interlock) words states whole → AreLegal (length interlock) words states h
      → IsMotorByWords (length interlock) words a → IsMotorByWords (length interlock) words b
      → AreApart t (length interlock) words states a b → GoesByLoads words states interlock h one a
      → ¬ GoesByLoads words states interlock h other b
