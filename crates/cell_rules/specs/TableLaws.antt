-- Laws of the tables that the interlock uses: the poses that move, and the digits of a start.
use Rattle.std.specs.Prelude.{◌≡◌, Bool, true, false, [], ◌∷◌, Some, IsTrue}
use Rattle.cell_rules.specs.Types.{Machine, Zone, FeedEntry, FeedEnd, Arm1, PressIn, PressOut, Arm2, DepEntry, DepEnd}
use Rattle.cell_rules.specs.Types.{Moving, Pose, Turning, Travelling, Running, posture_of}
use Rattle.cell_types.specs.declared.place.Place.TheVariants.{Table}
use Rattle.cell_types.specs.declared.place.Place.TheVariants.{Crane}
use Rattle.cell_rules.specs.PlaceSet.{PlaceSet, has}
use Rattle.cell_rules.specs.Refusals.{is_moving_pose}
use Rattle.cell_rules.specs.Start.{places_of}

abbrev pub moves : Pose → Bool
moves Turning = true
moves Travelling = true
moves Running = true
moves _ = false

-- the poses that move are turning, travelling and running: exactly those that give some zone Moving
pub record PosesThatMove : Type 0 where
  pub named : (p : Pose) → is_moving_pose p ≡ moves p
  pub some_zone : (p : Pose) → IsTrue (is_moving_pose p) → (m : Machine) × (z : Zone) × (posture_of m p z ≡ Some Moving)
  pub no_other : (m : Machine) (p : Pose) (z : Zone) → posture_of m p z ≡ Some Moving → IsTrue (is_moving_pose p)

-- a set has exactly the places whose digits are set
pub record HasDigits (full : PlaceSet) (a b c d e f g h i j : Bool) : Type 0 where
  pub feed_entry : has full FeedEntry ≡ a
  pub feed_end : has full FeedEnd ≡ b
  pub table : has full Table ≡ c
  pub arm1 : has full Arm1 ≡ d
  pub press_in : has full PressIn ≡ e
  pub press_out : has full PressOut ≡ f
  pub arm2 : has full Arm2 ≡ g
  pub dep_entry : has full DepEntry ≡ h
  pub dep_end : has full DepEnd ≡ i
  pub crane : has full Crane ≡ j

abbrev pub DigitsArePlaces : Type 0
DigitsArePlaces =
    (a b c d e f g h i j : Bool)
    → HasDigits (places_of (a ∷ b ∷ c ∷ d ∷ e ∷ f ∷ g ∷ h ∷ i ∷ j ∷ [])) a b c d e f g h i j
