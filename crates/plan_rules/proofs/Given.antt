-- A pose moves exactly if it gives some zone Moving.
use Rattle.std.proofs.Common.{◌≡◌, ℕ, zero, suc, true, Option, Some, None, List, [], ◌∷◌, get_or, refl, ap}
use Rattle.std.specs.List.{list_any}
use Rattle.std.proofs.lemmas.Bool.{or_left, or_right}
use Rattle.plan_types.specs.declared.posture.Posture.{Posture}
use Rattle.plan_types.specs.declared.posture.Posture.TheVariants.{Closed, Moving, OpenIn, OpenOut}
use Rattle.plan_types.specs.Table.{PlanTable, posture_of, pose_row, is_moving, is_moving_pose}

moving_among : (gives : List (Option Posture)) (z : ℕ) → get_or gives z None ≡ Some Moving → list_any is_moving gives ≡ true
moving_among [] z e = cc
moving_among (o ∷ os) zero e = or_left (is_moving o) (list_any is_moving os) (ap is_moving e)
moving_among (o ∷ os) (suc z) e = or_right (is_moving o) (list_any is_moving os) (moving_among os z e)

pub gives_moving : (t : PlanTable) (p z : ℕ) → posture_of t p z ≡ Some Moving → is_moving_pose t p ≡ true
gives_moving t p z e = moving_among (pose_row t p).gives z e

next_zone : (g : Option Posture) (gives : List (Option Posture)) → ((z : ℕ) × (get_or gives z None ≡ Some Moving)) → (z : ℕ) × (get_or (g ∷ gives) z None ≡ Some Moving)
next_zone g gives found = (suc found.0, found.1)

given_among : (gives : List (Option Posture)) → list_any is_moving gives ≡ true → (z : ℕ) × (get_or gives z None ≡ Some Moving)
given_among [] e = cc
given_among (Some Moving ∷ gives) e = (0, refl)
given_among (Some Closed ∷ gives) e = next_zone (Some Closed) gives (given_among gives e)
given_among (Some OpenIn ∷ gives) e = next_zone (Some OpenIn) gives (given_among gives e)
given_among (Some OpenOut ∷ gives) e = next_zone (Some OpenOut) gives (given_among gives e)
given_among (None ∷ gives) e = next_zone None gives (given_among gives e)

pub moving_given : (t : PlanTable) (p : ℕ) → is_moving_pose t p ≡ true → (z : ℕ) × (posture_of t p z ≡ Some Moving)
moving_given t p e = given_among (pose_row t p).gives e
