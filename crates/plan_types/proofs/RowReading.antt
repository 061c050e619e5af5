-- Rows read by their number, and the first of a pose's postures that is Moving.
use Rattle.std.proofs.Common.{◌≡◌, ℕ, zero, suc, true, List, [], ◌∷◌, ◌++◌, length, get_or, Option, Some, None, refl}
use Rattle.std.specs.List.{list_any}
use Rattle.plan_types.specs.declared.posture.Posture.{Posture}
use Rattle.plan_types.specs.declared.posture.Posture.TheVariants.{Closed, Moving, OpenIn, OpenOut}
use Rattle.plan_types.specs.Table.{is_moving}

-- the element after some others
pub element_after : {A : Type 0} (before after : List A) (x d : A) → get_or (before ++ x ∷ after) (length before) d ≡ x
element_after [] after x d = refl
element_after (b ∷ before) after x d = element_after before after x d

-- a posture at the same number, after one that isn't Moving
next_zone : (g : Option Posture) (gives : List (Option Posture)) → ((z : ℕ) × (get_or gives z None ≡ Some Moving))
    → (z : ℕ) × (get_or (g ∷ gives) z None ≡ Some Moving)
next_zone g gives found = (suc found.0, found.1)

pub moving_zone : (gives : List (Option Posture)) → list_any is_moving gives ≡ true
    → (z : ℕ) × (get_or gives z None ≡ Some Moving)
moving_zone [] e = cc
moving_zone (Some Moving ∷ gives) e = (0, refl)
moving_zone (Some Closed ∷ gives) e = next_zone (Some Closed) gives (moving_zone gives e)
moving_zone (Some OpenIn ∷ gives) e = next_zone (Some OpenIn) gives (moving_zone gives e)
moving_zone (Some OpenOut ∷ gives) e = next_zone (Some OpenOut) gives (moving_zone gives e)
moving_zone (None ∷ gives) e = next_zone None gives (moving_zone gives e)

pub moves_by_zone : (gives : List (Option Posture)) (z : ℕ) → get_or gives z None ≡ Some Moving
    → list_any is_moving gives ≡ true
moves_by_zone [] z e = cc
moves_by_zone (g ∷ gives) zero e = rw e refl
moves_by_zone (Some Moving ∷ gives) (suc z) e = refl
moves_by_zone (Some Closed ∷ gives) (suc z) e = moves_by_zone gives z e
moves_by_zone (Some OpenIn ∷ gives) (suc z) e = moves_by_zone gives z e
moves_by_zone (Some OpenOut ∷ gives) (suc z) e = moves_by_zone gives z e
moves_by_zone (None ∷ gives) (suc z) e = moves_by_zone gives z e
