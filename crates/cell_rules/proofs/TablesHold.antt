-- The poses that move, and the digits of a start.
use Rattle.cell_rules.proofs.Names.{◌≡◌, Bool, true, Some, refl, ap, option_eq, Machine, Feed, Press, Table, Zone, Z1, Z3, Z6, Moving, Pose, Turning, Travelling, Running, posture_of, same_posture, implies, is_moving_pose, PosesThatMove, DigitsArePlaces, moves}
use Rattle.cell_rules.proofs.lemmas.Tables.{implied, machines, zones, poses, holds3}

named : (p : Pose) → is_moving_pose p ≡ moves p
named Turning = refl
named _ = refl

some_zone : (p : Pose) → is_moving_pose p ≡ true → (m : Machine) × (z : Zone) × (posture_of m p z ≡ Some Moving)
some_zone Turning e = (Table, Z1, refl)
some_zone Travelling e = (Press, Z3, refl)
some_zone Running e = (Feed, Z6, refl)
some_zone _ e = cc

abbrev gives_moving : Machine → Pose → Zone → Bool
gives_moving m p z = option_eq same_posture (posture_of m p z) (Some Moving)

abbrev moving_test : Machine → Pose → Zone → Bool
moving_test m p z = implies (gives_moving m p z) (is_moving_pose p)

no_other : (m : Machine) (p : Pose) (z : Zone) → posture_of m p z ≡ Some Moving → is_moving_pose p ≡ true
no_other m p z e =
    implied (gives_moving m p z) (is_moving_pose p) (holds3 machines poses zones moving_test refl m p z) (ap (λ o. option_eq same_posture o (Some Moving)) e)

pub poses_that_move : PosesThatMove
poses_that_move = record { named = named; some_zone = some_zone; no_other = no_other }

pub digits_are_places : DigitsArePlaces
digits_are_places a b c d e f g h i j = assumption
