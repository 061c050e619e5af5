-- Whether two postures are the same, as the program's `==` decides it.
use Rattle.std.specs.Prelude.{◌≡◌, Bool, true}
use Rattle.plan_types.specs.declared.posture.Posture.{Posture}
use Rattle.plan_types.specs.contracts.posture.PosturePartialEq.TheImpl.{ghosts as posture_ghosts}
use Rattle.plan_types.specs.contracts.posture.Posture.{the_type as posture_type}
use denote.Enum.Bare.{same_true}

abbrev pub same_posture : Posture → Posture → Bool
same_posture a b = posture_ghosts.eq a b

pub one_posture : (a b : Posture) → same_posture a b ≡ true → a ≡ b
one_posture a b e = same_true posture_type tt a b e
