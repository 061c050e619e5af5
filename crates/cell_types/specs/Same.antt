-- Whether two names are the same, as the program's `==` decides it.
use Rattle.std.specs.Prelude.{◌≡◌, Bool, true}
use Rattle.cell_types.specs.declared.machine.Machine.{Machine}
use Rattle.cell_types.specs.declared.zone.Zone.{Zone}
use Rattle.cell_types.specs.declared.place.Place.{Place}
use Rattle.cell_types.specs.declared.posture.Posture.{Posture}
use Rattle.cell_types.specs.declared.pose.Pose.{Pose}
use Rattle.cell_types.specs.contracts.machine.MachinePartialEq.TheImpl.{ghosts as machine_ghosts}
use Rattle.cell_types.specs.contracts.zone.ZonePartialEq.TheImpl.{ghosts as zone_ghosts}
use Rattle.cell_types.specs.contracts.place.PlacePartialEq.TheImpl.{ghosts as place_ghosts}
use Rattle.cell_types.specs.contracts.posture.PosturePartialEq.TheImpl.{ghosts as posture_ghosts}
use Rattle.cell_types.specs.contracts.pose.PosePartialEq.TheImpl.{ghosts as pose_ghosts}
use Rattle.cell_types.specs.contracts.machine.Machine.{the_type as machine_type}
use Rattle.cell_types.specs.contracts.posture.Posture.{the_type as posture_type}
use denote.Enum.Bare.{same_true}

abbrev pub same_machine : Machine → Machine → Bool
same_machine a b = machine_ghosts.eq a b

abbrev pub same_zone : Zone → Zone → Bool
same_zone a b = zone_ghosts.eq a b

abbrev pub same_place : Place → Place → Bool
same_place a b = place_ghosts.eq a b

abbrev pub same_posture : Posture → Posture → Bool
same_posture a b = posture_ghosts.eq a b

abbrev pub same_pose : Pose → Pose → Bool
same_pose a b = pose_ghosts.eq a b

pub one_machine : (a b : Machine) → same_machine a b ≡ true → a ≡ b
one_machine a b e = same_true machine_type tt a b e

pub one_posture : (a b : Posture) → same_posture a b ≡ true → a ≡ b
one_posture a b e = same_true posture_type tt a b e
