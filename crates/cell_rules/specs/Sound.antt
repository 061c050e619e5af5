-- The rules of a sound state. Each, except the stamp's range, is a test of one zone, some with the places.
use Rattle.std.specs.Prelude.{◌≤◌, Bool, false, true, ◌||◌, ◌&&◌, not, Option, Some, None, is_none, IsTrue}
use Rattle.std.specs.Option.{option_eq}
use Rattle.std.specs.List.{list_any}
use Rattle.cell_rules.specs.Types.{Machine, Zone, Z3, PressIn, PressOut, Transfer, Posture, Closed, Moving, OpenIn}
use Rattle.cell_rules.specs.Types.{OpenOut, Pose, all_poses, host_of, guest_of, transfer_of, posture_of, same_machine}
use Rattle.cell_rules.specs.Types.{same_posture}
use Rattle.cell_rules.specs.declared.zones.ZoneState.{ZoneState}
use Rattle.cell_rules.specs.PlaceSet.{PlaceSet, has}
use Rattle.cell_rules.specs.ModelState.{ModelState, zone_at, last_stamp}

abbrev pub implies : Bool → Bool → Bool
implies a b = not a || b

abbrev pub is_open : Posture → Bool
is_open Closed = false
is_open Moving = false
is_open OpenIn = true
is_open OpenOut = true

abbrev pub is_owned_by : Option Machine → Machine → Bool
is_owned_by o m = option_eq same_machine o (Some m)

-- the parties of a zone are its host and its guest
abbrev pub is_party : Machine → Zone → Bool
is_party m z = same_machine m (host_of z) || same_machine m (guest_of z)

-- an owner is a party
abbrev pub has_lawful_owner : Zone → ZoneState → Bool
has_lawful_owner z v = is_none v.owner || is_owned_by v.owner (host_of z) || is_owned_by v.owner (guest_of z)

-- the receiver of a row owns the zone
abbrev pub is_received_by : Option Machine → Option Transfer → Bool
is_received_by o None = false
is_received_by o (Some row) = is_owned_by o row.receiver

-- the receiving place of a row is full
abbrev pub is_onto_full : PlaceSet → Option Transfer → Bool
is_onto_full full None = false
is_onto_full full (Some row) = has full row.to

-- a plate in a zone is on its way: the posture gives the way, the receiver owns the zone, and the place where it goes
-- is empty
abbrev pub is_lawful_plate : Bool → Zone → ZoneState → Bool
is_lawful_plate onto_full z v = implies v.flag (is_received_by v.owner (transfer_of z v.posture) && not onto_full)

abbrev pub has_lawful_plate : PlaceSet → Zone → ZoneState → Bool
has_lawful_plate full z v = is_lawful_plate (is_onto_full full (transfer_of z v.posture)) z v

-- a zone that its guest owns is open
abbrev pub is_open_to_guest : Zone → ZoneState → Bool
is_open_to_guest z v = implies (is_owned_by v.owner (guest_of z)) (is_open v.posture)

-- a zone that moves belongs to its host
abbrev pub moves_by_host : Zone → ZoneState → Bool
moves_by_host z v = implies (same_posture v.posture Moving) (is_owned_by v.owner (host_of z))

-- the posture of a zone is Closed, or one that a pose of its host gives it
abbrev pub is_given_by : Zone → Posture → Pose → Bool
is_given_by z q p = option_eq same_posture (posture_of (host_of z) p z) (Some q)

abbrev pub is_of_some_pose : Zone → Posture → Bool
is_of_some_pose z q = same_posture q Closed || list_any (is_given_by z q) all_poses

-- at most one press place is full, and not the forged one while the press opens inward
abbrev pub has_one_plate : PlaceSet → ZoneState → Bool
has_one_plate full v =
    not (has full PressIn && has full PressOut)
    && implies (same_posture v.posture OpenIn) (not (has full PressOut))

pub record IsSound (s : ModelState) : Type 0 where
  pub stamp_in_range : s.stamp ≤ last_stamp
  pub owner_is_party : (z : Zone) → IsTrue (has_lawful_owner z (zone_at s z))
  pub flag_has_transfer : (z : Zone) → IsTrue (has_lawful_plate s.full z (zone_at s z))
  pub guest_only_while_open : (z : Zone) → IsTrue (is_open_to_guest z (zone_at s z))
  pub moving_belongs_to_host : (z : Zone) → IsTrue (moves_by_host z (zone_at s z))
  pub posture_of_some_pose : (z : Zone) → IsTrue (is_of_some_pose z (zone_at s z).posture)
  pub press_holds_one_plate : IsTrue (has_one_plate s.full (zone_at s Z3))
