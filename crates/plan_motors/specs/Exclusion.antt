-- Whether two motors exclude each other, computed zone by zone and place by place.
use Rattle.std.specs.Prelude.{ℕ, Bool, true, false, ◌&&◌, not, nat_lt, map, Option, Some, None}
use Rattle.std.specs.Prelude.{unwrap_or, if◌then◌else◌}
use Rattle.std.specs.Option.{option_or}
use Rattle.std.specs.Bool.{then_some}
use Rattle.std.specs.List.{range_with_len}
use Rattle.plan_types.specs.declared.posture.Posture.{Posture}
use Rattle.plan_types.specs.declared.posture.Posture.TheVariants.{Closed, Moving, OpenIn}
use Rattle.plan_types.specs.Same.{same_posture}
use Rattle.plan_types.specs.Below.{first_below, any_below}
use Rattle.plan_types.specs.Table.{PlanTable, zone_count, place_count, host_of, guest_of, is_moving, same_space}
use Rattle.plan_rules.specs.declared.state.ZoneState.{ZoneState}
use Rattle.plan_rules.specs.declared.state.State.{State}
use Rattle.plan_rules.specs.State.{free_zone}
use Rattle.plan_rules.specs.Sound.{implies, is_open, is_owned_by, is_entrant}
use Rattle.plan_motors.specs.declared.motor.Motor.{Motor}
use Rattle.plan_motors.specs.declared.exclusion.Cause.{Cause}
use Rattle.plan_motors.specs.declared.exclusion.Cause.TheVariants.{Zone, Place}
use Rattle.plan_motors.specs.Motor.{need_of, place_need, meets}

-- the owner, and the posture, that two motors need of a zone: the first one's, or else the second one's
abbrev pub owner_needed : Motor → Motor → ℕ → Option ℕ
owner_needed a b z =
    if (need_of a z).holds then Some a.machine else if (need_of b z).holds then Some b.machine else None

abbrev pub posture_needed : Motor → Motor → ℕ → Option Posture
posture_needed a b z = option_or (need_of a z).posture (need_of b z).posture

-- a space has one owner, the one that they need of its first zone of which they need one; and it moves as a whole, if
-- they need some zone of it to move
abbrev pub owner_near : PlanTable → Motor → Motor → ℕ → ℕ → Option ℕ
owner_near t a b z y = if same_space t y z then owner_needed a b y else None

abbrev pub owner_in : PlanTable → Motor → Motor → ℕ → Option ℕ
owner_in t a b z = first_below (owner_near t a b z) (zone_count t)

abbrev pub moves_near : PlanTable → Motor → Motor → ℕ → ℕ → Bool
moves_near t a b z y = same_space t y z && is_moving (posture_needed a b y)

abbrev pub moves_in : PlanTable → Motor → Motor → ℕ → Bool
moves_in t a b z = any_below (moves_near t a b z) (zone_count t)

abbrev pub motion_in : PlanTable → Motor → Motor → ℕ → Option Posture
motion_in t a b z = then_some (moves_in t a b z) Moving

-- where no owner is needed, a zone that moves is its host's, and any other is free; where no posture is, a zone is open
-- to its guest, and closed to others
abbrev pub owner_for : PlanTable → ℕ → Option ℕ → Option Posture → Option ℕ
owner_for t z owner posture = option_or owner (then_some (is_moving posture) (host_of t z))

abbrev pub posture_for : PlanTable → ℕ → Option ℕ → Option Posture → Posture
posture_for t z owner posture = unwrap_or posture (if is_owned_by owner (guest_of t z) then OpenIn else Closed)

-- what two motors need of a zone and of its space, put together
abbrev pub zone_for : PlanTable → Motor → Motor → ℕ → ZoneState
zone_for t a b z = record {
  owner = owner_for t z (owner_in t a b z) (motion_in t a b z);
  flag = false;
  posture = posture_for t z (owner_in t a b z) (option_or (motion_in t a b z) (posture_needed a b z));
}

-- the rules of a zone without a plate
abbrev pub is_lawful : PlanTable → ℕ → ZoneState → Bool
is_lawful t z v =
    is_entrant t z v.owner
    && implies (is_owned_by v.owner (guest_of t z)) (is_open v.posture)
    && implies (same_posture v.posture Moving) (is_owned_by v.owner (host_of t z))

-- a zone is as two motors need it, and keeps the rules
abbrev pub is_shared : PlanTable → Motor → Motor → ℕ → ZoneState → Bool
is_shared t a b z v =
    is_lawful t z v && meets a.machine (need_of a z) v && meets b.machine (need_of b z) v

abbrev pub zone_cause : PlanTable → Motor → Motor → ℕ → Option Cause
zone_cause t a b z = then_some (not (is_shared t a b z (zone_for t a b z))) (Zone z)

-- one motor needs a place full, the other one empty
abbrev pub are_opposite : Option Bool → Option Bool → Bool
are_opposite (Some true) (Some false) = true
are_opposite (Some false) (Some true) = true
are_opposite _ _ = false

abbrev pub place_cause : Motor → Motor → ℕ → Option Cause
place_cause a b p = then_some (are_opposite (place_need a p) (place_need b p)) (Place p)

-- the first zone, or else the first place, that can't be as both motors need it
abbrev pub cause : PlanTable → Motor → Motor → Option Cause
cause t a b = option_or (first_below (zone_cause t a b) (zone_count t)) (first_below (place_cause a b) (place_count t))

-- the state that both motors need: what neither of them needs is free, closed and empty
abbrev pub zone_in : PlanTable → Motor → Motor → ℕ → ZoneState
zone_in t a b z = if nat_lt z (zone_count t) then zone_for t a b z else free_zone

abbrev pub place_in : PlanTable → Motor → Motor → ℕ → Bool
place_in t a b p = nat_lt p (place_count t) && unwrap_or (option_or (place_need a p) (place_need b p)) false

abbrev pub state_for : PlanTable → Motor → Motor → State
state_for t a b = record {
  zones = map (zone_in t a b) (range_with_len 0 10);
  full = map (place_in t a b) (range_with_len 0 16);
  stamp = 0;
  stopped = false;
}
