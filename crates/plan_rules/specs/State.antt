-- What a state says of a zone and of a place by its number, and the plates of a state.
use Rattle.std.specs.Prelude.{ℕ, ◌+◌, Bool, false, ◌&&◌, nat_eq, get_or, replicate, List, Option, Some, None}
use mir.Val.{bool_byte}
use Rattle.plan_types.specs.declared.posture.Posture.{Posture}
use Rattle.plan_types.specs.declared.posture.Posture.TheVariants.{Closed}
use Rattle.plan_types.specs.declared.table.Transfer.{Transfer}
use Rattle.plan_types.specs.Below.{any_below, sum_below}
use Rattle.plan_types.specs.Table.{PlanTable, zone_count, place_count, transfer_of, same_space}
use Rattle.plan_rules.specs.declared.state.ZoneState.{ZoneState}
use Rattle.plan_rules.specs.declared.state.State.{State}

-- the last stamp
abbrev pub last_stamp : ℕ
last_stamp = 1048575

-- a free zone, Closed and with no plate
abbrev pub free_zone : ZoneState
free_zone = record { owner = None; flag = false; posture = Closed }

abbrev pub zone_at : State → ℕ → ZoneState
zone_at s z = get_or s.zones z free_zone

abbrev pub owner_of : State → ℕ → Option ℕ
owner_of s z = (zone_at s z).owner

abbrev pub posture_at : State → ℕ → Posture
posture_at s z = (zone_at s z).posture

abbrev pub is_full : State → ℕ → Bool
is_full s p = get_or s.full p false

abbrev pub one_if : Bool → ℕ
one_if b = bool_byte b

-- a plate is in the space of a zone
abbrev pub space_has_plate : PlanTable → State → ℕ → Bool
space_has_plate t s z = any_below (λ y. same_space t y z && (zone_at s y).flag) (zone_count t)

-- a plate is on its way through a zone to a place
abbrev pub leads_to : Option Transfer → ℕ → Bool
leads_to None p = false
leads_to (Some way) p = nat_eq way.to p

abbrev pub is_coming : PlanTable → ZoneState → ℕ → ℕ → Bool
is_coming t v p z = v.flag && leads_to (transfer_of t z v.posture) p

-- how many plates are on their way to a place
abbrev pub coming : PlanTable → State → ℕ → ℕ
coming t s p = sum_below (λ z. one_if (is_coming t (zone_at s z) p z)) (zone_count t)

-- how many plates a place has, or has coming
abbrev pub plates_for : PlanTable → State → ℕ → ℕ
plates_for t s p = one_if (is_full s p) + coming t s p

-- the plates: the full places and the set flags
abbrev pub plates_of : PlanTable → State → ℕ
plates_of t s =
    sum_below (λ p. one_if (is_full s p)) (place_count t)
    + sum_below (λ z. one_if (zone_at s z).flag) (zone_count t)

-- all zones free and Closed, with no plate in them, and not stopped
abbrev pub start_state : List Bool → ℕ → State
start_state full stamp = record { zones = replicate 10 free_zone; full = full; stamp = stamp; stopped = false }
