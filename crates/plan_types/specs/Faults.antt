-- The faults of tables that are no plan, in their order.
use Rattle.std.specs.Prelude.{◌≡◌, ◌↔◌, ℕ, ◌-◌, Bool, ◌&&◌, not, nat_eq, nat_lt, nat_le, Option, None, is_some}
use Rattle.std.specs.Option.{option_or}
use Rattle.std.specs.Bool.{then_some}
use Rattle.plan_types.specs.declared.fault.PlanFault.{PlanFault}
use Rattle.plan_types.specs.declared.fault.PlanFault.TheVariants.{TooManyMachines, TooManyZones, TooManyPoses}
use Rattle.plan_types.specs.declared.fault.PlanFault.TheVariants.{TooManyPlaces, TooWide, NoSuchKeeper, NoSuchHost}
use Rattle.plan_types.specs.declared.fault.PlanFault.TheVariants.{NoSuchGuest, HostIsGuest, InwardAstray}
use Rattle.plan_types.specs.declared.fault.PlanFault.TheVariants.{OutwardAstray, NoSuchMachine, ForeignZone, TwoHosts}
use Rattle.plan_types.specs.declared.fault.PlanFault.TheVariants.{GuestTwice, HalfSpace}
use Rattle.plan_types.specs.Below.{first_below, any_below}
use Rattle.plan_types.specs.Table.{PlanTable, zone_count, pose_count, place_count, word_width, zone_row, keeper_of}
use Rattle.plan_types.specs.Table.{host_of, guest_of, machine_of, posture_of, is_hosted, space_of, same_space}
use Rattle.plan_types.specs.Plan.{leads, is_alike, IsPlan}

infixl 5 ◌or◌
abbrev pub ◌or◌ : Option PlanFault → Option PlanFault → Option PlanFault
a or b = option_or a b

abbrev pub unless : Bool → PlanFault → Option PlanFault
unless holds fault = then_some (not holds) fault

abbrev pub count_fault : PlanTable → Option PlanFault
count_fault t =
    unless (nat_le t.machines 30) TooManyMachines
    or unless (nat_le (zone_count t) 10) TooManyZones
    or unless (nat_le (pose_count t) 64) TooManyPoses
    or unless (nat_le (place_count t) 16) TooManyPlaces

-- how many bits more than 64 the word has, if it has more
abbrev pub width_fault : PlanTable → Option PlanFault
width_fault t = then_some (not (nat_le (word_width t) 64)) (TooWide (word_width t - 64))

abbrev pub keeper_fault : PlanTable → ℕ → Option PlanFault
keeper_fault t p = unless (nat_lt (keeper_of t p) t.machines) (NoSuchKeeper p)

abbrev pub zone_fault : PlanTable → ℕ → Option PlanFault
zone_fault t z =
    unless (nat_lt (host_of t z) t.machines) (NoSuchHost z)
    or unless (nat_lt (guest_of t z) t.machines) (NoSuchGuest z)
    or unless (not (nat_eq (host_of t z) (guest_of t z))) (HostIsGuest z)
    or unless (leads t (guest_of t z) (host_of t z) (zone_row t z).inward) (InwardAstray z)
    or unless (leads t (host_of t z) (guest_of t z) (zone_row t z).outward) (OutwardAstray z)

-- a pose gives a posture to a zone that its machine doesn't host
abbrev pub is_foreign : PlanTable → ℕ → ℕ → Bool
is_foreign t p z = is_some (posture_of t p z) && not (is_hosted t z (machine_of t p))

abbrev pub foreign_fault : PlanTable → ℕ → ℕ → Option PlanFault
foreign_fault t p z = then_some (is_foreign t p z) (ForeignZone p z)

abbrev pub pose_fault : PlanTable → ℕ → Option PlanFault
pose_fault t p =
    unless (nat_lt (machine_of t p) t.machines) (NoSuchMachine p) or first_below (foreign_fault t p) 10

-- another zone of a zone's space has the same guest
abbrev pub has_guest_of : PlanTable → ℕ → ℕ → Bool
has_guest_of t z y = same_space t y z && nat_eq (guest_of t y) (guest_of t z)

abbrev pub space_fault : PlanTable → ℕ → Option PlanFault
space_fault t z =
    unless (nat_eq (host_of t (space_of t z)) (host_of t z)) (TwoHosts z)
    or unless (not (any_below (has_guest_of t z) z)) (GuestTwice z)

-- a pose moves a part of a space, or gives a posture to a part of it
abbrev pub half_fault : PlanTable → ℕ → ℕ → Option PlanFault
half_fault t p z = unless (is_alike (posture_of t p (space_of t z)) (posture_of t p z)) (HalfSpace p z)

abbrev pub halves_fault : PlanTable → ℕ → Option PlanFault
halves_fault t p = first_below (half_fault t p) (zone_count t)

-- the first fault
abbrev pub plan_fault : PlanTable → Option PlanFault
plan_fault t =
    count_fault t
    or width_fault t
    or first_below (keeper_fault t) (place_count t)
    or first_below (zone_fault t) (zone_count t)
    or first_below (pose_fault t) (pose_count t)
    or first_below (space_fault t) (zone_count t)
    or first_below (halves_fault t) (pose_count t)

-- tables are a plan exactly if they have no fault
abbrev pub PlansHaveNoFault : Type 0
PlansHaveNoFault = (t : PlanTable) → IsPlan t ↔ (plan_fault t ≡ None)
