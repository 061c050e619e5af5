-- What each fault says, on the rows themselves: a fault that is found in tables is there, and none comes before it.
use Rattle.std.specs.Prelude.{◌≡◌, ◌≢◌, ◌⊎◌, ℕ, suc, ◌+◌, ◌<◌, ◌≤◌, false, length, get_or, Some, None}
use Rattle.plan_types.specs.declared.posture.Posture.{Posture}
use Rattle.plan_types.specs.declared.fault.PlanFault.{PlanFault}
use Rattle.plan_types.specs.declared.fault.PlanFault.TheVariants.{TooManyMachines, TooManyZones, TooManyPoses}
use Rattle.plan_types.specs.declared.fault.PlanFault.TheVariants.{TooManyPlaces, TooWide, NoSuchKeeper, NoSuchHost}
use Rattle.plan_types.specs.declared.fault.PlanFault.TheVariants.{NoSuchGuest, HostIsGuest, InwardAstray}
use Rattle.plan_types.specs.declared.fault.PlanFault.TheVariants.{OutwardAstray, NoSuchMachine, ForeignZone, TwoHosts}
use Rattle.plan_types.specs.declared.fault.PlanFault.TheVariants.{GuestTwice, HalfSpace}
use Rattle.plan_types.specs.declared.table.PlanZone.{PlanZone}
use Rattle.plan_types.specs.declared.table.PlanPose.{PlanPose}
use Rattle.plan_types.specs.Below.{sum_below}
use Rattle.plan_types.specs.Table.{PlanTable, no_zone, no_pose, no_place, zone_bits, host_of, guest_of, space_of}
use Rattle.plan_types.specs.Table.{posture_of}
use Rattle.plan_types.specs.Plan.{is_alike}
use Rattle.plan_types.specs.TableLaws.{GoesBetween}
use Rattle.plan_types.specs.Faults.{plan_fault}

-- the row of a zone or a pose of this number breaks a rule
abbrev pub OfZone : PlanTable → ℕ → (PlanZone → Type 0) → Type 0
OfZone t z breaks = (z < length t.zones) × breaks (get_or t.zones z no_zone)

abbrev pub OfPose : PlanTable → ℕ → (PlanPose → Type 0) → Type 0
OfPose t p breaks = (p < length t.poses) × breaks (get_or t.poses p no_pose)

-- a pose gives a zone a posture, but the zone isn't in the tables, or another machine hosts it
abbrev pub GivesForeign : PlanTable → ℕ → PlanPose → Type 0
GivesForeign t z row =
    (z < 10) × (q : Posture) × (get_or row.gives z None ≡ Some q)
    × ¬ ((z < length t.zones) × ((get_or t.zones z no_zone).host ≡ row.machine))

abbrev pub Says : PlanTable → PlanFault → Type 0
Says t TooManyMachines = 30 < t.machines
Says t TooManyZones = 10 < length t.zones
Says t TooManyPoses = 64 < length t.poses
Says t TooManyPlaces = 16 < length t.places
-- the bits of each zone, one for each place, twenty-one for the stamp and the stop
Says t (TooWide missing) =
    (0 < missing) × (sum_below (zone_bits t) (length t.zones) + length t.places + 21 ≡ 64 + missing)
Says t (NoSuchKeeper p) = (p < length t.places) × (t.machines ≤ (get_or t.places p no_place).keeper)
Says t (NoSuchHost z) = OfZone t z (λ row. t.machines ≤ row.host)
Says t (NoSuchGuest z) = OfZone t z (λ row. t.machines ≤ row.guest)
Says t (HostIsGuest z) = OfZone t z (λ row. row.host ≡ row.guest)
Says t (InwardAstray z) = OfZone t z (λ row. ¬ GoesBetween t row.guest row.host row.inward)
Says t (OutwardAstray z) = OfZone t z (λ row. ¬ GoesBetween t row.host row.guest row.outward)
Says t (NoSuchMachine p) = OfPose t p (λ row. t.machines ≤ row.machine)
Says t (ForeignZone p z) = OfPose t p (GivesForeign t z)
-- the first zone of the space has another host; an earlier zone of the space has the guest
Says t (TwoHosts z) = OfZone t z (λ row. host_of t (space_of t z) ≢ row.host)
Says t (GuestTwice z) =
    OfZone t z (λ row. (y : ℕ) × (y < z) × (space_of t y ≡ space_of t z) × (guest_of t y ≡ row.guest))
-- the pose gives the zone and the first one of its space unlike postures
Says t (HalfSpace p z) =
    OfPose t p (λ row. (z < length t.zones) × (is_alike (posture_of t p (space_of t z)) (posture_of t p z) ≡ false))

abbrev pub FaultsAreTrue : Type 0
FaultsAreTrue = (t : PlanTable) (fault : PlanFault) → plan_fault t ≡ Some fault → Says t fault

-- the order of faults: first the counts and the width, then the places, the zones and the poses, and then the spaces,
-- by their zones and by the poses
abbrev pub part_of : PlanFault → ℕ
part_of TooManyMachines = 0
part_of TooManyZones = 1
part_of TooManyPoses = 2
part_of TooManyPlaces = 3
part_of (TooWide missing) = 4
part_of (NoSuchKeeper p) = 5
part_of (NoSuchHost z) = 6
part_of (NoSuchGuest z) = 6
part_of (HostIsGuest z) = 6
part_of (InwardAstray z) = 6
part_of (OutwardAstray z) = 6
part_of (NoSuchMachine p) = 7
part_of (ForeignZone p z) = 7
part_of (TwoHosts z) = 8
part_of (GuestTwice z) = 8
part_of (HalfSpace p z) = 9

-- in a table the first row comes first
abbrev pub row_of : PlanFault → ℕ
row_of (NoSuchKeeper p) = p
row_of (NoSuchHost z) = z
row_of (NoSuchGuest z) = z
row_of (HostIsGuest z) = z
row_of (InwardAstray z) = z
row_of (OutwardAstray z) = z
row_of (NoSuchMachine p) = p
row_of (ForeignZone p z) = p
row_of (TwoHosts z) = z
row_of (GuestTwice z) = z
row_of (HalfSpace p z) = p
row_of _ = 0

-- of a zone's row the host, the guest, both, and the ways inward and outward; of a pose's row its machine, and then the
-- zones from the first on; of a zone's space its host and its guests; of the spaces of a pose the zones
abbrev pub rank_of : PlanFault → ℕ
rank_of (NoSuchGuest z) = 1
rank_of (HostIsGuest z) = 2
rank_of (InwardAstray z) = 3
rank_of (OutwardAstray z) = 4
rank_of (ForeignZone p z) = suc z
rank_of (GuestTwice z) = 1
rank_of (HalfSpace p z) = z
rank_of _ = 0

abbrev pub ComesBefore : PlanFault → PlanFault → Type 0
ComesBefore a b =
    (part_of a < part_of b)
    ⊎ (((part_of a ≡ part_of b) × (row_of a < row_of b))
    ⊎ ((part_of a ≡ part_of b) × (row_of a ≡ row_of b) × (rank_of a < rank_of b)))

-- no fault that comes before the one that is found is there
abbrev pub FirstFaultsAreTold : Type 0
FirstFaultsAreTold =
    (t : PlanTable) (fault earlier : PlanFault) → plan_fault t ≡ Some fault → ComesBefore earlier fault
    → ¬ Says t earlier
