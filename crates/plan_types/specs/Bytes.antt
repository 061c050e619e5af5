-- The bytes of a plan's tables: how many machines, zones, poses and places there are, and then a row for each zone,
-- each pose and each place.
use Rattle.std.specs.Prelude.{◌≡◌, ℕ, ◌+◌, ◌*◌, ◌<◌, List, [], ◌∷◌, ◌++◌, map, flat_map, All, length, Option, Some}
use Rattle.std.specs.Prelude.{None}
use mir.Val.{bool_byte}
use Rattle.plan_types.specs.declared.posture.Posture.{Posture}
use Rattle.plan_types.specs.declared.posture.Posture.TheVariants.{Closed, Moving, OpenIn, OpenOut}
use Rattle.plan_types.specs.declared.table.Way.{Way}
use Rattle.plan_types.specs.declared.table.PlanZone.{PlanZone}
use Rattle.plan_types.specs.declared.table.PlanPose.{PlanPose}
use Rattle.plan_types.specs.declared.table.PlanPlace.{PlanPlace}
use Rattle.plan_types.specs.Table.{PlanTable, zone_count, pose_count, place_count}
use Rattle.plan_types.specs.Plan.{IsPlan}

-- a way is 1, from, to; no way is 0, 0, 0
abbrev pub way_byte : Option Way → ℕ
way_byte None = 0
way_byte (Some way) = 1

abbrev pub from_byte : Option Way → ℕ
from_byte None = 0
from_byte (Some way) = way.from

abbrev pub to_byte : Option Way → ℕ
to_byte None = 0
to_byte (Some way) = way.to

-- a zone: its host, its guest, the way inward, with 2 more at its first byte if the zone joins the one before it, and
-- the way outward
abbrev pub zone_bytes : PlanZone → List ℕ
zone_bytes z =
    z.host ∷ z.guest
    ∷ (way_byte z.inward + 2 * bool_byte z.joins) ∷ from_byte z.inward ∷ to_byte z.inward
    ∷ way_byte z.outward ∷ from_byte z.outward ∷ to_byte z.outward ∷ []

-- the posture that a pose gives a zone; 0 if it gives none
abbrev pub posture_byte : Option Posture → ℕ
posture_byte None = 0
posture_byte (Some Closed) = 1
posture_byte (Some Moving) = 2
posture_byte (Some OpenIn) = 3
posture_byte (Some OpenOut) = 4

-- a pose: its machine, 1 if it may be taken only after moving, and what it gives each of ten zones
abbrev pub pose_bytes : PlanPose → List ℕ
pose_bytes p = p.machine ∷ bool_byte p.after_moving ∷ map posture_byte p.gives

-- a place: the machine that keeps it, and 64 more if it is a source, 128 more if it is a sink; a plan's machines are
-- below 64
abbrev pub place_byte : PlanPlace → ℕ
place_byte p = p.keeper + 64 * bool_byte p.source + 128 * bool_byte p.sink

abbrev pub bytes_of : PlanTable → List ℕ
bytes_of t =
    t.machines ∷ zone_count t ∷ pose_count t ∷ place_count t
    ∷ flat_map zone_bytes t.zones ++ flat_map pose_bytes t.poses ++ map place_byte t.places

-- a pose's row is for ten zones
abbrev pub IsForTenZones : PlanPose → Type 0
IsForTenZones p = length p.gives ≡ 10

-- tables as the program has them: each pose has a row for ten zones
abbrev pub HasWholeRows : PlanTable → Type 0
HasWholeRows t = All IsForTenZones t.poses

-- a place's keeper has its own bits in its byte
abbrev pub IsNarrow : PlanPlace → Type 0
IsNarrow p = p.keeper < 64

abbrev pub HasNarrowPlaces : PlanTable → Type 0
HasNarrowPlaces t = All IsNarrow t.places

-- the bytes are those of a plan
pub record IsPlanOf (bytes : List ℕ) (t : PlanTable) : Type 0 where
  pub bytes_are : bytes_of t ≡ bytes
  pub rows : HasWholeRows t
  pub plan : IsPlan t

abbrev pub NoPlan : List ℕ → Type 0
NoPlan bytes = (t : PlanTable) → ¬ IsPlanOf bytes t
