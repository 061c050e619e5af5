-- The word of a state: each field holds a number, at its place in the layout.
use Rattle.std.specs.Prelude.{ℕ, ◌+◌, ◌*◌, ◌^◌, Bool, true, false, ◌&&◌, nat_eq, nat_lt, Option, Some, None}
use Rattle.std.specs.Prelude.{unwrap_or}
use Rattle.std.specs.Prelude.{if◌then◌else◌}
use Rattle.std.specs.Bool.{then_some}
use Rattle.plan_types.specs.declared.posture.Posture.{Posture}
use Rattle.plan_types.specs.declared.posture.Posture.TheVariants.{Closed, Moving, OpenIn, OpenOut}
use Rattle.plan_types.specs.Below.{first_below, sum_below}
use Rattle.plan_types.specs.declared.shape.Postures.{Postures}
use Rattle.plan_types.specs.declared.shape.Postures.TheVariants.{Shut, Two, All}
use Rattle.plan_types.specs.declared.shape.ZoneShape.{ZoneShape}
use Rattle.plan_types.specs.Same.{same_posture}
use Rattle.plan_types.specs.Table.{postures_of, PlanTable, zone_count, place_count, host_of, guest_of, space_of}
use Rattle.plan_types.specs.Table.{owner_bits, zone_shape}
use Rattle.plan_rules.specs.declared.state.ZoneState.{ZoneState}
use Rattle.plan_rules.specs.declared.state.State.{State}
use Rattle.plan_rules.specs.State.{zone_at, is_full, one_if}
use Rattle.plan_word.specs.declared.layout.Field.{Field}
use Rattle.plan_word.specs.declared.layout.Field.TheVariants.{Zone, Place, Stamp, Stop}
use Rattle.plan_word.specs.Layout.{counts_of, start_of}

-- a machine is this guest of a space, by the space's first zone: the guest of the zone that comes so many zones later
abbrev pub is_guest_at : PlanTable → ℕ → ℕ → ℕ → Bool
is_guest_at t f m k = nat_lt k (zone_shape t f).guests && nat_eq (guest_of t (f + k)) m

abbrev pub guest_number : PlanTable → ℕ → ℕ → ℕ
guest_number t f m = unwrap_or (first_below (λ k. then_some (is_guest_at t f m k) k) 14) 0

-- a space is free, its host's, or a guest's: 0, 1, or 2 and more, in the order of its zones
abbrev pub owner_code : PlanTable → ℕ → Option ℕ → ℕ
owner_code t f None = 0
owner_code t f (Some m) = if nat_eq m (host_of t f) then 1 else 2 + guest_number t f m

-- the first zone of a space tells its owner
abbrev pub owner_part : PlanTable → ℕ → Option ℕ → ℕ
owner_part t z owner = if nat_eq (space_of t z) z then owner_code t z owner else 0

-- how many values the owner has in the zone's field
abbrev pub owner_values : ZoneShape → ℕ
owner_values s = 2 ^ owner_bits s.guests

abbrev pub posture_code : Posture → ℕ
posture_code Closed = 0
posture_code Moving = 1
posture_code OpenIn = 2
posture_code OpenOut = 3

-- of two postures, Closed is 0 and the other one 1
abbrev pub code_of : Postures → Posture → ℕ
code_of Shut q = 0
code_of (Two other) q = if same_posture q Closed then 0 else 1
code_of All q = posture_code q

-- how many values a zone's flag has in the word
abbrev pub flag_values : Bool → ℕ
flag_values true = 2
flag_values false = 1

-- the bits of a zone, from the lowest: those of its space's owner if it is the first zone there, one for its flag if it
-- has one, and those of its posture
abbrev pub rest_in : ZoneShape → ZoneState → ℕ
rest_in s v = one_if (s.flag && v.flag) + flag_values s.flag * code_of (postures_of s) v.posture

abbrev pub code_in : ZoneShape → ℕ → ZoneState → ℕ
code_in s owner v = rest_in s v * owner_values s + owner

abbrev pub zone_code : PlanTable → ℕ → ZoneState → ℕ
zone_code t z v = code_in (zone_shape t z) (owner_part t z v.owner) v

-- the number that a field holds
abbrev pub held : PlanTable → State → Field → ℕ
held t s (Zone z) = zone_code t z (zone_at s z)
held t s (Place p) = one_if (is_full s p)
held t s Stamp = s.stamp
held t s Stop = one_if s.stopped

-- what a field adds to the word
abbrev pub part_of : PlanTable → State → Field → ℕ
part_of t s f = held t s f * 2 ^ start_of (counts_of t) f

-- the parts of the zones, and of the places, below a number
abbrev pub zone_parts : PlanTable → State → ℕ → ℕ
zone_parts t s n = sum_below (λ z. part_of t s (Zone z)) n

abbrev pub place_parts : PlanTable → State → ℕ → ℕ
place_parts t s n = sum_below (λ p. part_of t s (Place p)) n

-- the word of a state
unfoldable pub packed : PlanTable → State → ℕ
packed t s =
    zone_parts t s (zone_count t) + place_parts t s (place_count t) + part_of t s Stamp + part_of t s Stop
