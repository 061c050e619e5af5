-- The state that the fields of a word tell, sound or not.
use Rattle.std.specs.Prelude.{ℕ, ◌+◌, ◌-◌, ◌/◌, ◌%◌, ◌^◌, Bool, ◌&&◌, nat_eq, nat_lt, List, map, Option, Some, None}
use Rattle.std.specs.Prelude.{if◌then◌else◌}
use Rattle.std.specs.List.{range_with_len}
use Rattle.plan_types.specs.declared.posture.Posture.{Posture}
use Rattle.plan_types.specs.declared.posture.Posture.TheVariants.{Closed, Moving, OpenIn, OpenOut}
use Rattle.plan_types.specs.declared.shape.Postures.{Postures}
use Rattle.plan_types.specs.declared.shape.Postures.TheVariants.{Shut, Two, All}
use Rattle.plan_types.specs.declared.shape.ZoneShape.{ZoneShape}
use Rattle.plan_types.specs.Table.{postures_of, PlanTable, zone_count, place_count, host_of, guest_of, space_of}
use Rattle.plan_types.specs.Table.{zone_shape}
use Rattle.plan_rules.specs.declared.state.ZoneState.{ZoneState}
use Rattle.plan_rules.specs.declared.state.State.{State}
use Rattle.plan_rules.specs.State.{free_zone}
use Rattle.plan_word.specs.declared.layout.Field.{Field}
use Rattle.plan_word.specs.declared.layout.Field.TheVariants.{Zone, Place, Stamp, Stop}
use Rattle.plan_word.specs.Layout.{Counts, counts_of, start_of, bits_of}
use Rattle.plan_word.specs.Packed.{flag_values, owner_values}

-- the number in a field of a word
abbrev pub told : Counts → ℕ → Field → ℕ
told c w f = w / 2 ^ start_of c f % 2 ^ bits_of c f

-- the zone of a guest of a space; a spare number tells the first guest
abbrev pub zone_of_guest : PlanTable → ℕ → ℕ → ℕ
zone_of_guest t f k = if nat_lt k (zone_shape t f).guests then f + k else f

abbrev pub owner_of_code : PlanTable → ℕ → ℕ → Option ℕ
owner_of_code t f n =
    if nat_eq n 0 then None else if nat_eq n 1 then Some (host_of t f)
    else Some (guest_of t (zone_of_guest t f (n - 2)))

abbrev pub posture_of_code : ℕ → Posture
posture_of_code n = if nat_eq n 0 then Closed else if nat_eq n 1 then Moving else if nat_eq n 2 then OpenIn else OpenOut

abbrev pub posture_told : Postures → ℕ → Posture
posture_told Shut n = Closed
posture_told (Two other) n = if nat_eq n 0 then Closed else other
posture_told All n = posture_of_code n

abbrev pub state_in : ZoneShape → Option ℕ → ℕ → ZoneState
state_in s owner n = record {
  owner = owner;
  flag = nat_eq (n % flag_values s.flag) 1;
  posture = posture_told (postures_of s) (n / flag_values s.flag);
}

-- the owner that the field of a space's first zone tells
abbrev pub owner_in : PlanTable → ℕ → ℕ → Option ℕ
owner_in t f n = owner_of_code t f (n % owner_values (zone_shape t f))

-- a zone, by the field of the first zone of its space, and by its own
abbrev pub zone_of_code : PlanTable → ℕ → ℕ → ℕ → ZoneState
zone_of_code t z first n =
    state_in (zone_shape t z) (owner_in t (space_of t z) first) (n / owner_values (zone_shape t z))

-- no field is about a zone or a place past the end of the plan's tables
abbrev pub zone_in_word : PlanTable → ℕ → ℕ → ZoneState
zone_in_word t w z =
    if nat_lt z (zone_count t)
    then zone_of_code t z (told (counts_of t) w (Zone (space_of t z))) (told (counts_of t) w (Zone z)) else free_zone

abbrev pub place_told : PlanTable → ℕ → ℕ → Bool
place_told t w p = nat_lt p (place_count t) && nat_eq (told (counts_of t) w (Place p)) 1

abbrev pub zones_in_word : PlanTable → ℕ → List ZoneState
zones_in_word t w = map (zone_in_word t w) (range_with_len 0 10)

abbrev pub places_in_word : PlanTable → ℕ → List Bool
places_in_word t w = map (place_told t w) (range_with_len 0 16)

unfoldable pub state_told : PlanTable → ℕ → State
state_told t w = record {
  zones = zones_in_word t w;
  full = places_in_word t w;
  stamp = told (counts_of t) w Stamp;
  stopped = nat_eq (told (counts_of t) w Stop) 1;
}
