-- The bits of a plan's word that a motor needs, as a mask and a pattern.
use Rattle.std.specs.Prelude.{◌≡◌, ℕ, ◌+◌, ◌-◌, ◌*◌, ◌^◌, Bool, false, ◌&&◌, ◌||◌, not, nat_eq, bit_and, List, get_or}
use Rattle.std.specs.Prelude.{Option, Some, None, is_some}
use Rattle.std.specs.Prelude.{if◌then◌else◌}
use Rattle.plan_types.specs.declared.posture.Posture.{Posture}
use Rattle.plan_types.specs.declared.shape.Postures.{Postures}
use Rattle.plan_types.specs.declared.shape.ZoneShape.{ZoneShape}
use Rattle.plan_types.specs.Below.{any_below, sum_below}
use Rattle.plan_types.specs.Table.{PlanTable, zone_count, place_count, same_space, enters, owner_bits, flag_bits}
use Rattle.plan_types.specs.Table.{posture_bits, postures_of, zone_shape}
use Rattle.plan_rules.specs.State.{one_if}
use Rattle.plan_word.specs.declared.layout.Field.TheVariants.{Zone, Place}
use Rattle.plan_word.specs.Layout.{counts_of, start_of}
use Rattle.plan_word.specs.OfPlan.{can_have}
use Rattle.plan_word.specs.Packed.{owner_part, code_of}
use Rattle.plan_motors.specs.declared.motor.Motor.{Motor}
use Rattle.plan_motors.specs.declared.mask.MotorMask.{MotorMask}
use Rattle.plan_motors.specs.Motor.{need_of, place_need}

-- the posture that is needed is none that the zone's field tells, so no state of the plan has it
abbrev pub is_never : ZoneShape → Option Posture → Bool
is_never s None = false
is_never s (Some q) = not (can_have (postures_of s) q)

-- the lowest bits of a space's first zone tell its owner; a zone's posture begins above its flag
abbrev pub posture_start : ZoneShape → ℕ
posture_start s = owner_bits s.guests + flag_bits s.flag

-- a motor has to hold a zone of a space
abbrev pub holds_near : PlanTable → Motor → ℕ → ℕ → Bool
holds_near t m z y = same_space t y z && (need_of m y).holds

abbrev pub holds_in : PlanTable → Motor → ℕ → Bool
holds_in t m z = any_below (holds_near t m z) (zone_count t)

-- the space is never as it needs it: a zone never has the posture, or its machine would hold what it can't enter
abbrev pub never_near : PlanTable → Motor → ℕ → ℕ → Bool
never_near t m z y = same_space t y z && is_never (zone_shape t y) (need_of m y).posture

abbrev pub never_in : PlanTable → Motor → ℕ → Bool
never_in t m z = any_below (never_near t m z) (zone_count t) || (holds_in t m z && not (enters t m.machine z))

-- the bits that tell the owner, if one is needed. What never is has the spare code 3 of one guest's space; where there
-- may be no spare code, it has a pattern outside of its mask
abbrev pub all_owners : ZoneShape → ℕ
all_owners s = 2 ^ owner_bits s.guests - 1

abbrev pub owner_mask : ZoneShape → Bool → Bool → ℕ
owner_mask s holds never =
    if never then (if nat_eq s.guests 1 then all_owners s else 0) else if holds then all_owners s else 0

abbrev pub owner_pattern : ZoneShape → ℕ → Bool → Bool → ℕ
owner_pattern s owner holds never = if never then all_owners s else if holds then owner else 0

abbrev pub posture_mask : Postures → Option Posture → ℕ
posture_mask p None = 0
posture_mask p (Some q) = 2 ^ posture_bits p - 1

abbrev pub posture_pattern : Postures → Option Posture → ℕ
posture_pattern p None = 0
posture_pattern p (Some q) = code_of p q

-- a zone's bits
abbrev pub bits_with : ZoneShape → ℕ → ℕ → ℕ
bits_with s owner posture = owner + posture * 2 ^ posture_start s

abbrev pub zone_mask : PlanTable → Motor → ℕ → ℕ
zone_mask t m z =
    bits_with (zone_shape t z) (owner_mask (zone_shape t z) (holds_in t m z) (never_in t m z))
    (posture_mask (postures_of (zone_shape t z)) (need_of m z).posture)

abbrev pub zone_pattern : PlanTable → Motor → ℕ → ℕ
zone_pattern t m z =
    bits_with (zone_shape t z)
    (owner_pattern (zone_shape t z) (owner_part t z (Some m.machine)) (holds_in t m z) (never_in t m z))
    (posture_pattern (postures_of (zone_shape t z)) (need_of m z).posture)

abbrev pub place_mask : Option Bool → ℕ
place_mask need = one_if (is_some need)

abbrev pub place_pattern : Option Bool → ℕ
place_pattern None = 0
place_pattern (Some full) = one_if full

-- the bits of the zones, and of the places, below a number
abbrev pub zone_masks : PlanTable → Motor → ℕ → ℕ
zone_masks t m n = sum_below (λ z. zone_mask t m z * 2 ^ start_of (counts_of t) (Zone z)) n

abbrev pub zone_patterns : PlanTable → Motor → ℕ → ℕ
zone_patterns t m n = sum_below (λ z. zone_pattern t m z * 2 ^ start_of (counts_of t) (Zone z)) n

abbrev pub place_masks : PlanTable → Motor → ℕ → ℕ
place_masks t m n = sum_below (λ p. place_mask (place_need m p) * 2 ^ start_of (counts_of t) (Place p)) n

abbrev pub place_patterns : PlanTable → Motor → ℕ → ℕ
place_patterns t m n = sum_below (λ p. place_pattern (place_need m p) * 2 ^ start_of (counts_of t) (Place p)) n

-- the bits of a word that a motor looks at, and what they have to be
unfoldable pub mask_of : PlanTable → Motor → ℕ
mask_of t m = zone_masks t m (zone_count t) + place_masks t m (place_count t)

unfoldable pub pattern_of : PlanTable → Motor → ℕ
pattern_of t m = zone_patterns t m (zone_count t) + place_patterns t m (place_count t)

-- a motor's bits
pub record IsMaskOf (t : PlanTable) (m : Motor) (x : MotorMask) : Type 0 where
  pub mask : x.mask ≡ mask_of t m
  pub pattern : x.pattern ≡ pattern_of t m

-- a word has the pattern under the mask
abbrev pub allows : MotorMask → ℕ → Bool
allows m w = nat_eq (bit_and w m.mask) m.pattern

abbrev pub no_mask : MotorMask
no_mask = record { mask = 0; pattern = 0 }

abbrev pub mask_at : List MotorMask → ℕ → MotorMask
mask_at several k = get_or several k no_mask
