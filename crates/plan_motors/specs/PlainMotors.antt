-- Where no zone joins the one before it, motors need each zone by itself.
use Rattle.std.specs.Prelude.{◌≡◌, ◌↔◌, ℕ, ◌+◌, ◌*◌, ◌<◌, ◌^◌, false, ◌&&◌, ◌||◌, nat_eq, is_none, IsTrue}
use Rattle.std.specs.Prelude.{if◌then◌else◌}
use Rattle.plan_types.specs.declared.posture.Posture.TheVariants.{Moving}
use Rattle.plan_types.specs.Same.{same_posture}
use Rattle.plan_types.specs.Table.{PlanTable, zone_count, host_of, guest_of, flag_bits, postures_of, zone_shape}
use Rattle.plan_rules.specs.declared.state.ZoneState.{ZoneState}
use Rattle.plan_rules.specs.Sound.{IsLawfulZone, implies, is_open, is_owned_by}
use Rattle.plan_rules.specs.PlainLaws.{IsPlain}
use Rattle.plan_motors.specs.declared.motor.Motor.{Motor}
use Rattle.plan_motors.specs.Motor.{need_of, meets}
use Rattle.plan_motors.specs.Exclusion.{owner_needed, posture_needed, owner_for, posture_for, zone_for, is_lawful}
use Rattle.plan_motors.specs.Decided.{IsApartByZone}
use Rattle.plan_motors.specs.Mask.{is_never, posture_mask, posture_pattern, zone_mask, zone_pattern}

-- the code by which a zone's bits tell that a machine owns it; 3, which no state has, where it is no party
abbrev pub party_code : PlanTable → ℕ → ℕ → ℕ
party_code t z m = if nat_eq m (host_of t z) then 1 else if nat_eq m (guest_of t z) then 2 else 3

pub record PlainMotors (t : PlanTable) (a b : Motor) (z : ℕ) : Type 0 where
  -- a zone that keeps the rules is never as both need it
  pub apart : IsApartByZone t a b z
      ↔ ((v : ZoneState) → IsLawfulZone t z v → IsTrue (meets a.machine (need_of a z) v)
      → ¬ IsTrue (meets b.machine (need_of b z) v))
  -- the owner and the posture that both need of the zone are put together
  pub zone : zone_for t a b z ≡ record {
    owner = owner_for t z (owner_needed a b z) (posture_needed a b z);
    flag = false;
    posture = posture_for t z (owner_needed a b z) (posture_needed a b z);
  }
  -- an owner is the zone's host or its guest
  pub lawful : (v : ZoneState) → is_lawful t z v
      ≡ ((is_none v.owner || is_owned_by v.owner (host_of t z) || is_owned_by v.owner (guest_of t z))
      && implies (is_owned_by v.owner (guest_of t z)) (is_open v.posture)
      && implies (same_posture v.posture Moving) (is_owned_by v.owner (host_of t z)))
  -- the owner has two bits, and 3 is the code that no state has
  pub mask : zone_mask t a z
      ≡ (if (need_of a z).holds || is_never (zone_shape t z) (need_of a z).posture then 3 else 0)
      + posture_mask (postures_of (zone_shape t z)) (need_of a z).posture * 2 ^ (2 + flag_bits (zone_shape t z).flag)
  pub pattern : zone_pattern t a z
      ≡ (if is_never (zone_shape t z) (need_of a z).posture then 3
      else if (need_of a z).holds then party_code t z a.machine else 0)
      + posture_pattern (postures_of (zone_shape t z)) (need_of a z).posture * 2 ^ (2 + flag_bits (zone_shape t z).flag)

abbrev pub PlainMotorsStay : Type 0
PlainMotorsStay = (t : PlanTable) (a b : Motor) (z : ℕ) → IsPlain t → z < zone_count t → PlainMotors t a b z
