-- Where no zone joins the one before it, the bits of a zone are as if there were no spaces.
use Rattle.std.specs.Prelude.{◌≡◌, ℕ, ◌+◌, ◌*◌, ◌/◌, ◌%◌, nat_eq, Option, Some, None, if◌then◌else◌}
use Rattle.plan_types.specs.Table.{PlanTable, host_of, guest_of, zone_shape, flag_bits, posture_bits, postures_of}
use Rattle.plan_rules.specs.declared.state.ZoneState.{ZoneState}
use Rattle.plan_rules.specs.PlainLaws.{IsPlain}
use Rattle.plan_word.specs.declared.layout.Field.TheVariants.{Zone}
use Rattle.plan_word.specs.Layout.{counts_of, bits_of}
use Rattle.plan_word.specs.Packed.{rest_in, zone_code}
use Rattle.plan_word.specs.Reading.{state_in, zone_of_code}

-- nobody is 0, the host 1 and the guest 2
abbrev pub plain_owner : PlanTable → ℕ → Option ℕ → ℕ
plain_owner t z None = 0
plain_owner t z (Some m) = if nat_eq m (host_of t z) then 1 else 2

-- the spare code 3 tells the guest, as 2 does
abbrev pub plain_owner_of : PlanTable → ℕ → ℕ → Option ℕ
plain_owner_of t z n =
    if nat_eq n 0 then None else if nat_eq n 1 then Some (host_of t z) else Some (guest_of t z)

pub record PlainWords (t : PlanTable) (z : ℕ) (v : ZoneState) (n : ℕ) : Type 0 where
  -- a zone has two bits for its owner, one for its flag if it has one, and those of its posture
  pub bits : bits_of (counts_of t) (Zone z)
      ≡ 2 + flag_bits (zone_shape t z).flag + posture_bits (postures_of (zone_shape t z))
  -- the owner's bits are the lowest, when they are written, and when they are read
  pub code : zone_code t z v ≡ plain_owner t z v.owner + 4 * rest_in (zone_shape t z) v
  pub read : zone_of_code t z n n ≡ state_in (zone_shape t z) (plain_owner_of t z (n % 4)) (n / 4)

abbrev pub PlainWordsStay : Type 0
PlainWordsStay = (t : PlanTable) (z : ℕ) (v : ZoneState) (n : ℕ) → IsPlain t → PlainWords t z v n
