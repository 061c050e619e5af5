-- Where no zone joins the one before it, all is as if there were no spaces: each zone is one by itself.
use Rattle.std.specs.Prelude.{◌≡◌, ℕ, ◌<◌, Bool, false, ◌||◌, nat_eq, length, set, Option}
use Rattle.plan_types.specs.Table.{PlanTable, zone_count, host_of, guest_of, joins, same_space, enters}
use Rattle.plan_rules.specs.declared.state.State.{State}
use Rattle.plan_rules.specs.State.{zone_at, posture_at, space_has_plate}
use Rattle.plan_rules.specs.Reply.{with_owner}

-- no zone joins the one before it
abbrev pub IsPlain : PlanTable → Type 0
IsPlain t = (z : ℕ) → joins t z ≡ false

pub record PlainSpaces (t : PlanTable) (s : State) (z : ℕ) : Type 0 where
  -- a zone is of one space with itself alone; so who gains and loses a zone is who gains and loses this zone
  pub same : (y : ℕ) → same_space t y z ≡ nat_eq y z
  -- its host and its guest enter it
  pub enter : (m : ℕ) → z < zone_count t → enters t m z ≡ (nat_eq m (host_of t z) || nat_eq m (guest_of t z))
  -- a plate in the zone bars it, and none elsewhere
  pub plate : z < zone_count t → space_has_plate t s z ≡ (zone_at s z).flag
  -- another owner is set at the zone alone, with a plate or without
  pub owner : (o : Option ℕ) (plate : Bool) → z < 10 → length s.zones ≡ 10
      → with_owner t s z o plate
      ≡ set s.zones z (record { owner = o; flag = plate || (zone_at s z).flag; posture = posture_at s z })

abbrev pub PlainPlansStay : Type 0
PlainPlansStay = (t : PlanTable) (s : State) (z : ℕ) → IsPlain t → PlainSpaces t s z
