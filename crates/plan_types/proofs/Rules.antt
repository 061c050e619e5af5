-- The rules of a plan, by numbers and on the rows themselves.
use Rattle.std.proofs.Common.{◌≡◌, ℕ, ◌<◌, true, nat_eq, nat_lt, length, get_or, Option, Some, None, IsTrue}
use Rattle.std.proofs.Common.{refl, subst, arith, ltb-true, eq-eqb}
use Rattle.std.proofs.lemmas.Bool.{eqb-true, lt-ltb}
use Rattle.std.proofs.lemmas.List.{get_or_default}
use Rattle.std.specs.Cmp.{first_so, second_so}
use Rattle.plan_types.specs.declared.table.Way.{Way}
use Rattle.plan_types.specs.declared.table.PlanZone.{PlanZone}
use Rattle.plan_types.specs.declared.table.PlanPose.{PlanPose}
use Rattle.plan_types.specs.declared.table.PlanPlace.{PlanPlace}
use Rattle.plan_types.specs.Table.{PlanTable, no_zone, no_pose, no_place, zone_row, pose_row, is_place_of}
use Rattle.plan_types.specs.Plan.{IsPlan, leads}
use Rattle.plan_types.specs.TableLaws.{Keeps, GoesBetween, KeepsZoneRules, KeepsPoseRules, KeepsSpaceRules, KeepsRules}

pub keeps : (t : PlanTable) (m p : ℕ) → is_place_of t p m ≡ true → Keeps t m p
keeps t m p e =
    let below = nat_lt p (length t.places) in
    let same = nat_eq (get_or t.places p no_place).keeper m in
    (ltb-true _ _ (first_so below same e), eqb-true _ _ (second_so below same e))

pub is_kept : (t : PlanTable) (m p : ℕ) → Keeps t m p → is_place_of t p m ≡ true
is_kept t m p k = rw (lt-ltb _ _ k.0, eq-eqb _ _ k.1) refl

pub between : (t : PlanTable) (giver receiver : ℕ) (given : Option Way) → IsTrue (leads t giver receiver given)
    → GoesBetween t giver receiver given
between t giver receiver None e w is = cc
between t giver receiver (Some v) e w is =
    let same : v ≡ w = cc in
    let starts = is_place_of t v.from giver in
    let ends = is_place_of t v.to receiver in
    subst (λ (x : Way). Keeps t giver x.from × Keeps t receiver x.to) same
    (keeps t giver v.from (first_so starts ends e), keeps t receiver v.to (second_so starts ends e))

pub leads_on : (t : PlanTable) (giver receiver : ℕ) (given : Option Way) → GoesBetween t giver receiver given
    → IsTrue (leads t giver receiver given)
leads_on t giver receiver None k = refl
leads_on t giver receiver (Some w) k =
    let both = k w refl in rw (is_kept t giver w.from both.0, is_kept t receiver w.to both.1) refl

zone_rules : (t : PlanTable) → IsPlan t → (z : ℕ) → z < length t.zones → KeepsZoneRules t (zone_row t z)
zone_rules t plan z below = record {
  host = plan.host_is_machine z below;
  guest = plan.guest_is_machine z below;
  two = plan.host_is_not_guest z below;
  inward = between t _ _ _ (plan.inward_to_host z below);
  outward = between t _ _ _ (plan.outward_to_guest z below);
}

pose_rules : (t : PlanTable) → IsPlan t → (p : ℕ) → p < length t.poses → KeepsPoseRules t (pose_row t p)
pose_rules t plan p below = record {
  machine = plan.pose_of_machine p below;
  zones = λ z q few given. plan.pose_of_host p z q below few given;
}

space_rules : (t : PlanTable) → IsPlan t → (z : ℕ) → z < length t.zones → KeepsSpaceRules t z
space_rules t plan z below = record {
  host = plan.one_host_a_space z below;
  guests = λ y earlier same. plan.guests_differ y z earlier below same;
  poses = λ p few. plan.space_moves_whole p z few below;
}

pub rules_of_plan : (t : PlanTable) → IsPlan t → KeepsRules t
rules_of_plan t plan = record {
  machines = omega (arith, plan.machines_at_most);
  zones = omega (arith, plan.zones_at_most);
  poses = omega (arith, plan.poses_at_most);
  places = omega (arith, plan.places_at_most);
  width = omega (arith, plan.fits_a_word);
  keepers = λ k d below.
      subst (λ (row : PlanPlace). row.keeper < t.machines) (get_or_default t.places k no_place d below)
      (plan.keeper_is_machine k below);
  zone_rows = λ k d below.
      subst (λ (row : PlanZone). KeepsZoneRules t row) (get_or_default t.zones k no_zone d below)
      (zone_rules t plan k below);
  pose_rows = λ k d below.
      subst (λ (row : PlanPose). KeepsPoseRules t row) (get_or_default t.poses k no_pose d below)
      (pose_rules t plan k below);
  spaces = space_rules t plan;
}

pub plan_by_rules : (t : PlanTable) → KeepsRules t → IsPlan t
plan_by_rules t rules =
    let zone = λ (z : ℕ) (below : z < length t.zones). rules.zone_rows z no_zone below in
    let pose = λ (p : ℕ) (below : p < length t.poses). rules.pose_rows p no_pose below in
    record {
      machines_at_most = omega (arith, rules.machines);
      zones_at_most = omega (arith, rules.zones);
      poses_at_most = omega (arith, rules.poses);
      places_at_most = omega (arith, rules.places);
      fits_a_word = omega (arith, rules.width);
      keeper_is_machine = λ p below. rules.keepers p no_place below;
      host_is_machine = λ z below. (zone z below).host;
      guest_is_machine = λ z below. (zone z below).guest;
      host_is_not_guest = λ z below. (zone z below).two;
      inward_to_host = λ z below. leads_on t _ _ _ (zone z below).inward;
      outward_to_guest = λ z below. leads_on t _ _ _ (zone z below).outward;
      pose_of_machine = λ p below. (pose p below).machine;
      pose_of_host = λ p z q below few given. (pose p below).zones z q few given;
      one_host_a_space = λ z below. (rules.spaces z below).host;
      guests_differ = λ y z earlier below same. (rules.spaces z below).guests y earlier same;
      space_moves_whole = λ p z few below. (rules.spaces z below).poses p few;
    }
