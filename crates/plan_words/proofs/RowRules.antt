-- Rows without a fault are those of a large plan.
use Rattle.std.proofs.Common.{◌≡◌, ◌≢◌, ℕ, ◌<◌, inl, inr, Bool, true, false, ◌&&◌, not, nat_eq, nat_lt, length, Option, Some, None, refl, ap, is_some, ltb-true, eq-eqb, IsTrue, sym, ◌∙◌}
use Rattle.std.specs.Bool.{then_some}
use Rattle.std.proofs.lemmas.Bool.{eqb-true, lt-ltb, false_from_ne_true, cases_lt}
use Rattle.std.proofs.lemmas.List.{get_or_past}
use Rattle.plan_types.specs.declared.posture.Posture.{Posture}
use Rattle.plan_types.specs.declared.fault.PlanFault.{PlanFault}
use Rattle.plan_types.specs.declared.fault.PlanFault.TheVariants.{NoSuchKeeper, NoSuchHost, NoSuchGuest, HostIsGuest, InwardAstray, OutwardAstray, NoSuchMachine, ForeignZone, TwoHosts, GuestTwice, HalfSpace}
use Rattle.plan_types.specs.Table.{PlanTable, zone_count, pose_count, place_count, host_of, guest_of, machine_of, posture_of, is_hosted, zone_row, pose_row, space_of}
use Rattle.plan_types.specs.Below.{first_below, any_below}
use Rattle.plan_types.specs.Plan.{leads}
use Rattle.plan_types.specs.Faults.{◌or◌, unless, keeper_fault, zone_fault, foreign_fault, has_guest_of, space_fault, half_fault, halves_fault}
use Rattle.plan_types.proofs.lemmas.Below.{first_below_none, first_below_all, any_below_all}
use Rattle.plan_types.proofs.lemmas.Checked.{both, holds, both_true, apart, hosted, Shared, shared}
use Rattle.plan_words.specs.Groups.{IsLargePlan}
use Rattle.plan_words.specs.Plant.{pose_fault, row_fault}

both_none : (a b : Option PlanFault) → a ≡ None → b ≡ None → (a or b) ≡ None
both_none a b e f = rw (e, f) refl

and_true : (a b : Bool) → a ≡ true → b ≡ true → (a && b) ≡ true
and_true a b e f = rw (e, f) refl

test_apart : (a b : ℕ) → a ≢ b → not (nat_eq a b) ≡ true
test_apart a b ne = ap not (false_from_ne_true (nat_eq a b) (λ t. ne (eqb-true a b t)))

no_fault : (b : Bool) (f : PlanFault) → b ≡ true → unless b f ≡ None
no_fault b f e = rw e refl

no_foreign : (o : Option Posture) (h : Bool) (f : PlanFault) → ((q : Posture) → o ≡ Some q → h ≡ true) → then_some (is_some o && not h) f ≡ None
no_foreign None h f k = refl
no_foreign (Some q) h f k = rw (k q refl) refl

-- ---- zones

pub record Zoned (t : PlanTable) (z : ℕ) : Type 0 where
  pub host : host_of t z < t.machines
  pub guest : guest_of t z < t.machines
  pub two : host_of t z ≢ guest_of t z
  pub inward : IsTrue (leads t (guest_of t z) (host_of t z) (zone_row t z).inward)
  pub outward : IsTrue (leads t (host_of t z) (guest_of t z) (zone_row t z).outward)

zoned : (t : PlanTable) (z : ℕ) → zone_fault t z ≡ None → Zoned t z
zoned t z e =
    let a = unless (nat_lt (host_of t z) t.machines) (NoSuchHost z) in
    let b = unless (nat_lt (guest_of t z) t.machines) (NoSuchGuest z) in
    let c = unless (not (nat_eq (host_of t z) (guest_of t z))) (HostIsGuest z) in
    let d = unless (leads t (guest_of t z) (host_of t z) (zone_row t z).inward) (InwardAstray z) in
    let f = unless (leads t (host_of t z) (guest_of t z) (zone_row t z).outward) (OutwardAstray z) in
    let h4 = both (a or b or c or d) f e in
    let h3 = both (a or b or c) d h4.0 in
    let h2 = both (a or b) c h3.0 in
    let h1 = both a b h2.0 in
    record {
      host = ltb-true _ _ (holds _ (NoSuchHost z) h1.0);
      guest = ltb-true _ _ (holds _ (NoSuchGuest z) h1.1);
      two = apart _ _ (holds _ (HostIsGuest z) h2.1);
      inward = holds _ (InwardAstray z) h3.1;
      outward = holds _ (OutwardAstray z) h4.1;
    }

no_zone_fault : (t : PlanTable) (z : ℕ) → Zoned t z → zone_fault t z ≡ None
no_zone_fault t z k =
    both_none _ _ (both_none _ _ (both_none _ _ (both_none _ _
    (no_fault _ (NoSuchHost z) (lt-ltb _ _ k.host))
    (no_fault _ (NoSuchGuest z) (lt-ltb _ _ k.guest)))
    (no_fault _ (HostIsGuest z) (test_apart _ _ k.two)))
    (no_fault _ (InwardAstray z) k.inward))
    (no_fault _ (OutwardAstray z) k.outward)

-- ---- spaces

again_none : (t : PlanTable) (z : ℕ) → ((y : ℕ) → y < z → space_of t y ≡ space_of t z → guest_of t y ≢ guest_of t z) → any_below (has_guest_of t z) z ≡ false
again_none t z apart = any_below_all (has_guest_of t z) z (λ y l. false_from_ne_true (has_guest_of t z y) (λ yes.
    let both = both_true (nat_eq (space_of t y) (space_of t z)) (nat_eq (guest_of t y) (guest_of t z)) yes in
    apart y l (eqb-true _ _ both.0) (eqb-true _ _ both.1)))

no_space_fault : (t : PlanTable) (z : ℕ) → Shared t z → space_fault t z ≡ None
no_space_fault t z k =
    both_none _ _ (no_fault _ (TwoHosts z) (eq-eqb _ _ k.host)) (no_fault _ (GuestTwice z) (ap not (again_none t z k.guests)))

-- ---- poses

-- past its row a pose gives nothing
given_within : (t : PlanTable) (p z : ℕ) (q : Posture) → posture_of t p z ≡ Some q → z < length (pose_row t p).gives
given_within t p z q e = elim (cases_lt z (length (pose_row t p).gives)) [
  | inl l ↦ l
  | inr m ↦ let h = sym (get_or_past (pose_row t p).gives z None m) ∙ e in cc
]

pub large_plan : (t : PlanTable) → row_fault t ≡ None → IsLargePlan t
large_plan t e =
    let b = first_below (keeper_fault t) (place_count t) in
    let c = first_below (zone_fault t) (zone_count t) in
    let d = first_below (pose_fault t) (pose_count t) in
    let f = first_below (space_fault t) (zone_count t) in
    let g = first_below (halves_fault t) (pose_count t) in
    let h4 = both (b or c or d or f) g e in
    let h3 = both (b or c or d) f h4.0 in
    let h2 = both (b or c) d h3.0 in
    let h1 = both b c h2.0 in
    let zone : (z : ℕ) → z < zone_count t → Zoned t z = λ z l. zoned t z (first_below_none (zone_fault t) (zone_count t) h1.1 z l) in
    let space : (z : ℕ) → z < zone_count t → Shared t z = λ z l. shared t z (first_below_none (space_fault t) (zone_count t) h3.1 z l) in
    let pose : (p : ℕ) → p < pose_count t → (unless (nat_lt (machine_of t p) t.machines) (NoSuchMachine p) ≡ None) × (first_below (foreign_fault t p) (length (pose_row t p).gives) ≡ None)
    = λ p l. both (unless (nat_lt (machine_of t p) t.machines) (NoSuchMachine p)) (first_below (foreign_fault t p) (length (pose_row t p).gives)) (first_below_none (pose_fault t) (pose_count t) h2.1 p l) in
    record {
      keeper_is_machine = λ p l. ltb-true _ _ (holds _ (NoSuchKeeper p) (first_below_none (keeper_fault t) (place_count t) h1.0 p l));
      host_is_machine = λ z l. (zone z l).host;
      guest_is_machine = λ z l. (zone z l).guest;
      host_is_not_guest = λ z l. (zone z l).two;
      inward_to_host = λ z l. (zone z l).inward;
      outward_to_guest = λ z l. (zone z l).outward;
      pose_of_machine = λ p l. ltb-true _ _ (holds _ (NoSuchMachine p) (pose p l).0);
      pose_of_host = λ p z q l s.
          let own = both_true (nat_lt z (zone_count t)) (nat_eq (host_of t z) (machine_of t p))
          (hosted (posture_of t p z) (is_hosted t z (machine_of t p)) (ForeignZone p z) q (first_below_none (foreign_fault t p) (length (pose_row t p).gives) (pose p l).1 z (given_within t p z q s)) s) in
          (ltb-true _ _ own.0, eqb-true _ _ own.1);
      one_host_a_space = λ z l. (space z l).host;
      guests_differ = λ y z l m. (space z m).guests y l;
      space_moves_whole = λ p z l m. holds _ (HalfSpace p z)
          (first_below_none (half_fault t p) (zone_count t) (first_below_none (halves_fault t) (pose_count t) h4.1 p l) z m);
    }

pub no_row_fault : (t : PlanTable) → IsLargePlan t → row_fault t ≡ None
no_row_fault t k =
    let keepers = first_below_all (keeper_fault t) (place_count t) (λ p l. no_fault _ (NoSuchKeeper p) (lt-ltb _ _ (k.keeper_is_machine p l))) in
    let zones = first_below_all (zone_fault t) (zone_count t) (λ z l. no_zone_fault t z (record {
      host = k.host_is_machine z l;
      guest = k.guest_is_machine z l;
      two = k.host_is_not_guest z l;
      inward = k.inward_to_host z l;
      outward = k.outward_to_guest z l;
    })) in
    let foreign = λ (p : ℕ) (l : p < pose_count t) (z : ℕ) (m : z < length (pose_row t p).gives).
    no_foreign (posture_of t p z) (is_hosted t z (machine_of t p)) (ForeignZone p z) (λ q s.
    let own = k.pose_of_host p z q l s in and_true _ _ (lt-ltb _ _ own.0) (eq-eqb _ _ own.1)) in
    let poses = first_below_all (pose_fault t) (pose_count t) (λ p l. both_none _ _ (no_fault _ (NoSuchMachine p) (lt-ltb _ _ (k.pose_of_machine p l)))
    (first_below_all (foreign_fault t p) (length (pose_row t p).gives) (foreign p l))) in
    let spaces = first_below_all (space_fault t) (zone_count t) (λ z l. no_space_fault t z (record {
      host = k.one_host_a_space z l;
      guests = λ y m same. k.guests_differ y z m l same;
    })) in
    let halves = first_below_all (halves_fault t) (pose_count t) (λ p l. first_below_all (half_fault t p) (zone_count t)
    (λ z m. no_fault _ (HalfSpace p z) (k.space_moves_whole p z l m))) in
    both_none _ _ (both_none _ _ (both_none _ _ (both_none _ _ keepers zones) poses) spaces) halves
