-- Tables have no fault exactly if they are a plan.
use Rattle.std.proofs.Common.{◌≡◌, ◌≢◌, ℕ, ◌-◌, ◌<◌, ◌≤◌, Bool, true, false, ◌&&◌, not, nat_eq, nat_lt, nat_le, Option, Some, None, refl, ap, is_some, ltb-true, eq-eqb, IsTrue, sym, ◌∙◌, []}
use Rattle.std.specs.Bool.{then_some}
use Rattle.std.proofs.lemmas.Bool.{eqb-true, leb-true, lt-ltb, le-leb, false_from_ne_true}
use Rattle.plan_types.specs.declared.posture.Posture.{Posture}
use Rattle.plan_types.specs.declared.fault.PlanFault.{PlanFault}
use Rattle.plan_types.specs.declared.fault.PlanFault.TheVariants.{TooManyMachines, TooManyZones, TooManyPoses, TooManyPlaces, TooWide, NoSuchKeeper, NoSuchHost, NoSuchGuest, HostIsGuest, InwardAstray, OutwardAstray, NoSuchMachine, ForeignZone, TwoHosts, GuestTwice, HalfSpace}
use Rattle.plan_types.specs.Table.{PlanTable, plan_table, zone_count, pose_count, place_count, word_width, host_of, guest_of, machine_of, posture_of, is_hosted, zone_row, space_of}
use Rattle.plan_types.specs.Below.{first_below, any_below}
use Rattle.plan_types.specs.Plan.{IsPlan, leads}
use Rattle.plan_types.specs.Faults.{◌or◌, unless, count_fault, width_fault, keeper_fault, zone_fault, pose_fault, foreign_fault, has_guest_of, space_fault, half_fault, halves_fault, plan_fault}
use Rattle.plan_types.specs.Kept.{FitsSheet}
use Rattle.plan_types.proofs.lemmas.Below.{first_below_none, first_below_all, any_below_none, any_below_all}

pub both : (a b : Option PlanFault) → (a or b) ≡ None → (a ≡ None) × (b ≡ None)
both None b e = (refl, e)
both (Some f) b e = cc

both_none : (a b : Option PlanFault) → a ≡ None → b ≡ None → (a or b) ≡ None
both_none a b e f = rw (e, f) refl

pub holds : (b : Bool) (f : PlanFault) → unless b f ≡ None → b ≡ true
holds true f e = refl
holds false f e = cc

no_fault : (b : Bool) (f : PlanFault) → b ≡ true → unless b f ≡ None
no_fault b f e = rw e refl

and_true : (a b : Bool) → a ≡ true → b ≡ true → (a && b) ≡ true
and_true a b e f = rw (e, f) refl

pub both_true : (a b : Bool) → (a && b) ≡ true → (a ≡ true) × (b ≡ true)
both_true true b e = (refl, e)
both_true false b e = cc

pub apart : (a b : ℕ) → not (nat_eq a b) ≡ true → a ≢ b
apart a b e same = let t = eq-eqb a b same in cc

test_apart : (a b : ℕ) → a ≢ b → not (nat_eq a b) ≡ true
test_apart a b ne = ap not (false_from_ne_true (nat_eq a b) (λ t. ne (eqb-true a b t)))

-- ---- from no fault to the rules

pub record Counts (t : PlanTable) : Type 0 where
  machines : t.machines ≤ 30
  zones : zone_count t ≤ 10
  poses : pose_count t ≤ 64
  places : place_count t ≤ 16

pub counts : (t : PlanTable) → count_fault t ≡ None → Counts t
counts t e =
    let a = unless (nat_le t.machines 30) TooManyMachines in
    let b = unless (nat_le (zone_count t) 10) TooManyZones in
    let c = unless (nat_le (pose_count t) 64) TooManyPoses in
    let d = unless (nat_le (place_count t) 16) TooManyPlaces in
    let h3 = both (a or b or c) d e in
    let h2 = both (a or b) c h3.0 in
    let h1 = both a b h2.0 in
    record {
      machines = leb-true _ _ (holds _ TooManyMachines h1.0);
      zones = leb-true _ _ (holds _ TooManyZones h1.1);
      poses = leb-true _ _ (holds _ TooManyPoses h2.1);
      places = leb-true _ _ (holds _ TooManyPlaces h3.1);
    }

record Zoned (t : PlanTable) (z : ℕ) : Type 0 where
  host : host_of t z < t.machines
  guest : guest_of t z < t.machines
  two : host_of t z ≢ guest_of t z
  inward : IsTrue (leads t (guest_of t z) (host_of t z) (zone_row t z).inward)
  outward : IsTrue (leads t (host_of t z) (guest_of t z) (zone_row t z).outward)

zoned : (t : PlanTable) (z : ℕ) → zone_fault t z ≡ None → Zoned t z
zoned t z e =
    let a = unless (nat_lt (host_of t z) t.machines) (NoSuchHost z) in
    let b = unless (nat_lt (guest_of t z) t.machines) (NoSuchGuest z) in
    let c = unless (not (nat_eq (host_of t z) (guest_of t z))) (HostIsGuest z) in
    let d = unless (leads t (guest_of t z) (host_of t z) (zone_row t z).inward) (InwardAstray z) in
    let f = unless (leads t (host_of t z) (guest_of t z) (zone_row t z).outward) (OutwardAstray z) in
    let h4 = both (a or b or c or d) f e in
    let h3 = both (a or b or c) d h4.0 in
    let h2 = both (a or b) c h3.0 in
    let h1 = both a b h2.0 in
    record {
      host = ltb-true _ _ (holds _ (NoSuchHost z) h1.0);
      guest = ltb-true _ _ (holds _ (NoSuchGuest z) h1.1);
      two = apart _ _ (holds _ (HostIsGuest z) h2.1);
      inward = holds _ (InwardAstray z) h3.1;
      outward = holds _ (OutwardAstray z) h4.1;
    }

no_zone_fault : (t : PlanTable) (z : ℕ) → Zoned t z → zone_fault t z ≡ None
no_zone_fault t z k =
    both_none _ _ (both_none _ _ (both_none _ _ (both_none _ _
    (no_fault _ (NoSuchHost z) (lt-ltb _ _ k.host))
    (no_fault _ (NoSuchGuest z) (lt-ltb _ _ k.guest)))
    (no_fault _ (HostIsGuest z) (test_apart _ _ k.two)))
    (no_fault _ (InwardAstray z) k.inward))
    (no_fault _ (OutwardAstray z) k.outward)

pub record Shared (t : PlanTable) (z : ℕ) : Type 0 where
  pub host : host_of t (space_of t z) ≡ host_of t z
  pub guests : (y : ℕ) → y < z → space_of t y ≡ space_of t z → guest_of t y ≢ guest_of t z

is_false : (b : Bool) → not b ≡ true → b ≡ false
is_false true e = cc
is_false false e = refl

none_again : (t : PlanTable) (z : ℕ) → any_below (has_guest_of t z) z ≡ false → (y : ℕ) → y < z → space_of t y ≡ space_of t z → guest_of t y ≢ guest_of t z
none_again t z none y l same guest =
    let no = any_below_none (has_guest_of t z) z none y l in
    let yes : has_guest_of t z y ≡ true = and_true _ _ (eq-eqb _ _ same) (eq-eqb _ _ guest) in
    let clash : true ≡ false = sym yes ∙ no in
    cc

again_none : (t : PlanTable) (z : ℕ) → ((y : ℕ) → y < z → space_of t y ≡ space_of t z → guest_of t y ≢ guest_of t z) → any_below (has_guest_of t z) z ≡ false
again_none t z apart = any_below_all (has_guest_of t z) z (λ y l. false_from_ne_true (has_guest_of t z y) (λ yes.
    let both = both_true (nat_eq (space_of t y) (space_of t z)) (nat_eq (guest_of t y) (guest_of t z)) yes in
    apart y l (eqb-true _ _ both.0) (eqb-true _ _ both.1)))

pub shared : (t : PlanTable) (z : ℕ) → space_fault t z ≡ None → Shared t z
shared t z e =
    let a = unless (nat_eq (host_of t (space_of t z)) (host_of t z)) (TwoHosts z) in
    let b = unless (not (any_below (has_guest_of t z) z)) (GuestTwice z) in
    let h = both a b e in
    record {
      host = eqb-true _ _ (holds _ (TwoHosts z) h.0);
      guests = none_again t z (is_false _ (holds _ (GuestTwice z) h.1));
    }

no_space_fault : (t : PlanTable) (z : ℕ) → Shared t z → space_fault t z ≡ None
no_space_fault t z k =
    both_none _ _ (no_fault _ (TwoHosts z) (eq-eqb _ _ k.host)) (no_fault _ (GuestTwice z) (ap not (again_none t z k.guests)))

pub hosted : (o : Option Posture) (h : Bool) (f : PlanFault) (q : Posture) → then_some (is_some o && not h) f ≡ None → o ≡ Some q → h ≡ true
hosted None h f q e s = cc
hosted (Some x) true f q e s = refl
hosted (Some x) false f q e s = cc

no_foreign : (o : Option Posture) (h : Bool) (f : PlanFault) → ((q : Posture) → o ≡ Some q → h ≡ true) → then_some (is_some o && not h) f ≡ None
no_foreign None h f k = refl
no_foreign (Some q) h f k = rw (k q refl) refl

pub is_plan : (t : PlanTable) → plan_fault t ≡ None → IsPlan t
is_plan t e =
    let a = count_fault t in
    let w = width_fault t in
    let b = first_below (keeper_fault t) (place_count t) in
    let c = first_below (zone_fault t) (zone_count t) in
    let d = first_below (pose_fault t) (pose_count t) in
    let f = first_below (space_fault t) (zone_count t) in
    let g = first_below (halves_fault t) (pose_count t) in
    let h5 = both (a or w or b or c or d or f) g e in
    let h4 = both (a or w or b or c or d) f h5.0 in
    let h3 = both (a or w or b or c) d h4.0 in
    let h2 = both (a or w or b) c h3.0 in
    let h1 = both (a or w) b h2.0 in
    let h0 = both a w h1.0 in
    let few = counts t h0.0 in
    let zone : (z : ℕ) → z < zone_count t → Zoned t z = λ z l. zoned t z (first_below_none (zone_fault t) (zone_count t) h2.1 z l) in
    let space : (z : ℕ) → z < zone_count t → Shared t z = λ z l. shared t z (first_below_none (space_fault t) (zone_count t) h4.1 z l) in
    let pose : (p : ℕ) → p < pose_count t → (unless (nat_lt (machine_of t p) t.machines) (NoSuchMachine p) ≡ None) × (first_below (foreign_fault t p) 10 ≡ None)
    = λ p l. both (unless (nat_lt (machine_of t p) t.machines) (NoSuchMachine p)) (first_below (foreign_fault t p) 10) (first_below_none (pose_fault t) (pose_count t) h3.1 p l) in
    record {
      machines_at_most = few.machines;
      zones_at_most = few.zones;
      poses_at_most = few.poses;
      places_at_most = few.places;
      fits_a_word = leb-true _ _ (holds _ (TooWide (word_width t - 64)) h0.1);
      keeper_is_machine = λ p l. ltb-true _ _ (holds _ (NoSuchKeeper p) (first_below_none (keeper_fault t) (place_count t) h1.1 p l));
      host_is_machine = λ z l. (zone z l).host;
      guest_is_machine = λ z l. (zone z l).guest;
      host_is_not_guest = λ z l. (zone z l).two;
      inward_to_host = λ z l. (zone z l).inward;
      outward_to_guest = λ z l. (zone z l).outward;
      one_host_a_space = λ z l. (space z l).host;
      guests_differ = λ y z l m. (space z m).guests y l;
      pose_of_machine = λ p l. ltb-true _ _ (holds _ (NoSuchMachine p) (pose p l).0);
      pose_of_host = λ p z q l k s.
          let own = both_true (nat_lt z (zone_count t)) (nat_eq (host_of t z) (machine_of t p))
          (hosted (posture_of t p z) (is_hosted t z (machine_of t p)) (ForeignZone p z) q (first_below_none (foreign_fault t p) 10 (pose p l).1 z k) s) in
          (ltb-true _ _ own.0, eqb-true _ _ own.1);
      space_moves_whole = λ p z l m. holds _ (HalfSpace p z)
          (first_below_none (half_fault t p) (zone_count t) (first_below_none (halves_fault t) (pose_count t) h5.1 p l) z m);
    }

pub no_fault_of_plan : (t : PlanTable) → IsPlan t → plan_fault t ≡ None
no_fault_of_plan t k =
    let few : count_fault t ≡ None = both_none _ _ (both_none _ _ (both_none _ _
    (no_fault _ TooManyMachines (le-leb _ _ k.machines_at_most))
    (no_fault _ TooManyZones (le-leb _ _ k.zones_at_most)))
    (no_fault _ TooManyPoses (le-leb _ _ k.poses_at_most)))
    (no_fault _ TooManyPlaces (le-leb _ _ k.places_at_most)) in
    let wide = no_fault _ (TooWide (word_width t - 64)) (le-leb _ _ k.fits_a_word) in
    let keepers = first_below_all (keeper_fault t) (place_count t) (λ p l. no_fault _ (NoSuchKeeper p) (lt-ltb _ _ (k.keeper_is_machine p l))) in
    let zones = first_below_all (zone_fault t) (zone_count t) (λ z l. no_zone_fault t z (record {
      host = k.host_is_machine z l;
      guest = k.guest_is_machine z l;
      two = k.host_is_not_guest z l;
      inward = k.inward_to_host z l;
      outward = k.outward_to_guest z l;
    })) in
    let foreign = λ (p : ℕ) (l : p < pose_count t) (z : ℕ) (m : z < 10).
    no_foreign (posture_of t p z) (is_hosted t z (machine_of t p)) (ForeignZone p z) (λ q s.
    let own = k.pose_of_host p z q l m s in and_true _ _ (lt-ltb _ _ own.0) (eq-eqb _ _ own.1)) in
    let poses = first_below_all (pose_fault t) (pose_count t) (λ p l. both_none _ _ (no_fault _ (NoSuchMachine p) (lt-ltb _ _ (k.pose_of_machine p l)))
    (first_below_all (foreign_fault t p) 10 (foreign p l))) in
    let spaces = first_below_all (space_fault t) (zone_count t) (λ z l. no_space_fault t z (record {
      host = k.one_host_a_space z l;
      guests = λ y m same. k.guests_differ y z m l same;
    })) in
    let halves = first_below_all (halves_fault t) (pose_count t) (λ p l. first_below_all (half_fault t p) (zone_count t)
    (λ z m. no_fault _ (HalfSpace p z) (k.space_moves_whole p z l m))) in
    both_none _ _ (both_none _ _ (both_none _ _ (both_none _ _ (both_none _ _ (both_none _ _ few wide) keepers) zones) poses) spaces) halves

-- what is the first fault of the counts is the first fault
pub count_fault_first : (t : PlanTable) (f : PlanFault) → count_fault t ≡ Some f → plan_fault t ≡ Some f
count_fault_first t f e = rw e refl

pub no_plan_with_fault : (t : PlanTable) (f : PlanFault) → plan_fault t ≡ Some f → IsPlan t → ⊥
no_plan_with_fault t f e plan = let clash : None ≡ Some f = sym (no_fault_of_plan t plan) ∙ e in cc

-- where the rows fit, only the machines may be too many
or_none : (a : Option PlanFault) → (a or None) ≡ a
or_none None = refl
or_none (Some f) = refl

few_rows : (first : Option PlanFault) (zones poses places : Bool) → zones ≡ true → poses ≡ true → places ≡ true
    → first ≡ (first or unless zones TooManyZones or unless poses TooManyPoses or unless places TooManyPlaces)
few_rows first zones poses places z p k =
    rw (z, p, k) (sym (or_none (first or None or None) ∙ or_none (first or None) ∙ or_none first))

pub count_fault_of_sheet : (t : PlanTable) → FitsSheet t → unless (nat_le t.machines 30) TooManyMachines ≡ count_fault t
count_fault_of_sheet t fits =
    few_rows (unless (nat_le t.machines 30) TooManyMachines) _ _ _ (le-leb _ _ fits.zones) (le-leb _ _ fits.poses)
    (le-leb _ _ fits.places)

pub empty_is_plan : IsPlan (plan_table 0 [] [] [])
empty_is_plan = is_plan (plan_table 0 [] [] []) refl
