-- A fault that is found in tables is there.
use Rattle.std.proofs.Common.{◌≡◌, ℕ, zero, suc, ◌-◌, ◌<◌, ◌≤◌, Bool, true, false, not, nat_eq, nat_lt, nat_le, Option, Some, None, is_some, refl, subst, arith, inl, inr, eq-eqb}
use Rattle.std.specs.Bool.{then_some}
use Rattle.std.proofs.lemmas.Bool.{cases_lt, eqb-true, lt-ltb, le-leb}
use Rattle.std.specs.Cmp.{first_so, second_so}
use Rattle.plan_types.specs.declared.posture.Posture.{Posture}
use Rattle.plan_types.specs.declared.fault.PlanFault.{PlanFault}
use Rattle.plan_types.specs.declared.fault.PlanFault.TheVariants.{TooManyMachines, TooManyZones, TooManyPoses, TooManyPlaces, TooWide, NoSuchKeeper, NoSuchHost, NoSuchGuest, HostIsGuest, InwardAstray, OutwardAstray, NoSuchMachine, ForeignZone, TwoHosts, GuestTwice, HalfSpace}
use Rattle.plan_types.specs.declared.table.Way.{Way}
use Rattle.plan_types.specs.Below.{first_below, any_below}
use Rattle.plan_types.specs.Table.{PlanTable, zone_count, pose_count, place_count, word_width, zone_row, keeper_of, host_of, guest_of, machine_of, posture_of, is_hosted, space_of}
use Rattle.plan_types.specs.Plan.{leads, is_alike}
use Rattle.plan_types.specs.TableLaws.{GoesBetween}
use Rattle.plan_types.specs.Faults.{◌or◌, unless, count_fault, width_fault, keeper_fault, zone_fault, pose_fault, is_foreign, foreign_fault, has_guest_of, space_fault, half_fault, halves_fault}
use Rattle.plan_types.specs.FaultLaws.{Says, FaultsAreTrue}
use Rattle.plan_types.proofs.Rules.{leads_on}
use Rattle.plan_types.proofs.Shapes.{any_found}

-- ---- what holds of the first fault of several

both_say : (P : PlanFault → Type 0) (a b : Option PlanFault) → ((f : PlanFault) → a ≡ Some f → P f) → ((f : PlanFault) → b ≡ Some f → P f) → (f : PlanFault) → (a or b) ≡ Some f → P f
both_say P None b here there f e = there f e
both_say P (Some g) b here there f e = here f e

pub some_says : (P : PlanFault → Type 0) (b : Bool) (g : PlanFault) → (b ≡ true → P g) → (f : PlanFault) → then_some b g ≡ Some f → P f
some_says P true g says f e = let same : g ≡ f = cc in subst P same (says refl)
some_says P false g says f e = cc

pub one_says : (P : PlanFault → Type 0) (b : Bool) (g : PlanFault) → (b ≡ false → P g) → (f : PlanFault) → unless b g ≡ Some f → P f
one_says P true g says f e = cc
one_says P false g says f e = let same : g ≡ f = cc in subst P same (says refl)

all_say : (P : PlanFault → Type 0) (g : ℕ → Option PlanFault) (n : ℕ) → ((k : ℕ) → k < n → (f : PlanFault) → g k ≡ Some f → P f) → (f : PlanFault) → first_below g n ≡ Some f → P f
all_say P g zero says f e = cc
all_say P g (suc n) says f e = both_say P (first_below g n) (g n) (all_say P g n (λ k l. says k (omega arith))) (says n (omega arith)) f e

-- ---- numbers and postures

not_below : (a b : ℕ) → nat_lt a b ≡ false → b ≤ a
not_below a b fails = elim (cases_lt a b) [ inl h ↦ absurd (let holds : nat_lt a b ≡ true = lt-ltb a b h in cc) | inr h ↦ omega arith ]

more : (a b : ℕ) → nat_le a b ≡ false → b < a
more a b fails = elim (cases_lt b a) [ inl h ↦ h | inr h ↦ absurd (let holds : nat_le a b ≡ true = le-leb a b (omega arith) in cc) ]

is_not : (b : Bool) → not b ≡ true → b ≡ false
is_not true e = cc
is_not false e = refl

is_so : (b : Bool) → not b ≡ false → b ≡ true
is_so true e = refl
is_so false e = cc

given : (o : Option Posture) → is_some o ≡ true → (q : Posture) × (o ≡ Some q)
given None e = cc
given (Some q) e = (q, refl)

astray : (t : PlanTable) (giver receiver : ℕ) (w : Option Way) → leads t giver receiver w ≡ false → ¬ GoesBetween t giver receiver w
astray t giver receiver w fails goes = let holds : leads t giver receiver w ≡ true = leads_on t giver receiver w goes in cc

-- ---- each kind

module _ (t : PlanTable) where
  counts : (f : PlanFault) → count_fault t ≡ Some f → Says t f
  counts =
      let a = unless (nat_le t.machines 30) TooManyMachines in
      let b = unless (nat_le (zone_count t) 10) TooManyZones in
      let c = unless (nat_le (pose_count t) 64) TooManyPoses in
      let d = unless (nat_le (place_count t) 16) TooManyPlaces in
      both_say (Says t) (a or b or c) d
      (both_say (Says t) (a or b) c
      (both_say (Says t) a b (one_says (Says t) (nat_le t.machines 30) TooManyMachines (more t.machines 30)) (one_says (Says t) (nat_le (zone_count t) 10) TooManyZones (more (zone_count t) 10)))
      (one_says (Says t) (nat_le (pose_count t) 64) TooManyPoses (more (pose_count t) 64)))
      (one_says (Says t) (nat_le (place_count t) 16) TooManyPlaces (more (place_count t) 16))

  width : (f : PlanFault) → width_fault t ≡ Some f → Says t f
  width = some_says (Says t) (not (nat_le (word_width t) 64)) (TooWide (word_width t - 64)) (λ wide. let over : 64 < word_width t = more (word_width t) 64 (is_not (nat_le (word_width t) 64) wide) in (omega (arith, over), omega (arith, over)))

  keeper : (p : ℕ) → p < place_count t → (f : PlanFault) → keeper_fault t p ≡ Some f → Says t f
  keeper p l = one_says (Says t) (nat_lt (keeper_of t p) t.machines) (NoSuchKeeper p) (λ no. (l, not_below (keeper_of t p) t.machines no))

  zone : (z : ℕ) → z < zone_count t → (f : PlanFault) → zone_fault t z ≡ Some f → Says t f
  zone z l =
      let host = host_of t z in
      let guest = guest_of t z in
      let inward = (zone_row t z).inward in
      let outward = (zone_row t z).outward in
      let a = unless (nat_lt host t.machines) (NoSuchHost z) in
      let b = unless (nat_lt guest t.machines) (NoSuchGuest z) in
      let c = unless (not (nat_eq host guest)) (HostIsGuest z) in
      let d = unless (leads t guest host inward) (InwardAstray z) in
      let e = unless (leads t host guest outward) (OutwardAstray z) in
      both_say (Says t) (a or b or c or d) e
      (both_say (Says t) (a or b or c) d
      (both_say (Says t) (a or b) c
      (both_say (Says t) a b (one_says (Says t) (nat_lt host t.machines) (NoSuchHost z) (λ no. (l, not_below host t.machines no))) (one_says (Says t) (nat_lt guest t.machines) (NoSuchGuest z) (λ no. (l, not_below guest t.machines no))))
      (one_says (Says t) (not (nat_eq host guest)) (HostIsGuest z) (λ no. (l, eqb-true host guest (is_so (nat_eq host guest) no)))))
      (one_says (Says t) (leads t guest host inward) (InwardAstray z) (λ no. (l, astray t guest host inward no))))
      (one_says (Says t) (leads t host guest outward) (OutwardAstray z) (λ no. (l, astray t host guest outward no)))

  foreign : (p z : ℕ) → p < pose_count t → z < 10 → (f : PlanFault) → foreign_fault t p z ≡ Some f → Says t f
  foreign p z l few = some_says (Says t) (is_foreign t p z) (ForeignZone p z) (λ yes.
      let gives = is_some (posture_of t p z) in
      let hosted = is_hosted t z (machine_of t p) in
      let q = given (posture_of t p z) (first_so gives (not hosted) yes) in
      let no = is_not hosted (second_so gives (not hosted) yes) in
      (l, (few, q.0, q.1, λ k. let own : hosted ≡ true = rw (lt-ltb z (zone_count t) k.0, eq-eqb (host_of t z) (machine_of t p) k.1) refl in cc)))

  pose : (p : ℕ) → p < pose_count t → (f : PlanFault) → pose_fault t p ≡ Some f → Says t f
  pose p l =
      both_say (Says t) (unless (nat_lt (machine_of t p) t.machines) (NoSuchMachine p)) (first_below (foreign_fault t p) 10)
      (one_says (Says t) (nat_lt (machine_of t p) t.machines) (NoSuchMachine p) (λ no. (l, not_below (machine_of t p) t.machines no)))
      (all_say (Says t) (foreign_fault t p) 10 (λ z few. foreign p z l few))

  space : (z : ℕ) → z < zone_count t → (f : PlanFault) → space_fault t z ≡ Some f → Says t f
  space z l =
      let first = host_of t (space_of t z) in
      let again = any_below (has_guest_of t z) z in
      both_say (Says t) (unless (nat_eq first (host_of t z)) (TwoHosts z)) (unless (not again) (GuestTwice z))
      (one_says (Says t) (nat_eq first (host_of t z)) (TwoHosts z) (λ no. (l, λ same. let yes : nat_eq first (host_of t z) ≡ true = eq-eqb _ _ same in cc)))
      (one_says (Says t) (not again) (GuestTwice z) (λ no.
      let found = any_found (has_guest_of t z) z (is_so again no) in
      let same = nat_eq (space_of t found.0) (space_of t z) in
      let guest = nat_eq (guest_of t found.0) (guest_of t z) in
      (l, (found.0, found.1, eqb-true _ _ (first_so same guest found.2), eqb-true _ _ (second_so same guest found.2)))))

  halves : (p : ℕ) → p < pose_count t → (f : PlanFault) → halves_fault t p ≡ Some f → Says t f
  halves p l =
      all_say (Says t) (half_fault t p) (zone_count t)
      (λ z m. one_says (Says t) (is_alike (posture_of t p (space_of t z)) (posture_of t p z)) (HalfSpace p z) (λ no. (l, (m, no))))

pub faults_are_true : FaultsAreTrue
faults_are_true t =
    let c = count_fault t in
    let w = width_fault t in
    let k = first_below (keeper_fault t) (place_count t) in
    let z = first_below (zone_fault t) (zone_count t) in
    let p = first_below (pose_fault t) (pose_count t) in
    let s = first_below (space_fault t) (zone_count t) in
    let h = first_below (halves_fault t) (pose_count t) in
    both_say (Says t) (c or w or k or z or p or s) h
    (both_say (Says t) (c or w or k or z or p) s
    (both_say (Says t) (c or w or k or z) p
    (both_say (Says t) (c or w or k) z
    (both_say (Says t) (c or w) k
    (both_say (Says t) c w (counts t) (width t))
    (all_say (Says t) (keeper_fault t) (place_count t) (keeper t)))
    (all_say (Says t) (zone_fault t) (zone_count t) (zone t)))
    (all_say (Says t) (pose_fault t) (pose_count t) (pose t)))
    (all_say (Says t) (space_fault t) (zone_count t) (space t)))
    (all_say (Says t) (halves_fault t) (pose_count t) (halves t))
