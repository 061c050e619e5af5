-- The fault that is found in tables is the first: none that comes before it is there.
use Rattle.std.proofs.Common.{◌≡◌, ◌⊎◌, inl, inr, ℕ, zero, suc, ◌-◌, ◌<◌, Bool, true, false, not, nat_eq, nat_lt, nat_le, Option, Some, None, refl, sym, subst, arith, ltb-true}
use Rattle.std.proofs.lemmas.Bool.{eqb-true, leb-true}
use Rattle.plan_types.specs.declared.fault.PlanFault.{PlanFault}
use Rattle.plan_types.specs.declared.fault.PlanFault.TheVariants.{TooManyMachines, TooManyZones, TooManyPoses, TooManyPlaces, TooWide, NoSuchKeeper, NoSuchHost, NoSuchGuest, HostIsGuest, InwardAstray, OutwardAstray, NoSuchMachine, ForeignZone, TwoHosts, GuestTwice, HalfSpace}
use Rattle.plan_types.specs.Below.{first_below, any_below}
use Rattle.plan_types.specs.Table.{PlanTable, zone_count, pose_count, place_count, word_width, zone_row, keeper_of, host_of, guest_of, machine_of, posture_of, is_hosted, space_of}
use Rattle.plan_types.specs.Plan.{leads, is_alike}
use Rattle.plan_types.specs.Faults.{◌or◌, unless, count_fault, width_fault, keeper_fault, zone_fault, pose_fault, is_foreign, foreign_fault, has_guest_of, space_fault, half_fault, halves_fault, plan_fault}
use Rattle.plan_types.specs.FaultLaws.{Says, part_of, row_of, rank_of}
use Rattle.plan_types.proofs.FaultTruth.{one_says, some_says}
use Rattle.plan_types.proofs.Rules.{between}
use Rattle.plan_types.proofs.lemmas.Below.{below_next, first_below_none}
use Rattle.plan_types.proofs.lemmas.Checked.{apart, both, both_true, holds, hosted, shared}

-- ---- what holds of the first fault of several

both_first : (P : PlanFault → Type 0) (a b : Option PlanFault) → ((f : PlanFault) → a ≡ Some f → P f) → (a ≡ None → (f : PlanFault) → b ≡ Some f → P f) → (f : PlanFault) → (a or b) ≡ Some f → P f
both_first P None b here there f e = there refl f e
both_first P (Some g) b here there f e = here f e

all_first : (P : PlanFault → Type 0) (g : ℕ → Option PlanFault) (n : ℕ) → ((k : ℕ) → ((j : ℕ) → j < k → g j ≡ None) → (f : PlanFault) → g k ≡ Some f → P f) → (f : PlanFault) → first_below g n ≡ Some f → P f
all_first P g zero first f e = cc
all_first P g (suc n) first f e = both_first P (first_below g n) (g n) (all_first P g n first) (λ none. first n (first_below_none g n none)) f e

-- a fault stands before a part, a row and a rank
abbrev pub Before : PlanFault → ℕ → ℕ → ℕ → Type 0
Before a part row rank = (part_of a < part) ⊎ (((part_of a ≡ part) × (row_of a < row)) ⊎ ((part_of a ≡ part) × (row_of a ≡ row) × (rank_of a < rank)))

module _ (t : PlanTable) where
  abbrev pub Absent : PlanFault → Type 0
  Absent f = ¬ Says t f

  -- no fault before these is there
  abbrev pub Clear : ℕ → ℕ → ℕ → Type 0
  Clear part row rank = (other : PlanFault) → Before other part row rank → Absent other

  abbrev pub Earliest : PlanFault → Type 0
  Earliest f = Clear (part_of f) (row_of f) (rank_of f)

  -- ---- from one to the next

  start : Clear 0 0 0
  start other (inl h) = absurd (omega (arith, h))
  start other (inr (inl h)) = absurd (omega (arith, h.1))
  start other (inr (inr h)) = absurd (omega (arith, h.2))

  by_part : (part : ℕ) (other : PlanFault) → Clear part 0 0 → (part_of other ≡ part → Absent other) → (part_of other < part) ⊎ (part_of other ≡ part) → Absent other
  by_part part other clear here (inl h) = clear other (inl h)
  by_part part other clear here (inr h) = here h

  next_part : (part : ℕ) → Clear part 0 0 → ((other : PlanFault) → part_of other ≡ part → Absent other) → Clear (suc part) 0 0
  next_part part clear here other (inl h) = by_part part other clear (here other) (below_next (part_of other) part h)
  next_part part clear here other (inr (inl h)) = absurd (omega (arith, h.1))
  next_part part clear here other (inr (inr h)) = absurd (omega (arith, h.2))

  at_row : (part row : ℕ) → Clear part 0 0 → ((other : PlanFault) → part_of other ≡ part → row_of other < row → Absent other) → Clear part row 0
  at_row part row clear here other (inl h) = clear other (inl h)
  at_row part row clear here other (inr (inl h)) = here other h.0 h.1
  at_row part row clear here other (inr (inr h)) = absurd (omega (arith, h.2))

  by_rank : (part row rank : ℕ) (other : PlanFault) → Clear part row rank → ((other : PlanFault) → part_of other ≡ part → row_of other ≡ row → rank_of other ≡ rank → Absent other) → part_of other ≡ part → row_of other ≡ row → (rank_of other < rank) ⊎ (rank_of other ≡ rank) → Absent other
  by_rank part row rank other clear here p r (inl h) = clear other (inr (inr (p, r, h)))
  by_rank part row rank other clear here p r (inr h) = here other p r h

  next_rank : (part row rank : ℕ) → Clear part row rank → ((other : PlanFault) → part_of other ≡ part → row_of other ≡ row → rank_of other ≡ rank → Absent other) → Clear part row (suc rank)
  next_rank part row rank clear here other (inl h) = clear other (inl h)
  next_rank part row rank clear here other (inr (inl h)) = clear other (inr (inl h))
  next_rank part row rank clear here other (inr (inr h)) = by_rank part row rank other clear here h.0 h.1 (below_next (rank_of other) rank h.2)

  -- ---- counts and width

  abbrev machines_test : Option PlanFault
  machines_test = unless (nat_le t.machines 30) TooManyMachines

  abbrev zones_test : Option PlanFault
  zones_test = unless (nat_le (zone_count t) 10) TooManyZones

  abbrev poses_test : Option PlanFault
  poses_test = unless (nat_le (pose_count t) 64) TooManyPoses

  abbrev places_test : Option PlanFault
  places_test = unless (nat_le (place_count t) 16) TooManyPlaces

  no_machines : machines_test ≡ None → (other : PlanFault) → part_of other ≡ 0 → Absent other
  no_machines none TooManyMachines p = λ says. omega (arith, leb-true _ _ (holds _ TooManyMachines none), says)
  no_machines none _ p = absurd (omega (arith, p))

  no_zones : zones_test ≡ None → (other : PlanFault) → part_of other ≡ 1 → Absent other
  no_zones none TooManyZones p = λ says. omega (arith, leb-true _ _ (holds _ TooManyZones none), says)
  no_zones none _ p = absurd (omega (arith, p))

  no_poses : poses_test ≡ None → (other : PlanFault) → part_of other ≡ 2 → Absent other
  no_poses none TooManyPoses p = λ says. omega (arith, leb-true _ _ (holds _ TooManyPoses none), says)
  no_poses none _ p = absurd (omega (arith, p))

  no_places : places_test ≡ None → (other : PlanFault) → part_of other ≡ 3 → Absent other
  no_places none TooManyPlaces p = λ says. omega (arith, leb-true _ _ (holds _ TooManyPlaces none), says)
  no_places none _ p = absurd (omega (arith, p))

  no_width : width_fault t ≡ None → (other : PlanFault) → part_of other ≡ 4 → Absent other
  no_width none (TooWide missing) p = λ says. omega (arith, leb-true _ _ (holds _ (TooWide (word_width t - 64)) none), says.0, says.1)
  no_width none _ p = absurd (omega (arith, p))

  past_machines : machines_test ≡ None → Clear 1 0 0
  past_machines none = next_part 0 start (no_machines none)

  past_zones : (machines_test or zones_test) ≡ None → Clear 2 0 0
  past_zones none = let h = both machines_test zones_test none in next_part 1 (past_machines h.0) (no_zones h.1)

  past_poses : (machines_test or zones_test or poses_test) ≡ None → Clear 3 0 0
  past_poses none = let h = both (machines_test or zones_test) poses_test none in next_part 2 (past_zones h.0) (no_poses h.1)

  past_counts : count_fault t ≡ None → Clear 4 0 0
  past_counts none = let h = both (machines_test or zones_test or poses_test) places_test none in next_part 3 (past_poses h.0) (no_places h.1)

  counts : (f : PlanFault) → count_fault t ≡ Some f → Earliest f
  counts =
      both_first Earliest (machines_test or zones_test or poses_test) places_test
      (both_first Earliest (machines_test or zones_test) poses_test
      (both_first Earliest machines_test zones_test
      (one_says Earliest (nat_le t.machines 30) TooManyMachines (λ _. start))
      (λ none. one_says Earliest (nat_le (zone_count t) 10) TooManyZones (λ _. past_machines none)))
      (λ none. one_says Earliest (nat_le (pose_count t) 64) TooManyPoses (λ _. past_zones none)))
      (λ none. one_says Earliest (nat_le (place_count t) 16) TooManyPlaces (λ _. past_poses none))

  width : count_fault t ≡ None → (f : PlanFault) → width_fault t ≡ Some f → Earliest f
  width none = one_says Earliest (nat_le (word_width t) 64) (TooWide (word_width t - 64)) (λ _. past_counts none)

  -- ---- places

  no_keeper : (other : PlanFault) → part_of other ≡ 5 → (row_of other < place_count t → keeper_fault t (row_of other) ≡ None) → Absent other
  no_keeper (NoSuchKeeper p) at none = λ says. omega (arith, ltb-true _ _ (holds _ (NoSuchKeeper p) (none says.0)), says.1)
  no_keeper _ at none = absurd (omega (arith, at))

  keeper : Clear 5 0 0 → (p : ℕ) → ((k : ℕ) → k < p → keeper_fault t k ≡ None) → (f : PlanFault) → keeper_fault t p ≡ Some f → Earliest f
  keeper clear p earlier = one_says Earliest (nat_lt (keeper_of t p) t.machines) (NoSuchKeeper p) (λ _. at_row 5 p clear (λ other at before. no_keeper other at (λ _. earlier (row_of other) before)))

  -- ---- zones

  abbrev host_test : ℕ → Option PlanFault
  host_test z = unless (nat_lt (host_of t z) t.machines) (NoSuchHost z)

  abbrev guest_test : ℕ → Option PlanFault
  guest_test z = unless (nat_lt (guest_of t z) t.machines) (NoSuchGuest z)

  abbrev two_test : ℕ → Option PlanFault
  two_test z = unless (not (nat_eq (host_of t z) (guest_of t z))) (HostIsGuest z)

  abbrev inward_test : ℕ → Option PlanFault
  inward_test z = unless (leads t (guest_of t z) (host_of t z) (zone_row t z).inward) (InwardAstray z)

  abbrev outward_test : ℕ → Option PlanFault
  outward_test z = unless (leads t (host_of t z) (guest_of t z) (zone_row t z).outward) (OutwardAstray z)

  no_host : (z : ℕ) → host_test z ≡ None → Absent (NoSuchHost z)
  no_host z none says = omega (arith, ltb-true _ _ (holds _ (NoSuchHost z) none), says.1)

  no_guest : (z : ℕ) → guest_test z ≡ None → Absent (NoSuchGuest z)
  no_guest z none says = omega (arith, ltb-true _ _ (holds _ (NoSuchGuest z) none), says.1)

  no_same : (z : ℕ) → two_test z ≡ None → Absent (HostIsGuest z)
  no_same z none says = apart _ _ (holds _ (HostIsGuest z) none) says.1

  no_inward : (z : ℕ) → inward_test z ≡ None → Absent (InwardAstray z)
  no_inward z none says = says.1 (between t _ _ _ (holds _ (InwardAstray z) none))

  no_outward : (z : ℕ) → outward_test z ≡ None → Absent (OutwardAstray z)
  no_outward z none says = says.1 (between t _ _ _ (holds _ (OutwardAstray z) none))

  zone_tests : (z : ℕ) → zone_fault t z ≡ None → (host_test z ≡ None) × (guest_test z ≡ None) × (two_test z ≡ None) × (inward_test z ≡ None) × (outward_test z ≡ None)
  zone_tests z none =
      let h4 = both (host_test z or guest_test z or two_test z or inward_test z) (outward_test z) none in
      let h3 = both (host_test z or guest_test z or two_test z) (inward_test z) h4.0 in
      let h2 = both (host_test z or guest_test z) (two_test z) h3.0 in
      let h1 = both (host_test z) (guest_test z) h2.0 in
      (h1.0, h1.1, h2.1, h3.1, h4.1)

  no_zone_fault : (other : PlanFault) → part_of other ≡ 6 → (row_of other < zone_count t → zone_fault t (row_of other) ≡ None) → Absent other
  no_zone_fault (NoSuchHost z) at none = λ says. no_host z (zone_tests z (none says.0)).0 says
  no_zone_fault (NoSuchGuest z) at none = λ says. no_guest z (zone_tests z (none says.0)).1 says
  no_zone_fault (HostIsGuest z) at none = λ says. no_same z (zone_tests z (none says.0)).2 says
  no_zone_fault (InwardAstray z) at none = λ says. no_inward z (zone_tests z (none says.0)).3 says
  no_zone_fault (OutwardAstray z) at none = λ says. no_outward z (zone_tests z (none says.0)).4 says
  no_zone_fault _ at none = absurd (omega (arith, at))

  at_host : (z : ℕ) → Absent (NoSuchHost z) → (other : PlanFault) → part_of other ≡ 6 → row_of other ≡ z → rank_of other ≡ 0 → Absent other
  at_host z none (NoSuchHost y) p r k = subst (λ x. Absent (NoSuchHost x)) (sym r) none
  at_host z none _ p r k = absurd (omega (arith, p, k))

  at_guest : (z : ℕ) → Absent (NoSuchGuest z) → (other : PlanFault) → part_of other ≡ 6 → row_of other ≡ z → rank_of other ≡ 1 → Absent other
  at_guest z none (NoSuchGuest y) p r k = subst (λ x. Absent (NoSuchGuest x)) (sym r) none
  at_guest z none (ForeignZone y x) p r k = absurd (omega (arith, p))
  at_guest z none _ p r k = absurd (omega (arith, p, k))

  at_same : (z : ℕ) → Absent (HostIsGuest z) → (other : PlanFault) → part_of other ≡ 6 → row_of other ≡ z → rank_of other ≡ 2 → Absent other
  at_same z none (HostIsGuest y) p r k = subst (λ x. Absent (HostIsGuest x)) (sym r) none
  at_same z none (ForeignZone y x) p r k = absurd (omega (arith, p))
  at_same z none _ p r k = absurd (omega (arith, p, k))

  at_inward : (z : ℕ) → Absent (InwardAstray z) → (other : PlanFault) → part_of other ≡ 6 → row_of other ≡ z → rank_of other ≡ 3 → Absent other
  at_inward z none (InwardAstray y) p r k = subst (λ x. Absent (InwardAstray x)) (sym r) none
  at_inward z none (ForeignZone y x) p r k = absurd (omega (arith, p))
  at_inward z none _ p r k = absurd (omega (arith, p, k))

  past_host : (z : ℕ) → Clear 6 z 0 → host_test z ≡ None → Clear 6 z 1
  past_host z clear none = next_rank 6 z 0 clear (at_host z (no_host z none))

  past_guest : (z : ℕ) → Clear 6 z 0 → (host_test z or guest_test z) ≡ None → Clear 6 z 2
  past_guest z clear none = let h = both (host_test z) (guest_test z) none in next_rank 6 z 1 (past_host z clear h.0) (at_guest z (no_guest z h.1))

  past_same : (z : ℕ) → Clear 6 z 0 → (host_test z or guest_test z or two_test z) ≡ None → Clear 6 z 3
  past_same z clear none = let h = both (host_test z or guest_test z) (two_test z) none in next_rank 6 z 2 (past_guest z clear h.0) (at_same z (no_same z h.1))

  past_inward : (z : ℕ) → Clear 6 z 0 → (host_test z or guest_test z or two_test z or inward_test z) ≡ None → Clear 6 z 4
  past_inward z clear none = let h = both (host_test z or guest_test z or two_test z) (inward_test z) none in next_rank 6 z 3 (past_same z clear h.0) (at_inward z (no_inward z h.1))

  row_of_zone : (z : ℕ) → Clear 6 z 0 → (f : PlanFault) → zone_fault t z ≡ Some f → Earliest f
  row_of_zone z clear =
      both_first Earliest (host_test z or guest_test z or two_test z or inward_test z) (outward_test z)
      (both_first Earliest (host_test z or guest_test z or two_test z) (inward_test z)
      (both_first Earliest (host_test z or guest_test z) (two_test z)
      (both_first Earliest (host_test z) (guest_test z)
      (one_says Earliest (nat_lt (host_of t z) t.machines) (NoSuchHost z) (λ _. clear))
      (λ none. one_says Earliest (nat_lt (guest_of t z) t.machines) (NoSuchGuest z) (λ _. past_host z clear none)))
      (λ none. one_says Earliest (not (nat_eq (host_of t z) (guest_of t z))) (HostIsGuest z) (λ _. past_guest z clear none)))
      (λ none. one_says Earliest (leads t (guest_of t z) (host_of t z) (zone_row t z).inward) (InwardAstray z) (λ _. past_same z clear none)))
      (λ none. one_says Earliest (leads t (host_of t z) (guest_of t z) (zone_row t z).outward) (OutwardAstray z) (λ _. past_inward z clear none))

  zone : Clear 6 0 0 → (z : ℕ) → ((k : ℕ) → k < z → zone_fault t k ≡ None) → (f : PlanFault) → zone_fault t z ≡ Some f → Earliest f
  zone clear z earlier = row_of_zone z (at_row 6 z clear (λ other at before. no_zone_fault other at (λ _. earlier (row_of other) before)))

  -- ---- poses

  abbrev machine_test : ℕ → Option PlanFault
  machine_test p = unless (nat_lt (machine_of t p) t.machines) (NoSuchMachine p)

  no_machine : (p : ℕ) → machine_test p ≡ None → Absent (NoSuchMachine p)
  no_machine p none says = omega (arith, ltb-true _ _ (holds _ (NoSuchMachine p) none), says.1)

  no_foreign_zone : (p z : ℕ) → foreign_fault t p z ≡ None → Absent (ForeignZone p z)
  no_foreign_zone p z none says =
      let own = both_true (nat_lt z (zone_count t)) (nat_eq (host_of t z) (machine_of t p))
      (hosted (posture_of t p z) (is_hosted t z (machine_of t p)) (ForeignZone p z) says.1.1 none says.1.2) in
      says.1.3 (ltb-true _ _ own.0, eqb-true _ _ own.1)

  no_pose_fault : (other : PlanFault) → part_of other ≡ 7 → (row_of other < pose_count t → pose_fault t (row_of other) ≡ None) → Absent other
  no_pose_fault (NoSuchMachine p) at none = λ says. no_machine p (both (machine_test p) (first_below (foreign_fault t p) 10) (none says.0)).0 says
  no_pose_fault (ForeignZone p z) at none = λ says.
      no_foreign_zone p z (first_below_none (foreign_fault t p) 10 (both (machine_test p) (first_below (foreign_fault t p) 10) (none says.0)).1 z says.1.0) says
  no_pose_fault _ at none = absurd (omega (arith, at))

  at_machine : (p : ℕ) → Absent (NoSuchMachine p) → (other : PlanFault) → part_of other ≡ 7 → row_of other ≡ p → rank_of other ≡ 0 → Absent other
  at_machine p none (NoSuchMachine q) a r k = subst (λ x. Absent (NoSuchMachine x)) (sym r) none
  at_machine p none _ a r k = absurd (omega (arith, a, k))

  at_foreign : (p z : ℕ) → Clear 7 p 1 → ((y : ℕ) → y < z → foreign_fault t p y ≡ None) → (other : PlanFault) → part_of other ≡ 7 → row_of other ≡ p → rank_of other < suc z → Absent other
  at_foreign p z clear earlier (NoSuchMachine q) a r k = clear (NoSuchMachine q) (inr (inr (a, r, omega arith)))
  at_foreign p z clear earlier (ForeignZone q y) a r k = subst (λ x. Absent (ForeignZone x y)) (sym r) (no_foreign_zone p y (earlier y (omega (arith, k))))
  at_foreign p z clear earlier _ a r k = absurd (omega (arith, a))

  past_zones_of : (p z : ℕ) → Clear 7 p 1 → ((y : ℕ) → y < z → foreign_fault t p y ≡ None) → Clear 7 p (suc z)
  past_zones_of p z clear earlier other (inl h) = clear other (inl h)
  past_zones_of p z clear earlier other (inr (inl h)) = clear other (inr (inl h))
  past_zones_of p z clear earlier other (inr (inr h)) = at_foreign p z clear earlier other h.0 h.1 h.2

  row_of_pose : (p : ℕ) → Clear 7 p 0 → (f : PlanFault) → pose_fault t p ≡ Some f → Earliest f
  row_of_pose p clear =
      both_first Earliest (machine_test p) (first_below (foreign_fault t p) 10)
      (one_says Earliest (nat_lt (machine_of t p) t.machines) (NoSuchMachine p) (λ _. clear))
      (λ none. all_first Earliest (foreign_fault t p) 10 (λ z earlier.
      some_says Earliest (is_foreign t p z) (ForeignZone p z) (λ _. past_zones_of p z (next_rank 7 p 0 clear (at_machine p (no_machine p none))) earlier)))

  pose : Clear 7 0 0 → (p : ℕ) → ((k : ℕ) → k < p → pose_fault t k ≡ None) → (f : PlanFault) → pose_fault t p ≡ Some f → Earliest f
  pose clear p earlier = row_of_pose p (at_row 7 p clear (λ other at before. no_pose_fault other at (λ _. earlier (row_of other) before)))

  -- ---- spaces

  abbrev hosts_test : ℕ → Option PlanFault
  hosts_test z = unless (nat_eq (host_of t (space_of t z)) (host_of t z)) (TwoHosts z)

  abbrev again_test : ℕ → Option PlanFault
  again_test z = unless (not (any_below (has_guest_of t z) z)) (GuestTwice z)

  no_two_hosts : (z : ℕ) → hosts_test z ≡ None → Absent (TwoHosts z)
  no_two_hosts z none says = says.1 (eqb-true _ _ (holds _ (TwoHosts z) none))

  no_guest_twice : (z : ℕ) → space_fault t z ≡ None → Absent (GuestTwice z)
  no_guest_twice z none says = (shared t z none).guests says.1.0 says.1.1 says.1.2 says.1.3

  no_space_fault : (other : PlanFault) → part_of other ≡ 8 → (row_of other < zone_count t → space_fault t (row_of other) ≡ None) → Absent other
  no_space_fault (TwoHosts z) at none = λ says. no_two_hosts z (both (hosts_test z) (again_test z) (none says.0)).0 says
  no_space_fault (GuestTwice z) at none = λ says. no_guest_twice z (none says.0) says
  no_space_fault _ at none = absurd (omega (arith, at))

  at_hosts : (z : ℕ) → Absent (TwoHosts z) → (other : PlanFault) → part_of other ≡ 8 → row_of other ≡ z → rank_of other ≡ 0 → Absent other
  at_hosts z none (TwoHosts y) p r k = subst (λ x. Absent (TwoHosts x)) (sym r) none
  at_hosts z none (GuestTwice y) p r k = absurd (omega (arith, k))
  at_hosts z none _ p r k = absurd (omega (arith, p))

  row_of_space : (z : ℕ) → Clear 8 z 0 → (f : PlanFault) → space_fault t z ≡ Some f → Earliest f
  row_of_space z clear =
      both_first Earliest (hosts_test z) (again_test z)
      (one_says Earliest (nat_eq (host_of t (space_of t z)) (host_of t z)) (TwoHosts z) (λ _. clear))
      (λ none. one_says Earliest (not (any_below (has_guest_of t z) z)) (GuestTwice z) (λ _. next_rank 8 z 0 clear (at_hosts z (no_two_hosts z none))))

  space : Clear 8 0 0 → (z : ℕ) → ((k : ℕ) → k < z → space_fault t k ≡ None) → (f : PlanFault) → space_fault t z ≡ Some f → Earliest f
  space clear z earlier = row_of_space z (at_row 8 z clear (λ other at before. no_space_fault other at (λ _. earlier (row_of other) before)))

  abbrev alike_test : ℕ → ℕ → Bool
  alike_test p z = is_alike (posture_of t p (space_of t z)) (posture_of t p z)

  no_half : (p z : ℕ) → half_fault t p z ≡ None → Absent (HalfSpace p z)
  no_half p z none says = let alike : alike_test p z ≡ true = holds _ (HalfSpace p z) none in let not : alike_test p z ≡ false = says.1.1 in cc

  no_halves_fault : (other : PlanFault) → part_of other ≡ 9 → (row_of other < pose_count t → halves_fault t (row_of other) ≡ None) → Absent other
  no_halves_fault (HalfSpace p z) at none = λ says. no_half p z (first_below_none (half_fault t p) (zone_count t) (none says.0) z says.1.0) says
  no_halves_fault _ at none = absurd (omega (arith, at))

  at_half : (p z : ℕ) → Clear 9 p 0 → ((y : ℕ) → y < z → half_fault t p y ≡ None) → (other : PlanFault) → part_of other ≡ 9 → row_of other ≡ p → rank_of other < z → Absent other
  at_half p z clear earlier (HalfSpace q y) a r k = subst (λ x. Absent (HalfSpace x y)) (sym r) (no_half p y (earlier y k))
  at_half p z clear earlier _ a r k = absurd (omega (arith, a))

  past_halves_of : (p z : ℕ) → Clear 9 p 0 → ((y : ℕ) → y < z → half_fault t p y ≡ None) → Clear 9 p z
  past_halves_of p z clear earlier other (inl h) = clear other (inl h)
  past_halves_of p z clear earlier other (inr (inl h)) = clear other (inr (inl h))
  past_halves_of p z clear earlier other (inr (inr h)) = at_half p z clear earlier other h.0 h.1 h.2

  half : Clear 9 0 0 → (p : ℕ) → ((k : ℕ) → k < p → halves_fault t k ≡ None) → (f : PlanFault) → halves_fault t p ≡ Some f → Earliest f
  half clear p earlier =
      let here = at_row 9 p clear (λ other at before. no_halves_fault other at (λ _. earlier (row_of other) before)) in
      all_first Earliest (half_fault t p) (zone_count t) (λ z before.
      one_says Earliest (alike_test p z) (HalfSpace p z) (λ _. past_halves_of p z here before))

  -- ---- one part after another

  abbrev keepers : Option PlanFault
  keepers = first_below (keeper_fault t) (place_count t)

  abbrev zones : Option PlanFault
  zones = first_below (zone_fault t) (zone_count t)

  past_width : (count_fault t or width_fault t) ≡ None → Clear 5 0 0
  past_width none = let h = both (count_fault t) (width_fault t) none in next_part 4 (past_counts h.0) (no_width h.1)

  past_keepers : (count_fault t or width_fault t or keepers) ≡ None → Clear 6 0 0
  past_keepers none =
      let h = both (count_fault t or width_fault t) keepers none in
      next_part 5 (past_width h.0) (λ other at. no_keeper other at (first_below_none (keeper_fault t) (place_count t) h.1 (row_of other)))

  past_all_zones : (count_fault t or width_fault t or keepers or zones) ≡ None → Clear 7 0 0
  past_all_zones none =
      let h = both (count_fault t or width_fault t or keepers) zones none in
      next_part 6 (past_keepers h.0) (λ other at. no_zone_fault other at (first_below_none (zone_fault t) (zone_count t) h.1 (row_of other)))

  abbrev poses : Option PlanFault
  poses = first_below (pose_fault t) (pose_count t)

  abbrev spaces : Option PlanFault
  spaces = first_below (space_fault t) (zone_count t)

  past_poses_of_all : (count_fault t or width_fault t or keepers or zones or poses) ≡ None → Clear 8 0 0
  past_poses_of_all none =
      let h = both (count_fault t or width_fault t or keepers or zones) poses none in
      next_part 7 (past_all_zones h.0) (λ other at. no_pose_fault other at (first_below_none (pose_fault t) (pose_count t) h.1 (row_of other)))

  past_spaces : (count_fault t or width_fault t or keepers or zones or poses or spaces) ≡ None → Clear 9 0 0
  past_spaces none =
      let h = both (count_fault t or width_fault t or keepers or zones or poses) spaces none in
      next_part 8 (past_poses_of_all h.0) (λ other at. no_space_fault other at (first_below_none (space_fault t) (zone_count t) h.1 (row_of other)))

  pub first_told : (f : PlanFault) → plan_fault t ≡ Some f → Earliest f
  first_told =
      both_first Earliest (count_fault t or width_fault t or keepers or zones or poses or spaces) (first_below (halves_fault t) (pose_count t))
      (both_first Earliest (count_fault t or width_fault t or keepers or zones or poses) spaces
      (both_first Earliest (count_fault t or width_fault t or keepers or zones) poses
      (both_first Earliest (count_fault t or width_fault t or keepers) zones
      (both_first Earliest (count_fault t or width_fault t) keepers
      (both_first Earliest (count_fault t) (width_fault t) counts width)
      (λ none. all_first Earliest (keeper_fault t) (place_count t) (keeper (past_width none))))
      (λ none. all_first Earliest (zone_fault t) (zone_count t) (zone (past_keepers none))))
      (λ none. all_first Earliest (pose_fault t) (pose_count t) (pose (past_all_zones none))))
      (λ none. all_first Earliest (space_fault t) (zone_count t) (space (past_poses_of_all none))))
      (λ none. all_first Earliest (halves_fault t) (pose_count t) (half (past_spaces none)))
