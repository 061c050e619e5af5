-- The rows of the cell's motors need what its plant demands.
use Rattle.std.proofs.Common.{◌≡◌, ◌↔◌, ◌⊎◌, inl, inr, ℕ, zero, suc, ◌<◌, Bool, true, false, ◌&&◌, not, nat_eq, get_or, replicate, Option, Some, None, refl, sym, ap, ◌∙◌, subst, arith, IsTrue}
use Rattle.std.specs.Prelude.{option_map}
use Rattle.std.proofs.lemmas.Bool.{and_parts}
use Rattle.cell_rules.specs.Types.{Machine, Feed, Table, Robot, Press, Deposit, Crane, Watch, Z1, Z2, Z3, Z4, Z5, Z6}
use Rattle.cell_rules.specs.Types.{Posture, Closed, Moving, OpenIn, OpenOut, FeedEnd}
use Rattle.cell_types.specs.Same.{same_machine, same_posture, one_posture}
use Rattle.cell_rules.specs.declared.zones.ZoneState.{ZoneState}
use Rattle.cell_rules.specs.ModelState.{ModelState, zone_at, is_full}
use Rattle.cell_rules.specs.Sound.{is_owned_by}
use Rattle.cell_parts.specs.declared.plant.PlantState.{PlantState}
use Rattle.cell_parts.specs.PositionDemands.{HoldsIn}
use Rattle.cell_parts.specs.MotorDemands.{GripperErrand, ForTravel, AtDeposit, AtFeed, GripperMotorDemands}
use Rattle.cell_parts.specs.Collisions.{IsOn}
use Rattle.plan_types.specs.declared.posture.Posture.TheVariants.{Moving as IsMoving, OpenIn as IsOpenIn, OpenOut as IsOpenOut}
use Rattle.plan_types.specs.Same.{same_posture as plan_same_posture}
use Rattle.plan_rules.specs.declared.state.State.{State as PlanState}
use Rattle.plan_rules.specs.State.{zone_at as plan_zone_at, is_full as plan_is_full}
use Rattle.plan_rules.specs.Sound.{is_owned_by as plan_is_owned_by}
use Rattle.plan_cell.specs.CellPlan.{cell_table}
use Rattle.plan_cell.specs.Numbers.{machine_number, plan_posture}
use Rattle.plan_cell.specs.Mapping.{plan_zone, plan_state}
use Rattle.plan_motors.specs.declared.motor.ZoneNeed.{ZoneNeed}
use Rattle.plan_motors.specs.Motor.{need_of, place_need, meets, meets_place, Permits}
use Rattle.plan_cell_motors.specs.CellMotors.{held, owned, uses, needs, none}
use Rattle.plan_cell_motors.specs.Demands.{IsPermitted, errand_row, RowsSayDemands}

-- ---- names that are the same
each_machine : (P : Machine → Type 0) → P Feed → P Table → P Robot → P Press → P Deposit → P Crane → P Watch → (m : Machine) → P m
each_machine P a _ _ _ _ _ _ Feed = a
each_machine P _ a _ _ _ _ _ Table = a
each_machine P _ _ a _ _ _ _ Robot = a
each_machine P _ _ _ a _ _ _ Press = a
each_machine P _ _ _ _ a _ _ Deposit = a
each_machine P _ _ _ _ _ a _ Crane = a
each_machine P _ _ _ _ _ _ a Watch = a

each_posture : (P : Posture → Type 0) → P Closed → P Moving → P OpenIn → P OpenOut → (q : Posture) → P q
each_posture P a _ _ _ Closed = a
each_posture P _ a _ _ Moving = a
each_posture P _ _ a _ OpenIn = a
each_posture P _ _ _ a OpenOut = a

same_numbers : (a b : Machine) → nat_eq (machine_number a) (machine_number b) ≡ same_machine a b
same_numbers =
    let At : Machine → Machine → Type 0 = λ a b. nat_eq (machine_number a) (machine_number b) ≡ same_machine a b in
    each_machine (λ a. (b : Machine) → At a b)
    (each_machine (At Feed) refl refl refl refl refl refl refl)
    (each_machine (At Table) refl refl refl refl refl refl refl)
    (each_machine (At Robot) refl refl refl refl refl refl refl)
    (each_machine (At Press) refl refl refl refl refl refl refl)
    (each_machine (At Deposit) refl refl refl refl refl refl refl)
    (each_machine (At Crane) refl refl refl refl refl refl refl)
    (each_machine (At Watch) refl refl refl refl refl refl refl)

same_postures : (a b : Posture) → plan_same_posture (plan_posture a) (plan_posture b) ≡ same_posture a b
same_postures =
    let At : Posture → Posture → Type 0 = λ a b. plan_same_posture (plan_posture a) (plan_posture b) ≡ same_posture a b in
    each_posture (λ a. (b : Posture) → At a b)
    (each_posture (At Closed) refl refl refl refl)
    (each_posture (At Moving) refl refl refl refl)
    (each_posture (At OpenIn) refl refl refl refl)
    (each_posture (At OpenOut) refl refl refl refl)

same_self : (q : Posture) → same_posture q q ≡ true
same_self = each_posture (λ q. same_posture q q ≡ true) refl refl refl refl

owned_alike : (o : Option Machine) (m : Machine) → plan_is_owned_by (option_map machine_number o) (machine_number m) ≡ is_owned_by o m
owned_alike None m = refl
owned_alike (Some o) m = same_numbers o m

-- ---- a zone that a machine holds
both : (a b : Bool) → a ≡ true → b ≡ true → (a && b) ≡ true
both true b e f = f
both false b e f = e

to_held : (m : Machine) (v : ZoneState) (q : Posture) → (is_owned_by v.owner m ≡ true) × (v.posture ≡ q) → meets (machine_number m) (held (plan_posture q)) (plan_zone v) ≡ true
to_held m v q e =
    both _ _ (owned_alike v.owner m ∙ e.0) (same_postures v.posture q ∙ ap (λ p. same_posture p q) e.1 ∙ same_self q)

of_held : (m : Machine) (v : ZoneState) (q : Posture) → meets (machine_number m) (held (plan_posture q)) (plan_zone v) ≡ true → (is_owned_by v.owner m ≡ true) × (v.posture ≡ q)
of_held m v q e =
    let parts = and_parts (plan_is_owned_by (option_map machine_number v.owner) (machine_number m)) (plan_same_posture (plan_posture v.posture) (plan_posture q)) e in
    (sym (owned_alike v.owner m) ∙ parts.0, one_posture v.posture q (sym (same_postures v.posture q) ∙ parts.1))

to_owned : (m : Machine) (v : ZoneState) → is_owned_by v.owner m ≡ true → meets (machine_number m) owned (plan_zone v) ≡ true
to_owned m v e = both _ _ (owned_alike v.owner m ∙ e) refl

of_owned : (m : Machine) (v : ZoneState) → meets (machine_number m) owned (plan_zone v) ≡ true → is_owned_by v.owner m ≡ true
of_owned m v e = sym (owned_alike v.owner m) ∙ (and_parts (plan_is_owned_by (option_map machine_number v.owner) (machine_number m)) true e).0

-- ---- a row
abbrev nothing : Option Bool
nothing = None

none_there : (n p : ℕ) → get_or (replicate n nothing) p nothing ≡ nothing
none_there zero p = refl
none_there (suc n) zero = refl
none_there (suc n) (suc p) = none_there n p

row : (s : PlanState) (m : ℕ) (a b c d e f : ZoneNeed) (g : Option Bool)
    → meets m a (plan_zone_at s 0) ≡ true → meets m b (plan_zone_at s 1) ≡ true → meets m c (plan_zone_at s 2) ≡ true → meets m d (plan_zone_at s 3) ≡ true
    → meets m e (plan_zone_at s 4) ≡ true → meets m f (plan_zone_at s 5) ≡ true → meets_place g (plan_is_full s 1) ≡ true
    → Permits cell_table s (uses m (needs a b c d e f) g)
row s m a b c d e f g u v w x y z h = record { zones = zones; places = places }
  where
    zones : (k : ℕ) → k < 6 → IsTrue (meets m (need_of (uses m (needs a b c d e f) g) k) (plan_zone_at s k))
    zones zero l = u
    zones (suc zero) l = v
    zones (suc (suc zero)) l = w
    zones (suc (suc (suc zero))) l = x
    zones (suc (suc (suc (suc zero)))) l = y
    zones (suc (suc (suc (suc (suc zero))))) l = z
    zones (suc (suc (suc (suc (suc (suc k)))))) l = absurd (omega arith)

    places : (k : ℕ) → k < 10 → IsTrue (meets_place (place_need (uses m (needs a b c d e f) g) k) (plan_is_full s k))
    places zero l = refl
    places (suc zero) l = h
    places (suc (suc k)) l = subst (λ n. IsTrue (meets_place n (plan_is_full s (suc (suc k))))) (sym (none_there 14 k)) refl

-- ---- each row
to_press : (s : ModelState) → HoldsIn Moving s Press Z3 → IsPermitted s 0
to_press s h = row (plan_state s) 3 none none (held IsMoving) none none none None refl refl (to_held Press (zone_at s Z3) Moving h) refl refl refl refl

to_table : (s : ModelState) → HoldsIn Moving s Table Z1 × HoldsIn Moving s Table Z2 → IsPermitted s 1
to_table s h = row (plan_state s) 1 (held IsMoving) (held IsMoving) none none none none None (to_held Table (zone_at s Z1) Moving h.0) (to_held Table (zone_at s Z2) Moving h.1) refl refl refl refl refl

to_deposit : (s : ModelState) → HoldsIn Moving s Deposit Z4 × HoldsIn Moving s Deposit Z5 → IsPermitted s 5
to_deposit s h = row (plan_state s) 4 none none none (held IsMoving) (held IsMoving) none None refl refl refl (to_held Deposit (zone_at s Z4) Moving h.0) (to_held Deposit (zone_at s Z5) Moving h.1) refl refl

to_feed : (s : ModelState) (full : Bool) → is_full s FeedEnd ≡ full → HoldsIn Moving s Feed Z6 × (IsTrue (is_full s FeedEnd) → is_owned_by (zone_at s Z1).owner Feed ≡ true) → IsPermitted s 3 ⊎ IsPermitted s 4
to_feed s false e h = inl (row (plan_state s) 0 none none none none none (held IsMoving) (Some false) refl refl refl refl refl (to_held Feed (zone_at s Z6) Moving h.0) (ap not e))
to_feed s true e h = inr (row (plan_state s) 0 owned none none none none (held IsMoving) None (to_owned Feed (zone_at s Z1) (h.1 e)) refl refl refl refl (to_held Feed (zone_at s Z6) Moving h.0) refl)

empty_end : {A : Type 0} (full : Bool) → not full ≡ true → full ≡ true → A
empty_end true e f = cc
empty_end false e f = cc

of_feed : (s : ModelState) → IsPermitted s 3 ⊎ IsPermitted s 4 → HoldsIn Moving s Feed Z6 × (IsTrue (is_full s FeedEnd) → is_owned_by (zone_at s Z1).owner Feed ≡ true)
of_feed s (inl x) = (of_held Feed (zone_at s Z6) Moving (x.zones 5 (omega arith)), λ full. empty_end (is_full s FeedEnd) (x.places 1 (omega arith)) full)
of_feed s (inr x) = (of_held Feed (zone_at s Z6) Moving (x.zones 5 (omega arith)), λ full. of_owned Feed (zone_at s Z1) (x.zones 0 (omega arith)))

to_arm1_table : (s : ModelState) → HoldsIn OpenOut s Robot Z2 → IsPermitted s 6
to_arm1_table s h = row (plan_state s) 2 none (held IsOpenOut) none none none none None refl (to_held Robot (zone_at s Z2) OpenOut h) refl refl refl refl refl

to_arm1_press : (s : ModelState) → HoldsIn OpenIn s Robot Z3 → IsPermitted s 7
to_arm1_press s h = row (plan_state s) 2 none none (held IsOpenIn) none none none None refl refl (to_held Robot (zone_at s Z3) OpenIn h) refl refl refl refl

to_arm2_press : (s : ModelState) → HoldsIn OpenOut s Robot Z3 → IsPermitted s 8
to_arm2_press s h = row (plan_state s) 2 none none (held IsOpenOut) none none none None refl refl (to_held Robot (zone_at s Z3) OpenOut h) refl refl refl refl

to_arm2_deposit : (s : ModelState) → HoldsIn OpenIn s Robot Z4 → IsPermitted s 9
to_arm2_deposit s h = row (plan_state s) 2 none none none (held IsOpenIn) none none None refl refl refl (to_held Robot (zone_at s Z4) OpenIn h) refl refl refl

to_gripper_deposit : (s : ModelState) → HoldsIn OpenOut s Crane Z5 → IsPermitted s 11
to_gripper_deposit s h = row (plan_state s) 5 none none none none (held IsOpenOut) none None refl refl refl refl (to_held Crane (zone_at s Z5) OpenOut h) refl refl

to_gripper_feed : (s : ModelState) → HoldsIn OpenIn s Crane Z6 → IsPermitted s 12
to_gripper_feed s h = row (plan_state s) 5 none none none none none (held IsOpenIn) None refl refl refl refl refl (to_held Crane (zone_at s Z6) OpenIn h) refl

to_travel : (s : ModelState) → IsPermitted s 13
to_travel s = row (plan_state s) 5 none none none none none none None refl refl refl refl refl refl refl

-- two places where a part may be, each with its zone
either : {A B C D E F : Type 0} → (B → E) → (D → F) → (A × B) ⊎ (C × D) → (A × E) ⊎ (C × F)
either f g (inl x) = inl (x.0, f x.1)
either f g (inr x) = inr (x.0, g x.1)

gripper_driven : (errand : GripperErrand) (s : ModelState) (p : PlantState) → GripperMotorDemands errand s p ↔ (IsOn p.crane.gripper → IsPermitted s (errand_row errand))
gripper_driven ForTravel s p = (λ k on. to_travel s, λ k on. tt)
gripper_driven AtDeposit s p = (λ k on. to_gripper_deposit s (k on), λ k on. of_held Crane (zone_at s Z5) OpenOut ((k on).zones 4 (omega arith)))
gripper_driven AtFeed s p = (λ k on. to_gripper_feed s (k on), λ k on. of_held Crane (zone_at s Z6) OpenIn ((k on).zones 5 (omega arith)))

pub by_rows : RowsSayDemands
by_rows errand s p =
    let arm1_table = λ (x : IsPermitted s 6). of_held Robot (zone_at s Z2) OpenOut (x.zones 1 (omega arith)) in
    let arm1_press = λ (x : IsPermitted s 7). of_held Robot (zone_at s Z3) OpenIn (x.zones 2 (omega arith)) in
    let arm2_press = λ (x : IsPermitted s 8). of_held Robot (zone_at s Z3) OpenOut (x.zones 2 (omega arith)) in
    let arm2_deposit = λ (x : IsPermitted s 9). of_held Robot (zone_at s Z4) OpenIn (x.zones 3 (omega arith)) in
    let gripper_deposit = λ (x : IsPermitted s 11). of_held Crane (zone_at s Z5) OpenOut (x.zones 4 (omega arith)) in
    let gripper_feed = λ (x : IsPermitted s 12). of_held Crane (zone_at s Z6) OpenIn (x.zones 5 (omega arith)) in
    record {
      press = (λ k on. to_press s (k on), λ k on. of_held Press (zone_at s Z3) Moving ((k on).zones 2 (omega arith)));
      table = (
        λ k on. (to_table s (k on), to_table s (k on)),
        λ k on. (of_held Table (zone_at s Z1) Moving ((k on).0.zones 0 (omega arith)), of_held Table (zone_at s Z2) Moving ((k on).0.zones 1 (omega arith))),
      );
      feed = (λ k on. to_feed s (is_full s FeedEnd) refl (k on), λ k on. of_feed s (k on));
      deposit = (
        λ k on. to_deposit s (k on),
        λ k on. (of_held Deposit (zone_at s Z4) Moving ((k on).zones 3 (omega arith)), of_held Deposit (zone_at s Z5) Moving ((k on).zones 4 (omega arith))),
      );
      arm1 = (λ k on. either (to_arm1_table s) (to_arm1_press s) (k on), λ k on. either arm1_table arm1_press (k on));
      arm2 = (λ k on. either (to_arm2_press s) (to_arm2_deposit s) (k on), λ k on. either arm2_press arm2_deposit (k on));
      gripper = gripper_driven errand s p;
      arm1_out = (λ k on. either (to_arm1_table s) (to_arm1_press s) (k on), λ k on. either arm1_table arm1_press (k on));
      arm2_out = (λ k on. either (to_arm2_press s) (to_arm2_deposit s) (k on), λ k on. either arm2_press arm2_deposit (k on));
      gripper_down = (λ k on. either (to_gripper_deposit s) (to_gripper_feed s) (k on), λ k on. either gripper_deposit gripper_feed (k on));
    }
