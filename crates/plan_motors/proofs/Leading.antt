-- Zones of which any posture will do: they are found one after another, and poses lead on from what they leave.
use Rattle.std.proofs.Common.{◌≡◌, ℕ, zero, suc, ◌+◌, ◌<◌, ◌≤◌, inl, inr, Bool, true, false, ◌&&◌, ◌||◌, not, is_none, is_some, unwrap_or, Option, Some, None, List, [], ◌∷◌, ◌++◌, get_or, replicate, refl, sym, ap, ◌∙◌, subst, arith, IsTrue}
use Rattle.plan_types.specs.declared.posture.Posture.{Posture}
use Rattle.plan_types.specs.declared.posture.Posture.TheVariants.{Moving}
use Rattle.plan_types.specs.Below.{sum_below}
use Rattle.plan_types.specs.Same.{same_posture, one_posture}
use Rattle.plan_types.specs.Table.{PlanTable, zone_count, pose_count, pose_row, posture_of, is_hosted}
use Rattle.plan_types.specs.Plan.{IsPlan}
use Rattle.plan_types.proofs.lemmas.Below.{below_next}
use Rattle.plan_rules.specs.State.{one_if}
use Rattle.plan_rules.specs.Sound.{implies}
use Rattle.plan_motors.specs.declared.motor.Motor.{Motor}
use Rattle.plan_motors.specs.declared.poses.Leads.{Leads}
use Rattle.plan_motors.specs.Poses.{leads_on, matters, LeadOn, posture_after, given_leads_on, AllMove, after_poses, CanTakeAll, PosesLead, LeadToDanger, LeadsFurther, is_any_before, AreLeads, LeadSomewhere}
use Rattle.plan_motors.proofs.Posing.{After, implied, holds, mattering, same_lead}

-- ---- how many are found
abbrev pub count : (ℕ → Bool) → ℕ → ℕ
count f n = sum_below (λ z. one_if (f z)) n

one_at_most : (b : Bool) → one_if b ≤ 1
one_at_most true = omega arith
one_at_most false = omega arith

one_less : (a b : Bool) → (a ≡ true → b ≡ true) → one_if a ≤ one_if b
one_less true true k = omega arith
one_less true false k = absurd (no (k refl))
  where
    no : false ≡ true → ⊥
    no e = cc
one_less false b k = omega arith

count_at_most : (f : ℕ → Bool) (n : ℕ) → count f n ≤ n
count_at_most f zero = omega arith
count_at_most f (suc n) = omega (arith, count_at_most f n, one_at_most (f n))

count_less : (f g : ℕ → Bool) (n : ℕ) → ((z : ℕ) → z < n → f z ≡ true → g z ≡ true) → count f n ≤ count g n
count_less f g zero k = omega arith
count_less f g (suc n) k = omega (arith, count_less f g n (λ z l. k z (omega arith)), one_less (f n) (g n) (k n (omega arith)))

one_more_here : (a b : Bool) → a ≡ false → b ≡ true → one_if a + 1 ≤ one_if b
one_more_here true b e f = cc
one_more_here false true e f = omega arith
one_more_here false false e f = cc

count_grows : (f g : ℕ → Bool) (n z : ℕ) → ((z : ℕ) → z < n → f z ≡ true → g z ≡ true) → z < n → f z ≡ false → g z ≡ true → count f n + 1 ≤ count g n
count_grows f g zero z k l e h = absurd (omega arith)
count_grows f g (suc n) z k l e h =
    let below : (y : ℕ) → y < n → f y ≡ true → g y ≡ true = λ y m. k y (omega arith) in
    elim (below_next z n l) [
      | inl m ↦ omega (arith, count_grows f g n z below m e h, one_less (f n) (g n) (k n (omega arith)))
      | inr same ↦ omega (arith, count_less f g n below, one_more_here (f n) (g n) (sym (ap f same) ∙ e) (sym (ap g same) ∙ h))
    ]

one_is : (b : Bool) → 1 ≤ one_if b → b ≡ true
one_is true l = refl
one_is false l = absurd (omega (arith, l))

count_full : (f : ℕ → Bool) (n : ℕ) → n ≤ count f n → (z : ℕ) → z < n → f z ≡ true
count_full f zero l z m = absurd (omega arith)
count_full f (suc n) l z m =
    let most = count_at_most f n in
    let one = one_at_most (f n) in
    elim (below_next z n m) [
      | inl k ↦ count_full f n (omega (arith, l, one)) z k
      | inr same ↦ ap f same ∙ one_is (f n) (omega (arith, l, most))
    ]

-- what isn't so of all is wrong of one
all_so : (f : ℕ → Bool) (n : ℕ) → f n ≡ true → ((z : ℕ) → z < n → f z ≡ true) → (z : ℕ) → z < suc n → f z ≡ true
all_so f n e h z l = elim (below_next z n l) [ inl m ↦ h z m | inr same ↦ ap f same ∙ e ]

wrong_by : (f : ℕ → Bool) (n : ℕ) (b : Bool) → f n ≡ b → (¬ ((z : ℕ) → z < n → f z ≡ true) → (z : ℕ) × (z < n) × (f z ≡ false))
    → ¬ ((z : ℕ) → z < suc n → f z ≡ true) → (z : ℕ) × (z < suc n) × (f z ≡ false)
wrong_by f n false e below k = (n, omega arith, e)
wrong_by f n true e below k =
    let x = below (λ h. k (all_so f n e h)) in
    let less = x.1 in
    (x.0, omega (arith, less), x.2)

first_wrong : (f : ℕ → Bool) (n : ℕ) → ¬ ((z : ℕ) → z < n → f z ≡ true) → (z : ℕ) × (z < n) × (f z ≡ false)
first_wrong f zero k = absurd (k (λ z l. absurd (omega arith)))
first_wrong f (suc n) k = wrong_by f n (f n) refl (first_wrong f n) k

-- ---- one pose more
same_matter : (a b : Bool) → b ≡ false → not (a || b) ≡ not a
same_matter true b e = refl
same_matter false true e = cc
same_matter false false e = refl

-- from what leads on but for the zones found and for those of the pose, the pose leads to what leads on but for these
step_at : (test : Posture → Bool) (given : Option Posture → Bool) (hosted any : Bool) (o : Option Posture) (q : Posture) → ((r : Posture) → given (Some r) ≡ test r)
    → implies (hosted && not any) (given o) ≡ true → implies (hosted && not (any || is_some o)) (test q) ≡ true → implies (hosted && not any) (test (unwrap_or o q)) ≡ true
step_at test given hosted any None q k e f = ap (λ b. implies (hosted && b) (test q)) (sym (same_matter any false refl)) ∙ f
step_at test given hosted any (Some r) q k e f = ap (λ b. implies (hosted && not any) b) (sym (k r)) ∙ e

abbrev Leading : PlanTable → Motor → Motor → ℕ → Bool → List Bool → Type 0
Leading t a b m moving any = (q : ℕ → Posture) → LeadOn t a b m any moving q → PosesLead t a b m moving q

pub further : (t : PlanTable) (a b : Motor) (m : ℕ) (moving : Bool) (any more : List Bool) (p : ℕ) → IsPlan t → p < pose_count t → LeadsFurther t a b m any moving p
    → ((z : ℕ) → z < 10 → get_or more z false ≡ is_any_before t any p z) → Leading t a b m moving any → Leading t a b m moving more
further t a b m moving any more p plan there x same leads = λ q lead.
    let few = plan.zones_at_most in
    let no_wait : IsTrue (pose_row t p).after_moving → AllMove t m q = λ w. absurd (never _ x.at_any_time w) in
    let next : LeadOn t a b m any moving (After t p q) = λ z l.
    let ten : z < 10 = omega (arith, few, l) in
    step_at (leads_on t a b moving z) (given_leads_on t a b moving z) (is_hosted t z m) (get_or any z false) (posture_of t p z) (q z) (λ r. refl) (x.well z l)
    (subst (λ c. IsTrue (implies (is_hosted t z m && not c) (leads_on t a b moving z (q z)))) (same z ten) (lead z l)) in
    let rest = leads (After t p q) next in
    record {
      poses = p ∷ rest.poses;
      taken = (record { there = there; own = x.own; moves = no_wait }, rest.taken);
      arrived = rest.arrived;
    }
  where
    never : (b : Bool) → b ≡ false → b ≡ true → ⊥
    never true e f = cc
    never false e f = cc

-- and the zones found are more
or_left : (a b : Bool) → a ≡ true → (a || b) ≡ true
or_left true b e = refl
or_left false b e = cc

or_right : (a b : Bool) → b ≡ true → (a || b) ≡ true
or_right true b e = refl
or_right false b e = e

given_there : (o : Option Posture) → is_none o ≡ false → is_some o ≡ true
given_there None e = cc
given_there (Some q) e = refl

shown : (hosted any none : Bool) → implies (hosted && not any) none ≡ false → (any ≡ false) × (none ≡ false)
shown true false none e = (refl, e)
shown true true none e = cc
shown false any none e = cc

pub grows : (t : PlanTable) (a b : Motor) (m : ℕ) (moving : Bool) (any more : List Bool) (p : ℕ) → IsPlan t → LeadsFurther t a b m any moving p
    → ((z : ℕ) → z < 10 → get_or more z false ≡ is_any_before t any p z) → count (λ z. get_or any z false) 10 + 1 ≤ count (λ z. get_or more z false) 10
grows t a b m moving any more p plan x same =
    let few = plan.zones_at_most in
    let one = first_wrong (λ z. implies (matters t m any z) (is_none (posture_of t p z))) (zone_count t) x.further in
    let z = one.0 in
    let less = one.1 in
    let ten : z < 10 = omega (arith, few, less) in
    let both = shown (is_hosted t z m) (get_or any z false) (is_none (posture_of t p z)) one.2 in
    count_grows (λ z. get_or any z false) (λ z. get_or more z false) 10 z (λ y l e. same y l ∙ or_left (get_or any y false) (is_some (posture_of t p y)) e) ten both.0
    (same z ten ∙ or_right (get_or any z false) (is_some (posture_of t p z)) (given_there (posture_of t p z) both.1))

-- once ten are found none matters
pub all_found : (t : PlanTable) (a b : Motor) (m : ℕ) (moving : Bool) (any : List Bool) → IsPlan t → 10 ≤ count (λ z. get_or any z false) 10
    → (p : ℕ) → p < pose_count t → ¬ LeadsFurther t a b m any moving p
all_found t a b m moving any plan ten p there x =
    let few = plan.zones_at_most in
    x.further (λ z l.
    let found : get_or any z false ≡ true = count_full (λ z. get_or any z false) 10 ten z (omega (arith, few, l)) in
    nothing (is_hosted t z m) (get_or any z false) (is_none (posture_of t p z)) found)
  where
    nothing : (hosted any none : Bool) → any ≡ true → implies (hosted && not any) none ≡ true
    nothing true true none e = refl
    nothing false true none e = refl
    nothing true false none e = cc
    nothing false false none e = refl

-- ---- at first none is found
none_free : (n z : ℕ) → get_or (replicate n false) z false ≡ false
none_free zero z = refl
none_free (suc n) zero = refl
none_free (suc n) (suc z) = none_free n z

pub at_first : (t : PlanTable) (a b : Motor) (m : ℕ) (moving : Bool) → Leading t a b m moving (replicate 10 false)
at_first t a b m moving = λ q lead. record {
  poses = [];
  taken = tt;
  arrived = λ z l. subst (λ c. IsTrue (implies (is_hosted t z m && not c) (leads_on t a b moving z (q z)))) (none_free 10 z) (lead z l);
}

-- ---- one way after another
after_both : (t : PlanTable) (xs ys : List ℕ) (q : ℕ → Posture) (z : ℕ) → after_poses t (xs ++ ys) q z ≡ after_poses t ys (after_poses t xs q) z
after_both t [] ys q z = refl
after_both t (x ∷ xs) ys q z = after_both t xs ys (After t x q) z

take_both : (t : PlanTable) (m : ℕ) (xs ys : List ℕ) (q : ℕ → Posture) → CanTakeAll t m xs q → CanTakeAll t m ys (after_poses t xs q) → CanTakeAll t m (xs ++ ys) q
take_both t m [] ys q x y = y
take_both t m (p ∷ xs) ys q x y = (x.0, take_both t m xs ys (After t p q) x.1 y)

all_move : (t : PlanTable) (a b : Motor) (m : ℕ) (q : ℕ → Posture) → LeadOn t a b m [] true q → AllMove t m q
all_move t a b m q lead = λ z l hosted. one_posture (q z) Moving (holds (is_hosted t z m && true) (same_posture (q z) Moving) (lead z l) (and_one (is_hosted t z m) hosted))
  where
    and_one : (b : Bool) → b ≡ true → (b && true) ≡ true
    and_one true e = refl
    and_one false e = e

-- from zones that can be brought to move, by a pose that comes after moving, to danger
by_moving : (t : PlanTable) (a b : Motor) (m : ℕ) (l : Leads) (q : ℕ → Posture) → AreLeads t a b m l → IsTrue l.by_moving → LeadOn t a b m l.any_moving true q → LeadToDanger t a b m q
by_moving t a b m l q found by lead =
    let first = found.moving.lead q lead in
    let r = after_poses t first.poses q in
    let still = all_move t a b m r first.arrived in
    let found_pose = found.from_moving by in
    let p = found_pose.0 in
    let x = found_pose.1 in
    let danger : LeadOn t a b m l.any false (After t p r) = λ z there.
    implied (matters t m l.any z) (leads_on t a b false z (After t p r z)) (λ e.
    ap (λ y. leads_on t a b false z (posture_after t p z y)) (still z there (mattering t m l.any z e))
    ∙ holds (matters t m l.any z) (leads_on t a b false z (posture_after t p z Moving)) (x.leads z there) e) in
    let last = found.danger.lead (After t p r) danger in
    let rest = p ∷ last.poses in
    record {
      poses = first.poses ++ rest;
      taken = take_both t m first.poses rest q first.taken (record { there = x.there; own = x.own; moves = λ w. still }, last.taken);
      arrived = same_lead t a b m [] false (after_poses t (first.poses ++ rest) q) (after_poses t last.poses (After t p r)) (λ z l. sym (after_both t first.poses rest q z)) last.arrived;
    }

pub to_danger : (t : PlanTable) (a b : Motor) (m : ℕ) (l : Leads) (q : ℕ → Posture) → AreLeads t a b m l → LeadSomewhere t a b m l q → LeadToDanger t a b m q
to_danger t a b m l q found (inl lead) = found.danger.lead q lead
to_danger t a b m l q found (inr by) = by_moving t a b m l q found by.0 by.1
