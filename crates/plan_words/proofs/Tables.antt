-- The tables of a group.
use Rattle.std.proofs.Common.{◌≡◌, ◌≢◌, ℕ, zero, suc, ◌+◌, ◌-◌, ◌<◌, ◌≤◌, inl, inr, Bool, true, false, nat_eq, nat_lt, List, [], ◌∷◌, length, map, get_or, replicate, Option, Some, None, option_map, refl, sym, subst, ap, ◌∙◌, arith, if◌then◌else◌, IsTrue}
use Rattle.std.proofs.lemmas.List.{get_or-map, length-map, get_or_append_left, get_or-append_right, get_or-replicate, get_or_past}
use Rattle.plan_types.specs.declared.posture.Posture.{Posture}
use Rattle.plan_types.specs.declared.posture.Posture.TheVariants.{Closed, Moving, OpenIn, OpenOut}
use Rattle.plan_types.specs.declared.table.Way.{Way}
use Rattle.plan_types.specs.declared.table.PlanZone.{PlanZone}
use Rattle.plan_types.specs.declared.table.PlanPose.{PlanPose}
use Rattle.plan_types.specs.declared.table.PlanPlace.{PlanPlace}
use Rattle.plan_types.specs.Table.{PlanTable, zone_count, pose_count, place_count, host_of, guest_of, zone_row, pose_row, keeper_of, posture_of, is_moving_pose, transfer_by, no_zone, no_pose, no_place, place_row, is_place_of, space_of}
use Rattle.plan_types.proofs.lemmas.Spaces.{no_later}
use Rattle.plan_types.specs.Plan.{IsPlan, leads, is_alike}
use Rattle.std.specs.List.{list_any}
use Rattle.std.proofs.lemmas.List.{length-replicate}
use Rattle.std.proofs.lemmas.Bool.{eqb-true, cases_lt, and_parts, and_from, lt-ltb}
use Rattle.plan_types.specs.Table.{is_moving}
use Rattle.plan_rules.proofs.lemmas.Puts.{apart-nat_eq}
use Rattle.plan_words.specs.Group.{Group, past, zone_out, pose_out, place_out, HasZone, HasPlace, IsGroup, IsTableOf, way_out, zone_row_out}
use Rattle.plan_words.proofs.Spaces.{space_out}
use Rattle.plan_words.specs.Groups.{IsLargePlan, number_in, way_in, zone_in, pose_in, table_of, Fits}

-- ---- a number that is in a list

abbrev pub Found : List ℕ → ℕ → ℕ → Type 0
Found xs n i = (i < length xs) × (get_or xs i past ≡ n)

found_at : (x : ℕ) (xs : List ℕ) (n : ℕ) → (((j : ℕ) × Found xs n j) → Found xs n (number_in xs n)) → (j : ℕ) → Found (x ∷ xs) n j → (b : Bool) → nat_eq x n ≡ b
    → Found (x ∷ xs) n (if b then 0 else 1 + number_in xs n)
found_at x xs n rest j f true e = (omega arith, eqb-true x n e)
found_at x xs n rest zero f false e = absurd (apart-nat_eq x n e f.1)
found_at x xs n rest (suc j) f false e =
    let l = f.0 in
    let h = rest (j, (omega (arith, l), f.1)) in
    let below = h.0 in
    subst (Found (x ∷ xs) n) (omega arith) (in_rest (number_in xs n) (omega (arith, below)) h.1)
  where
    in_rest : (k : ℕ) → suc k < suc (length xs) → get_or xs k past ≡ n → Found (x ∷ xs) n (suc k)
    in_rest k l e = (l, e)

pub number_found : (xs : List ℕ) (n : ℕ) → ((j : ℕ) × Found xs n j) → Found xs n (number_in xs n)
number_found [] n h = let l = h.1.0 in absurd (omega (arith, l))
number_found (x ∷ xs) n h = found_at x xs n (number_found xs n) h.0 h.1 (nat_eq x n) refl

-- ---- the rows

row_is : (t : PlanTable) (g : Group) (i : ℕ) → i < length g.zones → zone_row (table_of t g) i ≡ zone_in t g (zone_out g i)
row_is t g i l = get_or-map (zone_in t g) g.zones i past no_zone l

pose_is : (t : PlanTable) (g : Group) (k : ℕ) → k < length g.poses → pose_row (table_of t g) k ≡ pose_in t g (pose_out g k)
pose_is t g k l = get_or-map (pose_in t g) g.poses k past no_pose l

place_is : (t : PlanTable) (g : Group) (j : ℕ) → j < length g.places → place_row (table_of t g) j ≡ place_row t (place_out g j)
place_is t g j l = get_or-map (place_row t) g.places j past no_place l

keeper_is : (t : PlanTable) (g : Group) (j : ℕ) → j < length g.places → keeper_of (table_of t g) j ≡ keeper_of t (place_out g j)
keeper_is t g j l = ap (λ (r : PlanPlace). r.keeper) (place_is t g j l)

way_back : (g : Group) (w : Option Way) → ((way : Way) → w ≡ Some way → HasPlace g way.from × HasPlace g way.to) → option_map (way_out g) (option_map (way_in g) w) ≡ w
way_back g None has = refl
way_back g (Some way) has =
    let h = has way refl in
    let from = (number_found g.places way.from (h.0.0, (h.0.1, h.0.2))).1 in
    let to = (number_found g.places way.to (h.1.0, (h.1.1, h.1.2))).1 in
    ap (λ a. let w : Way = record { from = a; to = place_out g (number_in g.places way.to) } in Some w) from
    ∙ ap (λ a. let w : Way = record { from = way.from; to = a } in Some w) to

by_way : (giver receiver : ℕ) (w : Option Way) (way : Way) → w ≡ Some way → transfer_by giver receiver w ≡ Some (record { giver = giver; receiver = receiver; from = way.from; to = way.to })
by_way giver receiver w way e = ap (transfer_by giver receiver) e

inward_in : (t : PlanTable) (g : Group) → IsGroup t g → (z : ℕ) → HasZone g z → (way : Way) → (zone_row t z).inward ≡ Some way → HasPlace g way.from × HasPlace g way.to
inward_in t g k z has way e =
    let is = by_way (guest_of t z) (host_of t z) (zone_row t z).inward way e in (
      k.by_way z way.from has (OpenIn, record { giver = guest_of t z; receiver = host_of t z; from = way.from; to = way.to }, is, inl refl),
      k.by_way z way.to has (OpenIn, record { giver = guest_of t z; receiver = host_of t z; from = way.from; to = way.to }, is, inr refl),
    )

outward_in : (t : PlanTable) (g : Group) → IsGroup t g → (z : ℕ) → HasZone g z → (way : Way) → (zone_row t z).outward ≡ Some way → HasPlace g way.from × HasPlace g way.to
outward_in t g k z has way e =
    let is = by_way (host_of t z) (guest_of t z) (zone_row t z).outward way e in (
      k.by_way z way.from has (OpenOut, record { giver = host_of t z; receiver = guest_of t z; from = way.from; to = way.to }, is, inl refl),
      k.by_way z way.to has (OpenOut, record { giver = host_of t z; receiver = guest_of t z; from = way.from; to = way.to }, is, inr refl),
    )

row_back : (t : PlanTable) (g : Group) → IsGroup t g → (i : ℕ) → i < length g.zones → zone_row t (zone_out g i) ≡ zone_row_out g (zone_in t g (zone_out g i))
row_back t g k i l =
    let z = zone_out g i in
    let row = zone_row t z in
    let inward = way_back g row.inward (inward_in t g k z (i, l, refl)) in
    let outward = way_back g row.outward (outward_in t g k z (i, l, refl)) in
    sym (ap (λ w. let r : PlanZone = record { host = row.host; guest = row.guest; joins = row.joins; inward = w; outward = option_map (way_out g) (option_map (way_in g) row.outward) } in r) inward
    ∙ ap (λ w. let r : PlanZone = record { host = row.host; guest = row.guest; joins = row.joins; inward = row.inward; outward = w } in r) outward)

-- ---- what a pose gives

given_is : (t : PlanTable) (g : Group) (k i : ℕ) → k < length g.poses → i < length g.zones → posture_of (table_of t g) k i ≡ posture_of t (pose_out g k) (zone_out g i)
given_is t g k i l m =
    let long = length-map g.zones (posture_of t (pose_out g k)) in
    ap (λ (r : PlanPose). get_or r.gives i None) (pose_is t g k l)
    ∙ (get_or_append_left (map (posture_of t (pose_out g k)) g.zones) (replicate (10 - length (map (posture_of t (pose_out g k)) g.zones)) None) None i (omega (arith, m, long))
    ∙ get_or-map (posture_of t (pose_out g k)) g.zones i past None m)

abbrev no_posture : Option Posture
no_posture = None

none_filled : (n i : ℕ) → get_or (replicate n no_posture) i no_posture ≡ no_posture
none_filled n i = elim (cases_lt i n) [
  | inl l ↦ get_or-replicate n i no_posture no_posture l
  | inr m ↦ let long = length-replicate n no_posture in get_or_past (replicate n no_posture) i no_posture (omega (arith, m, long))
]

-- past the group's zones it gives nothing
given_past : (t : PlanTable) (g : Group) (k i : ℕ) → k < length g.poses → length g.zones ≤ i → posture_of (table_of t g) k i ≡ None
given_past t g k i l m =
    let given = map (posture_of t (pose_out g k)) g.zones in
    let long = length-map g.zones (posture_of t (pose_out g k)) in
    ap (λ (r : PlanPose). get_or r.gives i None) (pose_is t g k l)
    ∙ (get_or-append_right given (replicate (10 - length given) None) (length given) i None refl (omega (arith, m, long))
    ∙ none_filled (10 - length given) (i - length given))

none_some : {A : Type 0} (o : Option A) (a : A) → o ≡ None → o ≡ Some a → ⊥
none_some o a e f = let h = sym e ∙ f in cc

pub given_within : (t : PlanTable) (g : Group) (k i : ℕ) (q : Posture) → k < length g.poses → posture_of (table_of t g) k i ≡ Some q → (i < length g.zones) × (posture_of t (pose_out g k) (zone_out g i) ≡ Some q)
given_within t g k i q l e = elim (cases_lt i (length g.zones)) [
  | inl m ↦ (m, sym (given_is t g k i l m) ∙ e)
  | inr m ↦ absurd (none_some (posture_of (table_of t g) k i) q (given_past t g k i l m) e)
]

-- ---- which poses move. (These three are plan_types' own, which no other crate may cite)

next_zone : (h : Option Posture) (gives : List (Option Posture)) → ((z : ℕ) × (get_or gives z None ≡ Some Moving)) → (z : ℕ) × (get_or (h ∷ gives) z None ≡ Some Moving)
next_zone h gives found = (suc found.0, found.1)

moving_zone : (gives : List (Option Posture)) → list_any is_moving gives ≡ true → (z : ℕ) × (get_or gives z None ≡ Some Moving)
moving_zone [] e = cc
moving_zone (Some Moving ∷ gives) e = (0, refl)
moving_zone (Some Closed ∷ gives) e = next_zone (Some Closed) gives (moving_zone gives e)
moving_zone (Some OpenIn ∷ gives) e = next_zone (Some OpenIn) gives (moving_zone gives e)
moving_zone (Some OpenOut ∷ gives) e = next_zone (Some OpenOut) gives (moving_zone gives e)
moving_zone (None ∷ gives) e = next_zone None gives (moving_zone gives e)

moves_by_zone : (gives : List (Option Posture)) (z : ℕ) → get_or gives z None ≡ Some Moving → list_any is_moving gives ≡ true
moves_by_zone [] z e = cc
moves_by_zone (h ∷ gives) zero e = rw e refl
moves_by_zone (Some Moving ∷ gives) (suc z) e = refl
moves_by_zone (Some Closed ∷ gives) (suc z) e = moves_by_zone gives z e
moves_by_zone (Some OpenIn ∷ gives) (suc z) e = moves_by_zone gives z e
moves_by_zone (Some OpenOut ∷ gives) (suc z) e = moves_by_zone gives z e
moves_by_zone (None ∷ gives) (suc z) e = moves_by_zone gives z e

pub same_bool : (a b : Bool) → (a ≡ true → b ≡ true) → (b ≡ true → a ≡ true) → a ≡ b
same_bool true b f g = sym (f refl)
same_bool false true f g = g refl
same_bool false false f g = refl

moves_same : (t : PlanTable) (g : Group) → IsLargePlan t → IsGroup t g → (k : ℕ) → k < length g.poses → is_moving_pose t (pose_out g k) ≡ is_moving_pose (table_of t g) k
moves_same t g p is k l =
    let there = (pose_row t (pose_out g k)).gives in
    let here = (pose_row (table_of t g) k).gives in
    same_bool (is_moving_pose t (pose_out g k)) (is_moving_pose (table_of t g) k)
    (λ e.
    let at = moving_zone there e in
    let in_plan = (p.pose_of_host (pose_out g k) at.0 Moving (is.poses.below k l) at.1).0 in
    let has = is.by_pose (pose_out g k) at.0 (k, l, refl) in_plan (inl (Moving, at.1)) in
    moves_by_zone here has.0 (given_is t g k has.0 l has.1 ∙ (ap (posture_of t (pose_out g k)) has.2 ∙ at.1)))
    (λ e. let at = moving_zone here e in let within = given_within t g k at.0 Moving l at.1 in moves_by_zone there (zone_out g at.0) within.1)

pub is_table : (t : PlanTable) (g : Group) → IsLargePlan t → IsGroup t g → IsTableOf t g (table_of t g)
is_table t g p is = record {
  machines = refl;
  zone_count = length-map g.zones (zone_in t g);
  pose_count = length-map g.poses (pose_in t g);
  place_count = length-map g.places (place_row t);
  zone = λ i l. row_back t g is i l ∙ ap (zone_row_out g) (sym (row_is t g i l));
  machine = λ k l. sym (ap (λ (r : PlanPose). r.machine) (pose_is t g k l));
  after_moving = λ k l. sym (ap (λ (r : PlanPose). r.after_moving) (pose_is t g k l));
  gives = λ k i l m. sym (given_is t g k i l m);
  moves = λ k l. moves_same t g p is k l;
  place = λ j l. sym (place_is t g j l);
}

-- ---- they are a plan, if they fit

place_in : (t : PlanTable) (g : Group) (p m : ℕ) → HasPlace g p → is_place_of t p m ≡ true → is_place_of (table_of t g) (number_in g.places p) m ≡ true
place_in t g p m has e =
    let found = number_found g.places p (has.0, (has.1, has.2)) in
    let parts = and_parts (nat_lt p (place_count t)) (nat_eq (keeper_of t p) m) e in
    let long = length-map g.places (place_row t) in
    let below = found.0 in
    and_from (nat_lt (number_in g.places p) (place_count (table_of t g))) (nat_eq (keeper_of (table_of t g) (number_in g.places p)) m)
    (lt-ltb (number_in g.places p) (place_count (table_of t g)) (omega (arith, below, long)))
    (ap (λ k. nat_eq k m) (keeper_is t g (number_in g.places p) found.0 ∙ ap (keeper_of t) found.1) ∙ parts.1)

leads_in : (t : PlanTable) (g : Group) (giver receiver : ℕ) (w : Option Way) → ((way : Way) → w ≡ Some way → HasPlace g way.from × HasPlace g way.to) → leads t giver receiver w ≡ true
    → leads (table_of t g) giver receiver (option_map (way_in g) w) ≡ true
leads_in t g giver receiver None has e = refl
leads_in t g giver receiver (Some way) has e =
    let h = has way refl in
    let parts = and_parts (is_place_of t way.from giver) (is_place_of t way.to receiver) e in
    and_from (is_place_of (table_of t g) (number_in g.places way.from) giver) (is_place_of (table_of t g) (number_in g.places way.to) receiver)
    (place_in t g way.from giver h.0 parts.0) (place_in t g way.to receiver h.1 parts.1)

-- its spaces are those of the plan
space_row : (t : PlanTable) (g : Group) → IsLargePlan t → IsGroup t g → (i : ℕ) → i < length g.zones → (space_of (table_of t g) i < length g.zones) × (zone_row (table_of t g) (space_of (table_of t g) i) ≡ zone_in t g (space_of t (zone_out g i)))
space_row t g p is i l =
    let u = table_of t g in
    let before = no_later u i in
    let below : space_of u i < length g.zones = omega (arith, before, l) in
    (below, row_is t g (space_of u i) below ∙ ap (zone_in t g) (sym (space_out t g u is (is_table t g p is) i l)))

space_host : (t : PlanTable) (g : Group) → IsLargePlan t → IsGroup t g → (i : ℕ) → i < length g.zones → host_of (table_of t g) (space_of (table_of t g) i) ≡ host_of (table_of t g) i
space_host t g p is i l =
    ap (λ (r : PlanZone). r.host) (space_row t g p is i l).1
    ∙ (p.one_host_a_space (zone_out g i) (is.zones.below i l) ∙ sym (ap (λ (r : PlanZone). r.host) (row_is t g i l)))

space_guests : (t : PlanTable) (g : Group) → IsLargePlan t → IsGroup t g → (i j : ℕ) → i < j → j < length g.zones → space_of (table_of t g) i ≡ space_of (table_of t g) j
    → guest_of (table_of t g) i ≢ guest_of (table_of t g) j
space_guests t g p is i j l m same guest =
    let u = table_of t g in
    let k = is_table t g p is in
    let n : i < length g.zones = omega (arith, l, m) in
    p.guests_differ (zone_out g i) (zone_out g j) (is.zones.rises i j l m) (is.zones.below j m)
    (space_out t g u is k i n ∙ (ap (zone_out g) same ∙ sym (space_out t g u is k j m)))
    (sym (ap (λ (r : PlanZone). r.guest) (row_is t g i n)) ∙ (guest ∙ ap (λ (r : PlanZone). r.guest) (row_is t g j m)))

space_moves : (t : PlanTable) (g : Group) → IsLargePlan t → IsGroup t g → (k i : ℕ) → k < length g.poses → i < length g.zones
    → is_alike (posture_of (table_of t g) k (space_of (table_of t g) i)) (posture_of (table_of t g) k i) ≡ true
space_moves t g p is k i l m =
    let u = table_of t g in
    let below = (space_row t g p is i m).0 in
    let first : posture_of u k (space_of u i) ≡ posture_of t (pose_out g k) (space_of t (zone_out g i)) =
    given_is t g k (space_of u i) l below ∙ ap (posture_of t (pose_out g k)) (sym (space_out t g u is (is_table t g p is) i m)) in
    ap (λ o. is_alike o (posture_of u k i)) first
    ∙ (ap (is_alike (posture_of t (pose_out g k) (space_of t (zone_out g i)))) (given_is t g k i l m)
    ∙ p.space_moves_whole (pose_out g k) (zone_out g i) (is.poses.below k l) (is.zones.below i m))

pub is_plan : (t : PlanTable) (g : Group) → IsLargePlan t → IsGroup t g → Fits t g → IsPlan (table_of t g)
is_plan t g p is fits =
    let u = table_of t g in
    let zones_long = length-map g.zones (zone_in t g) in
    let poses_long = length-map g.poses (pose_in t g) in
    let places_long = length-map g.places (place_row t) in
    let zone_within : (i : ℕ) → i < zone_count u → i < length g.zones = λ i l. subst (λ n. i < n) zones_long l in
    let pose_within : (k : ℕ) → k < pose_count u → k < length g.poses = λ k l. subst (λ n. k < n) poses_long l in
    let place_within : (j : ℕ) → j < place_count u → j < length g.places = λ j l. subst (λ n. j < n) places_long l in
    let row : (i : ℕ) → i < zone_count u → zone_row u i ≡ zone_in t g (zone_out g i) = λ i l. row_is t g i (zone_within i l) in
    let below : (i : ℕ) → i < zone_count u → zone_out g i < zone_count t = λ i l. is.zones.below i (zone_within i l) in
    record {
      machines_at_most = fits.machines;
      zones_at_most = let h = fits.zones in omega (arith, h, zones_long);
      poses_at_most = let h = fits.poses in omega (arith, h, poses_long);
      places_at_most = let h = fits.places in omega (arith, h, places_long);
      fits_a_word = fits.width;
      keeper_is_machine = λ j l. subst (λ m. m < t.machines) (sym (keeper_is t g j (place_within j l))) (p.keeper_is_machine (place_out g j) (is.places.below j (place_within j l)));
      host_is_machine = λ i l. subst (λ (r : PlanZone). r.host < t.machines) (sym (row i l)) (p.host_is_machine (zone_out g i) (below i l));
      guest_is_machine = λ i l. subst (λ (r : PlanZone). r.guest < t.machines) (sym (row i l)) (p.guest_is_machine (zone_out g i) (below i l));
      host_is_not_guest = λ i l. subst (λ (r : PlanZone). r.host ≢ r.guest) (sym (row i l)) (p.host_is_not_guest (zone_out g i) (below i l));
      inward_to_host = λ i l. subst (λ (r : PlanZone). IsTrue (leads u r.guest r.host r.inward)) (sym (row i l))
          (leads_in t g (guest_of t (zone_out g i)) (host_of t (zone_out g i)) (zone_row t (zone_out g i)).inward (inward_in t g is (zone_out g i) (i, zone_within i l, refl)) (p.inward_to_host (zone_out g i) (below i l)));
      outward_to_guest = λ i l. subst (λ (r : PlanZone). IsTrue (leads u r.host r.guest r.outward)) (sym (row i l))
          (leads_in t g (host_of t (zone_out g i)) (guest_of t (zone_out g i)) (zone_row t (zone_out g i)).outward (outward_in t g is (zone_out g i) (i, zone_within i l, refl)) (p.outward_to_guest (zone_out g i) (below i l)));
      pose_of_machine = λ k l. subst (λ (r : PlanPose). r.machine < t.machines) (sym (pose_is t g k (pose_within k l))) (p.pose_of_machine (pose_out g k) (is.poses.below k (pose_within k l)));
      pose_of_host = λ k i q l ten e.
          let within = given_within t g k i q (pose_within k l) e in
          let there = p.pose_of_host (pose_out g k) (zone_out g i) q (is.poses.below k (pose_within k l)) within.1 in (
            subst (λ n. i < n) (sym zones_long) within.0,
            ap (λ (r : PlanZone). r.host) (row_is t g i within.0) ∙ (there.1 ∙ sym (ap (λ (r : PlanPose). r.machine) (pose_is t g k (pose_within k l)))),
          );
      one_host_a_space = λ i l. space_host t g p is i (zone_within i l);
      guests_differ = λ i j l m. space_guests t g p is i j l (zone_within j m);
      space_moves_whole = λ k i l m. space_moves t g p is k i (pose_within k l) (zone_within i m);
    }
