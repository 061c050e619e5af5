-- Zones of one label are joined: no split that leaves each pose and each place whole has them on two sides.
use Rattle.std.proofs.Common.{◌≡◌, ℕ, zero, suc, ◌<◌, inl, inr, Bool, true, false, nat_eq, List, [], ◌∷◌, length, get_or, refl, sym, subst, ap, ◌∙◌, arith, if◌then◌else◌}
use Rattle.std.specs.List.{range_with_len, list_any}
use Rattle.std.proofs.lemmas.Bool.{eqb-true, or_cases}
use Rattle.std.proofs.lemmas.List.FromFn.{get_or-range_with_len}
use Rattle.plan_types.specs.Table.{PlanTable, zone_count, joins, space_of}
use Rattle.plan_words.specs.Group.{past}
use Rattle.plan_words.specs.Groups.{looks_at, touches, zones_of, with_space, joined, label_of, merged, all_merged, labels_of}
use Rattle.plan_words.specs.Least.{SplitsNone, GroupsAreLeast, GroupsAreRight}
use Rattle.plan_words.proofs.Picked.{picked}
use Rattle.plan_words.proofs.Labels.{merged_long, merged_at, all_long}
use Rattle.plan_words.proofs.Grouping.{ByPose, ByPlace, BySpace, set_cases, sets_are_zones, start_long, zone_label}

-- an element that makes a test true
pub where_any : (test : ℕ → Bool) (xs : List ℕ) → list_any test xs ≡ true → (i : ℕ) × (i < length xs) × (test (get_or xs i past) ≡ true)
where_any test [] e = cc
where_any test (x ∷ xs) e = elim (or_cases (test x) (list_any test xs) e) [
  | inl h ↦ (0, omega arith, h)
  | inr h ↦ let f = where_any test xs h in let l = f.1 in (suc f.0, omega (arith, l), f.2)
]

-- zones of one label are on one side
abbrev pub Follows : (ℕ → Bool) → List ℕ → Type 0
Follows side labels = (x y : ℕ) → x < length labels → y < length labels → label_of labels x ≡ label_of labels y → side x ≡ side y

abbrev pub OneSide : (ℕ → Bool) → List ℕ → Type 0
OneSide side zones = (i j : ℕ) → i < length zones → j < length zones → side (get_or zones i past) ≡ side (get_or zones j past)

-- a zone whose label is among those of the joined zones is on their side
on_side : (side : ℕ → Bool) (labels : List ℕ) (z : ℕ) (zones : List ℕ) (n x : ℕ) → length labels ≡ n → ((i : ℕ) → i < length (z ∷ zones) → get_or (z ∷ zones) i past < n) → OneSide side (z ∷ zones)
    → Follows side labels → x < length labels → list_any (λ y. nat_eq (label_of labels y) (label_of labels x)) (z ∷ zones) ≡ true → side x ≡ side z
on_side side labels z zones n x e zs one k l any =
    let f = where_any (λ y. nat_eq (label_of labels y) (label_of labels x)) (z ∷ zones) any in
    let w = get_or (z ∷ zones) f.0 past in
    let in_plan = zs f.0 f.1 in
    k x w l (subst (λ a. w < a) (sym e) in_plan) (sym (eqb-true _ _ f.2)) ∙ one f.0 0 f.1 (omega arith)

follows_by : (side : ℕ → Bool) (labels : List ℕ) (z : ℕ) (zones : List ℕ) (n x y : ℕ) → length labels ≡ n → ((i : ℕ) → i < length (z ∷ zones) → get_or (z ∷ zones) i past < n) → OneSide side (z ∷ zones)
    → Follows side labels → x < length labels → y < length labels → (b c : Bool) → list_any (λ w. nat_eq (label_of labels w) (label_of labels x)) (z ∷ zones) ≡ b
    → list_any (λ w. nat_eq (label_of labels w) (label_of labels y)) (z ∷ zones) ≡ c
    → (if b then label_of labels z else label_of labels x) ≡ (if c then label_of labels z else label_of labels y) → side x ≡ side y
follows_by side labels z zones n x y e zs one k l m true true f g same =
    on_side side labels z zones n x e zs one k l f ∙ sym (on_side side labels z zones n y e zs one k m g)
follows_by side labels z zones n x y e zs one k l m true false f g same =
    let first = zs 0 (omega arith) in
    on_side side labels z zones n x e zs one k l f ∙ k z y (subst (λ a. z < a) (sym e) first) m same
follows_by side labels z zones n x y e zs one k l m false true f g same =
    let first = zs 0 (omega arith) in
    k x z l (subst (λ a. z < a) (sym e) first) same ∙ sym (on_side side labels z zones n y e zs one k m g)
follows_by side labels z zones n x y e zs one k l m false false f g same = k x y l m same

merged_follows : (side : ℕ → Bool) (labels zones : List ℕ) (n : ℕ) → length labels ≡ n → ((i : ℕ) → i < length zones → get_or zones i past < n) → OneSide side zones → Follows side labels → Follows side (merged labels zones)
merged_follows side labels [] n e zs one k = k
merged_follows side labels (z ∷ zones) n e zs one k = λ x y l m same.
    let a = subst (λ b. x < b) (merged_long labels (z ∷ zones)) l in
    let b = subst (λ b. y < b) (merged_long labels (z ∷ zones)) m in
    follows_by side labels z zones n x y e zs one k a b _ _ refl refl (sym (merged_at labels z zones x a) ∙ (same ∙ merged_at labels z zones y b))

all_follow : (side : ℕ → Bool) (labels : List ℕ) (sets : List (List ℕ)) (n : ℕ) → length labels ≡ n → ((k : ℕ) → k < length sets → (i : ℕ) → i < length (get_or sets k []) → get_or (get_or sets k []) i past < n)
    → ((k : ℕ) → k < length sets → OneSide side (get_or sets k [])) → Follows side labels → Follows side (all_merged labels sets)
all_follow side labels [] n e zs one k = k
all_follow side labels (zones ∷ more) n e zs one k =
    all_follow side (merged labels zones) more n (merged_long labels zones ∙ e) (λ j l. zs (suc j) (omega (arith, l))) (λ j l. one (suc j) (omega (arith, l)))
    (merged_follows side labels zones n e (zs 0 (omega arith)) (one 0 (omega arith)) k)

-- ---- each set is on one side

one_side_of : (t : PlanTable) (side : ℕ → Bool) (test : ℕ → Bool) (zones : List ℕ) → zones ≡ zones_of t test → ((y z : ℕ) → y < zone_count t → z < zone_count t → test y ≡ true → test z ≡ true → side y ≡ side z) → OneSide side zones
one_side_of t side test zones e alike =
    let k = picked test 0 (zone_count t) in
    subst (OneSide side) (sym e) (λ i j l m.
    let a = k.below i l in
    let b = k.below j m in
    alike (get_or (zones_of t test) i past) (get_or (zones_of t test) j past) (omega (arith, a)) (omega (arith, b)) (k.passes i l) (k.passes j m))

pair_side : (t : PlanTable) (side : ℕ → Bool) (z : ℕ) (zones : List ℕ) → zones ≡ with_space t z → (joins t (suc z) ≡ true → side (suc z) ≡ side z) → OneSide side zones
pair_side t side z zones e alike = subst (OneSide side) (sym e) (by (joins t (suc z)) alike)
  where
    first : (i : ℕ) → side (suc z) ≡ side z → i < 2 → side (get_or (z ∷ suc z ∷ []) i past) ≡ side z
    first zero same l = refl
    first (suc zero) same l = same
    first (suc (suc i)) same l = absurd (omega (arith, l))

    by : (b : Bool) → (b ≡ true → side (suc z) ≡ side z) → OneSide side (if b then z ∷ suc z ∷ [] else [])
    by true same i j l m = first i (same refl) (omega (arith, l)) ∙ sym (first j (same refl) (omega (arith, m)))
    by false same i j l m = absurd (omega (arith, l))

sets_are_whole : (t : PlanTable) (side : ℕ → Bool) → SplitsNone t side → (k : ℕ) → k < length (joined t) → OneSide side (get_or (joined t) k [])
sets_are_whole t side s k l = elim (set_cases t k l) [
  | ByPose p m at ↦ one_side_of t side (looks_at t p) (get_or (joined t) k []) at (λ y z. s.poses p y z m)
  | ByPlace p m at ↦ one_side_of t side (touches t p) (get_or (joined t) k []) at (λ y z. s.places p y z m)
  | BySpace z m at ↦ pair_side t side z (get_or (joined t) k []) at (λ e. s.spaces (suc z) z (omega (arith, m)) (omega (arith, m)) (ap (λ b. if b then space_of t z else suc z) e))
]

start_label : (n x : ℕ) → x < n → label_of (range_with_len 0 n) x ≡ x
start_label n x l = let e = get_or-range_with_len 0 n x past l in omega (arith, e)

pub groups_are_least : GroupsAreLeast
groups_are_least t n y z side a b s =
    let long = start_long t in
    let start = range_with_len 0 (zone_count t) in
    let first : Follows side start = λ x w l m same.
    let h = subst (λ c. x < c) long l in
    let k = subst (λ c. w < c) long m in
    ap side (sym (start_label (zone_count t) x h) ∙ (same ∙ start_label (zone_count t) w k)) in
    let k = all_follow side start (joined t) (zone_count t) long (sets_are_zones t) (sets_are_whole t side s) first in
    let at_y = zone_label t n y a in
    let at_z = zone_label t n z b in
    let all : length (labels_of t) ≡ zone_count t = all_long start (joined t) ∙ long in
    k y z (subst (λ c. y < c) (sym all) at_y.0) (subst (λ c. z < c) (sym all) at_z.0) (at_y.1 ∙ sym at_z.1)

pub groups_are_right : GroupsAreRight
groups_are_right = record {
  press = refl;
  lift = refl;
  half_moving = refl;
  two_gates = refl;
  one_hand = refl;
  two_hands = refl;
  line = refl;
  apart = refl;
  space = refl;
  space_zones = refl;
  space_table = refl;
  twelve = refl;
  too_wide = refl;
  each_fits = refl;
  last_zone = refl;
  last_places = refl;
  last_table = refl;
}
