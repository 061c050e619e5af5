-- The words of a plant: each zone, pose and place is on one of them.
use Rattle.std.proofs.Common.{◌≡◌, ◌≢◌, ℕ, zero, suc, ◌+◌, ◌-◌, ◌<◌, ◌≤◌, ◌⊎◌, inl, inr, Bool, true, false, ◌&&◌, not, nat_eq, nat_le, List, [], ◌∷◌, length, map, get_or, refl, sym, subst, ap, ◌∙◌, arith, if◌then◌else◌, eq-eqb}
use Rattle.std.specs.List.{list_any}
use Rattle.std.proofs.lemmas.Bool.{eqb-true, leb-true, le-leb, cases_lt, cases_order, or_cases, and_parts, and_from}
use Rattle.std.proofs.lemmas.List.{length-map, length-append, get_or-map, get_or_append_left, get_or-append_right}
use Rattle.plan_types.specs.Below.{any_below}
use Rattle.plan_types.specs.Table.{PlanTable, zone_count, place_row, word_width}
use Rattle.plan_types.specs.Plan.{IsPlan}
use Rattle.plan_types.proofs.lemmas.Below.{any_below_none}
use Rattle.plan_words.specs.Group.{Group, past, HasZone, HasPose, HasPlace, IsGroup, IsTableOf}
use Rattle.plan_words.specs.Groups.{IsLargePlan, looks_at, touches, zones_of, label_of, labels_of, label_for, labelled, zone_in, pose_in, table_of, Fits}
use Rattle.plan_words.specs.Run.{Word, IsLaidOut}
use Rattle.plan_words.specs.Plant.{is_first, first_zones, group_labels, together, fits, all_put_on, sharers, shared_word, words_of, no_word, ArePlans, AreAlonePlans, IsOnWords}
use Rattle.plan_words.proofs.Tables.{is_table, is_plan}
use Rattle.plan_words.proofs.Picked.{picked, picked_rises, found_in}
use Rattle.plan_words.proofs.Grouping.{labelled_group, zone_has, pose_has, place_has, zone_own, place_own, labels_below}
use Rattle.plan_words.proofs.SharedWords.{On, on_within, Listed, somewhere, Unique, Distinct, unique, no_words_unique, no_words_fresh, all_fit}

-- ---- the first zone of each group

any_at : (f : ℕ → Bool) (n : ℕ) → any_below f n ≡ true → (i : ℕ) × (i < n) × (f i ≡ true)
any_at f zero e = cc
any_at f (suc n) e = elim (or_cases (any_below f n) (f n) e) [
  | inl h ↦ let x = any_at f n h in let l = x.1 in (x.0, omega (arith, l), x.2)
  | inr h ↦ (n, omega arith, h)
]

-- a zone before a zone, or this itself, with its label, and the first one that has it
pub record First (labels : List ℕ) (z : ℕ) : Type 0 where
  pub zone : ℕ
  pub within : zone ≤ z
  pub first : is_first labels zone ≡ true
  pub same : label_of labels zone ≡ label_of labels z

first_by : (labels : List ℕ) (z : ℕ) → ((y : ℕ) → y < z → First labels y) → (b : Bool) → any_below (λ y. nat_eq (label_of labels y) (label_of labels z)) z ≡ b → First labels z
first_by labels z before true e =
    let at = any_at (λ y. nat_eq (label_of labels y) (label_of labels z)) z e in
    let l = at.1 in
    let found = before at.0 l in
    let k = found.within in
    record { zone = found.zone; within = omega (arith, k, l); first = found.first; same = found.same ∙ eqb-true _ _ at.2 }
first_by labels z before false e = record { zone = z; within = omega arith; first = ap not e; same = refl }

first_within : (labels : List ℕ) (n z : ℕ) → z < n → First labels z
first_within labels zero z l = absurd (omega (arith, l))
first_within labels (suc n) z l = first_by labels z (λ y m. first_within labels n y (omega (arith, l, m))) (any_below (λ y. nat_eq (label_of labels y) (label_of labels z)) z) refl

not_again : (labels : List ℕ) (z : ℕ) → is_first labels z ≡ true → (y : ℕ) → y < z → label_of labels y ≢ label_of labels z
not_again labels z first y l same =
    let none = is_false _ first in
    let no = any_below_none (λ x. nat_eq (label_of labels x) (label_of labels z)) z none y l in
    let yes = eq-eqb _ _ same in
    let clash : true ≡ false = sym yes ∙ no in
    cc
  where
    is_false : (b : Bool) → not b ≡ true → b ≡ false
    is_false true e = sym e
    is_false false e = refl

one_first : (labels : List ℕ) (y z : ℕ) → is_first labels y ≡ true → is_first labels z ≡ true → label_of labels y ≡ label_of labels z → y ≡ z
one_first labels y z a b same = elim (cases_order y z) [
  | inl e ↦ e
  | inr (inl l) ↦ absurd (not_again labels z b y l same)
  | inr (inr l) ↦ absurd (not_again labels y a z l (sym same))
]

-- ---- the labels of the groups

abbrev pub own_labels : PlanTable → List ℕ
own_labels t = map (label_of (labels_of t)) (first_zones t)

own_long : (t : PlanTable) → length (own_labels t) ≡ length (first_zones t)
own_long t = length-map (first_zones t) (label_of (labels_of t))

all_long : (t : PlanTable) → length (group_labels t) ≡ length (first_zones t) + 1
all_long t =
    let a = own_long t in
    let b = length-append (own_labels t) (zone_count t ∷ []) in
    omega (arith, a, b)

-- a label of the list: that of a first zone, or the last one
pub data LabelAt (t : PlanTable) (k : ℕ) : Type 0 where
  OfFirst : (l : k < length (first_zones t)) → get_or (group_labels t) k past ≡ label_of (labels_of t) (get_or (first_zones t) k past) → LabelAt t k
  OfLoose : k ≡ length (first_zones t) → get_or (group_labels t) k past ≡ zone_count t → LabelAt t k

first_at : (t : PlanTable) (k : ℕ) → k < length (first_zones t) → get_or (group_labels t) k past ≡ label_of (labels_of t) (get_or (first_zones t) k past)
first_at t k l =
    let long = own_long t in
    get_or_append_left (own_labels t) (zone_count t ∷ []) past k (omega (arith, l, long))
    ∙ get_or-map (label_of (labels_of t)) (first_zones t) k past past l

last_at : (t : PlanTable) (k : ℕ) → k ≡ length (first_zones t) → get_or (group_labels t) k past ≡ zone_count t
last_at t k e =
    let long = own_long t in
    let none : k - length (first_zones t) ≡ 0 = omega (arith, e) in
    get_or-append_right (own_labels t) (zone_count t ∷ []) (length (first_zones t)) k past long (omega (arith, e))
    ∙ ap (λ i. get_or (zone_count t ∷ []) i past) none

label_at : (t : PlanTable) (k : ℕ) → k < length (group_labels t) → LabelAt t k
label_at t k l = elim (cases_lt k (length (first_zones t))) [
  | inl m ↦ OfFirst m (first_at t k m)
  | inr m ↦ let all = all_long t in let e : k ≡ length (first_zones t) = omega (arith, l, m, all) in OfLoose e (last_at t k e)
]

-- a first zone is one of the plan
first_in : (t : PlanTable) (k : ℕ) → k < length (first_zones t) → get_or (first_zones t) k past < zone_count t
first_in t k l = (picked_rises (is_first (labels_of t)) (zone_count t)).below k l

first_passes : (t : PlanTable) (k : ℕ) → k < length (first_zones t) → is_first (labels_of t) (get_or (first_zones t) k past) ≡ true
first_passes t k l = (picked (is_first (labels_of t)) 0 (zone_count t)).passes k l

one_number : (t : PlanTable) (k j : ℕ) → k < length (first_zones t) → j < length (first_zones t) → get_or (first_zones t) k past ≡ get_or (first_zones t) j past → k ≡ j
one_number t k j l m e =
    let r = picked_rises (is_first (labels_of t)) (zone_count t) in
    elim (cases_order k j) [
      | inl s ↦ s
      | inr (inl h) ↦ let x = r.rises k j h m in absurd (omega (arith, x, e))
      | inr (inr h) ↦ let x = r.rises j k h l in absurd (omega (arith, x, e))
    ]

-- no two groups have one label
one_label_by : (t : PlanTable) (k j : ℕ) → LabelAt t k → LabelAt t j → get_or (group_labels t) k past ≡ get_or (group_labels t) j past → k ≡ j
one_label_by t k j (OfFirst l e) (OfFirst m f) same =
    one_number t k j l m (one_first (labels_of t) _ _ (first_passes t k l) (first_passes t j m) (sym e ∙ (same ∙ f)))
one_label_by t k j (OfFirst l e) (OfLoose m f) same =
    let below = labels_below t (get_or (first_zones t) k past) (first_in t k l) in
    let is = sym e ∙ (same ∙ f) in
    absurd (omega (arith, below, is))
one_label_by t k j (OfLoose l e) (OfFirst m f) same =
    let below = labels_below t (get_or (first_zones t) j past) (first_in t j m) in
    let is = sym f ∙ (sym same ∙ e) in
    absurd (omega (arith, below, is))
one_label_by t k j (OfLoose l e) (OfLoose m f) same = l ∙ sym m

one_label : (t : PlanTable) → Distinct (group_labels t)
one_label t k j l m same = one_label_by t k j (label_at t k l) (label_at t j m) same

-- each zone's label is there, and the last one
of_zone : (t : PlanTable) (z : ℕ) → z < zone_count t → Listed (group_labels t) (label_of (labels_of t) z)
of_zone t z l =
    let first = first_within (labels_of t) (suc z) z (omega arith) in
    let k = first.within in
    let found = found_in (is_first (labels_of t)) (zone_count t) first.zone (omega (arith, k, l)) first.first in
    let m = found.1.0 in
    let all = all_long t in
    (found.0, omega (arith, m, all), first_at t found.0 m ∙ (ap (label_of (labels_of t)) found.1.1 ∙ first.same))

pub of_loose : (t : PlanTable) → Listed (group_labels t) (zone_count t)
of_loose t = let all = all_long t in (length (first_zones t), omega (arith, all), last_at t (length (first_zones t)) refl)

-- what joins some zones has the label of a zone, or joins none
by_zones : (t : PlanTable) (zones : List ℕ) → ((i : ℕ) → i < length zones → get_or zones i past < zone_count t) → Listed (group_labels t) (label_for t zones)
by_zones t [] all = of_loose t
by_zones t (z ∷ zones) all = of_zone t z (all 0 (omega arith))

-- ---- the word of each label

pub labelled_on : (t : PlanTable) (n : ℕ) → Listed (group_labels t) n → (k : ℕ) × On (sharers t) n k
labelled_on t n l = somewhere t (group_labels t) [] n (inl l)

pub zone_on : (t : PlanTable) (z : ℕ) → z < zone_count t → (k : ℕ) × On (sharers t) (label_of (labels_of t) z) k
zone_on t z l = labelled_on t (label_of (labels_of t) z) (of_zone t z l)

pub pose_on : (t : PlanTable) (p : ℕ) → (k : ℕ) × On (sharers t) (label_for t (zones_of t (looks_at t p))) k
pose_on t p = labelled_on t (label_for t (zones_of t (looks_at t p))) (by_zones t (zones_of t (looks_at t p)) (picked_rises (looks_at t p) (zone_count t)).below)

pub place_on : (t : PlanTable) (p : ℕ) → (k : ℕ) × On (sharers t) (label_for t (zones_of t (touches t p))) k
place_on t p = labelled_on t (label_for t (zones_of t (touches t p))) (by_zones t (zones_of t (touches t p)) (picked_rises (touches t p) (zone_count t)).below)

pub one_word : (t : PlanTable) → Unique (sharers t)
one_word t = unique t (group_labels t) [] (one_label t) (no_words_fresh (group_labels t)) no_words_unique

-- ---- the words

abbrev pub numbered : PlanTable → ℕ → Word
numbered t n = get_or (words_of t) n no_word

pub words_long : (t : PlanTable) → length (words_of t) ≡ length (sharers t)
words_long t = length-map (sharers t) (shared_word t)

within : (t : PlanTable) (n : ℕ) → n < length (words_of t) → n < length (sharers t)
within t n l = let long = words_long t in omega (arith, l, long)

-- what shares a word
abbrev pub on_word : PlanTable → ℕ → List ℕ
on_word t k = get_or (sharers t) k []

pub word_is : (t : PlanTable) (n : ℕ) → n < length (words_of t) → numbered t n ≡ shared_word t (on_word t n)
word_is t n l = get_or-map (shared_word t) (sharers t) n [] no_word (within t n l)

there : (t : PlanTable) (x k : ℕ) → On (sharers t) x k → k < length (words_of t)
there t x k on = let long = words_long t in let l = on_within (sharers t) x k on in omega (arith, l, long)

abbrev own : PlanTable → ℕ → ℕ → Bool
own t k l = list_any (nat_eq l) (on_word t k)

pub is_on_words : (t : PlanTable) → IsLargePlan t → ((n : ℕ) → n < length (words_of t) → IsPlan (numbered t n).table) → IsLaidOut t (length (words_of t)) (numbered t)
is_on_words t large plans = record {
  group = λ n l. subst (λ (w : Word). IsGroup t w.group) (sym (word_is t n l)) (labelled_group t (own t n) large);
  table = λ n l. subst (λ (w : Word). IsTableOf t w.group w.table) (sym (word_is t n l)) (is_table t (labelled t (own t n)) large (labelled_group t (own t n) large));
  plan = plans;
  zone_somewhere = λ z l.
      let at = zone_on t z l in
      let k = there t (label_of (labels_of t) z) at.0 at.1 in
      (at.0, k, subst (λ (w : Word). HasZone w.group z) (sym (word_is t at.0 k)) (zone_has t (own t at.0) z l at.1));
  pose_somewhere = λ p l.
      let at = pose_on t p in
      let k = there t (label_for t (zones_of t (looks_at t p))) at.0 at.1 in
      (at.0, k, subst (λ (w : Word). HasPose w.group p) (sym (word_is t at.0 k)) (pose_has t (own t at.0) p l at.1));
  place_somewhere = λ p l.
      let at = place_on t p in
      let k = there t (label_for t (zones_of t (touches t p))) at.0 at.1 in
      (at.0, k, subst (λ (w : Word). HasPlace w.group p) (sym (word_is t at.0 k)) (place_has t (own t at.0) p l at.1));
  one_word_a_zone = λ n k z l m a b.
      let one = zone_own t (own t n) z (subst (λ (w : Word). HasZone w.group z) (word_is t n l) a) in
      let two = zone_own t (own t k) z (subst (λ (w : Word). HasZone w.group z) (word_is t k m) b) in
      one_word t (label_of (labels_of t) z) n k one.1 two.1;
  one_word_a_place = λ n k p l m a b.
      let one = place_own t (own t n) p (subst (λ (w : Word). HasPlace w.group p) (word_is t n l) a) in
      let two = place_own t (own t k) p (subst (λ (w : Word). HasPlace w.group p) (word_is t k m) b) in
      one_word t (label_for t (zones_of t (touches t p))) n k one.1 two.1;
}

-- ---- what fits a word is a plan

pub fits_from : (t : PlanTable) (g : Group) → Fits t g → fits t g ≡ true
fits_from t g f =
    and_from (nat_le t.machines 30 && nat_le (length g.zones) 10 && nat_le (length g.poses) 64 && nat_le (length g.places) 16) (nat_le (word_width (table_of t g)) 64)
    (and_from (nat_le t.machines 30 && nat_le (length g.zones) 10 && nat_le (length g.poses) 64) (nat_le (length g.places) 16)
    (and_from (nat_le t.machines 30 && nat_le (length g.zones) 10) (nat_le (length g.poses) 64)
    (and_from (nat_le t.machines 30) (nat_le (length g.zones) 10) (le-leb _ _ f.machines) (le-leb _ _ f.zones))
    (le-leb _ _ f.poses))
    (le-leb _ _ f.places))
    (le-leb _ _ f.width)

pub fits_from_test : (t : PlanTable) (g : Group) → fits t g ≡ true → Fits t g
fits_from_test t g e =
    let four = and_parts (nat_le t.machines 30 && nat_le (length g.zones) 10 && nat_le (length g.poses) 64 && nat_le (length g.places) 16) (nat_le (word_width (table_of t g)) 64) e in
    let three = and_parts (nat_le t.machines 30 && nat_le (length g.zones) 10 && nat_le (length g.poses) 64) (nat_le (length g.places) 16) four.0 in
    let two = and_parts (nat_le t.machines 30 && nat_le (length g.zones) 10) (nat_le (length g.poses) 64) three.0 in
    let one = and_parts (nat_le t.machines 30) (nat_le (length g.zones) 10) two.0 in
    record { machines = leb-true _ _ one.0; zones = leb-true _ _ one.1; poses = leb-true _ _ two.1; places = leb-true _ _ three.1; width = leb-true _ _ four.1 }

-- the other way round: the tables of a plan have the group's rows
fits_of_plan : (t : PlanTable) (g : Group) → IsPlan (table_of t g) → Fits t g
fits_of_plan t g p =
    let zones = length-map g.zones (zone_in t g) in
    let poses = length-map g.poses (pose_in t g) in
    let places = length-map g.places (place_row t) in
    record {
      machines = p.machines_at_most;
      zones = let h = p.zones_at_most in omega (arith, h, zones);
      poses = let h = p.poses_at_most in omega (arith, h, poses);
      places = let h = p.places_at_most in omega (arith, h, places);
      width = p.fits_a_word;
    }

pub plan_fits : (t : PlanTable) (g : Group) → IsPlan (table_of t g) → fits t g ≡ true
plan_fits t g p = fits_from t g (fits_of_plan t g p)

pub fit_is_plan : (t : PlanTable) (own : ℕ → Bool) → IsLargePlan t → fits t (labelled t own) ≡ true → IsPlan (table_of t (labelled t own))
fit_is_plan t own large e = is_plan t (labelled t own) large (labelled_group t own large) (fits_from_test t (labelled t own) e)

pub words_are_plans : (t : PlanTable) → IsLargePlan t → AreAlonePlans t (group_labels t) → ArePlans (map (shared_word t) (sharers t))
words_are_plans t large own n l =
    let all = all_fit t (group_labels t) [] (λ j m. plan_fits t (together t (get_or (group_labels t) j past ∷ [])) (own j m)) (λ i m. absurd (omega (arith, m))) in
    let m = within t n l in
    subst (λ (w : Word). IsPlan w.table) (sym (word_is t n l)) (fit_is_plan t (λ x. list_any (nat_eq x) (on_word t n)) large (all n m))

pub made_plans : (t : PlanTable) (groups : List ℕ) (made : List (List ℕ)) → groups ≡ group_labels t → made ≡ all_put_on t groups [] → IsLargePlan t → AreAlonePlans t groups → ArePlans (map (shared_word t) made)
made_plans t groups made all is large own =
    subst (λ ws. ArePlans (map (shared_word t) ws)) (sym (is ∙ ap (λ gs. all_put_on t gs []) all)) (words_are_plans t large (subst (AreAlonePlans t) all own))

pub on_words : (t : PlanTable) (words : List Word) → words ≡ words_of t → IsLargePlan t → ArePlans words → length words ≤ 16 → IsOnWords (record { plant = t; words = words })
on_words t words are large plans few = record {
  large = large;
  laid_out = subst (λ (ws : List Word). IsLaidOut t (length ws) (λ n. get_or ws n no_word)) (sym are) (is_on_words t large (subst ArePlans are plans));
  few = few;
}
