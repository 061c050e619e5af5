-- Groups go to the first word that has room; no two words fit one; and a plan is on one word.
use Rattle.std.proofs.Common.{◌≡◌, ◌≢◌, ℕ, zero, suc, ◌+◌, ◌-◌, ◌<◌, ◌≤◌, ◌⊎◌, inl, inr, Bool, true, false, ◌&&◌, ◌||◌, nat_eq, nat_lt, List, [], ◌∷◌, ◌++◌, length, map, filter, get_or, replicate, Option, Some, None, option_map, refl, sym, subst, ap, ◌∙◌, arith, if◌then◌else◌}
use Rattle.std.specs.List.{list_any, range_with_len}
use Rattle.std.proofs.lemmas.Bool.{eqb-true, ltb-true, cases_lt, and_parts, or_cases, or_left, or_right}
use Rattle.std.proofs.lemmas.List.{length-map, length-append, get_or-map, get_or_past, get_or_append_left, get_or-append_right, get_or-replicate, length-replicate}
use Rattle.std.proofs.lemmas.List.FromFn.{length-range_with_len, get_or-range_with_len, fill_by_all}
use Rattle.plan_rules.proofs.lemmas.Puts.{same_or_not}
use Rattle.plan_types.specs.Kept.{filled}
use Rattle.plan_types.specs.Below.{sum_below}
use Rattle.plan_types.specs.declared.posture.Posture.{Posture}
use Rattle.plan_types.specs.declared.table.Way.{Way}
use Rattle.plan_types.specs.declared.table.PlanZone.{PlanZone}
use Rattle.plan_types.specs.declared.table.PlanPose.{PlanPose}
use Rattle.plan_types.specs.declared.table.PlanPlace.{PlanPlace}
use Rattle.plan_types.specs.Table.{PlanTable, whole_table, zone_count, pose_count, place_count, zone_row, pose_row, place_row, host_of, guest_of, posture_of, is_place_of, keeper_of, zone_bits, word_width, no_zone, no_pose, no_place}
use Rattle.plan_types.specs.Plan.{IsPlan, leads}
use Rattle.plan_words.specs.Group.{Group, past}
use Rattle.plan_words.specs.Groups.{IsLargePlan, label_of, labels_of, label_for, looks_at, touches, zones_of, labelled, number_in, way_in, zone_in, pose_in, table_of, Fits}
use Rattle.plan_words.specs.Run.{Word}
use Rattle.plan_words.specs.Plant.{group_labels, together, fits, first_room, put_on, all_put_on, sharers, shared_word, words_of}
use Rattle.plan_words.specs.FirstFit.{GroupsGoFirst, NoTwoFit, all_rows, ten_wide, own_table, whole_word, PlansStay}
use Rattle.plan_words.proofs.CutLoops.{any_append}
use Rattle.plan_words.proofs.Tables.{number_found}
use Rattle.plan_words.proofs.SharedWords.{On, on_within, put_other, put_here, put_within, placed, stays, room_within, room_fits, none_before, RoomAt}
use Rattle.plan_words.proofs.WordOrder.{fits_from, fits_from_test, of_loose, labelled_on, zone_on, pose_on, place_on}
use Rattle.plan_words.proofs.Widths.{bits_on, width_is, Within, fewer_fit}

doesnt_fit : (t : PlanTable) (g : Group) → fits t g ≡ false → ¬ Fits t g
doesnt_fit t g e f = let clash : true ≡ false = sym (fits_from t g f) ∙ e in cc

pub groups_go_first : GroupsGoFirst
groups_go_first t n words = record {
  at_most = room_within t n words;
  room = λ l. fits_from_test t (together t (get_or words (first_room t n words) [] ++ n ∷ [])) (room_fits t n words l);
  none_before = λ k l. doesnt_fit t (together t (get_or words k [] ++ n ∷ [])) (none_before t n words k l);
}

-- ---- no two words fit one

abbrev Has : List ℕ → ℕ → Bool
Has labels l = list_any (nat_eq l) labels

-- a group of the later word came when the earlier one had no room for it
record Apart (t : PlanTable) (words : List (List ℕ)) (j k : ℕ) : Type 0 where
  group : ℕ
  old : List ℕ
  later : On words group k
  earlier : Within (Has old) (Has (get_or words j []))
  no_room : fits t (together t (old ++ group ∷ [])) ≡ false

abbrev AllApart : PlanTable → List (List ℕ) → Type 0
AllApart t words = (j k : ℕ) → j < k → k < length words → Apart t words j k

kept : (n k : ℕ) (words : List (List ℕ)) → k ≤ length words → (j : ℕ) → Within (Has (get_or words j [])) (Has (get_or (put_on n k words) j []))
kept n k words m j l e = stays n k words m l j e

put_apart : (t : PlanTable) (n : ℕ) (words : List (List ℕ)) → AllApart t words → AllApart t (put_on n (first_room t n words) words)
put_apart t n words apart j k l m =
    let r = first_room t n words in
    let most = room_within t n words in
    elim (cases_lt k (length words)) [
      | inl h ↦
          let a = apart j k l h in
          record {
            group = a.group;
            old = a.old;
            later = stays n r words most a.group k a.later;
            earlier = λ x e. kept n r words most j x (a.earlier x e);
            no_room = a.no_room;
          }
      | inr h ↦ elim (same_or_not k r) [
        | inl e ↦ record {
          group = n;
          old = get_or words j [];
          later = subst (On (put_on n r words) n) (sym e) (placed n r words most);
          earlier = kept n r words most j;
          no_room = none_before t n words j (subst (λ x. j < x) e l);
        }
        | inr ne ↦ let o = put_within n r words most k ne m in absurd (omega (arith, h, o))
      ]
    ]

all_apart : (t : PlanTable) (labels : List ℕ) (words : List (List ℕ)) → AllApart t words → AllApart t (all_put_on t labels words)
all_apart t [] words apart = apart
all_apart t (n ∷ labels) words apart = all_apart t labels (put_on n (first_room t n words) words) (put_apart t n words apart)

in_both : (t : PlanTable) (words : List (List ℕ)) (j k : ℕ) (a : Apart t words j k) → Within (Has (a.old ++ a.group ∷ [])) (Has (get_or words j [] ++ get_or words k []))
in_both t words j k a l e =
    let first = get_or words j [] in
    let second = get_or words k [] in
    any_append (nat_eq l) first second ∙ elim (or_cases (Has a.old l) (nat_eq l a.group || false) (sym (any_append (nat_eq l) a.old (a.group ∷ [])) ∙ e)) [
      | inl h ↦ or_left (Has first l) (Has second l) (a.earlier l h)
      | inr h ↦ or_right (Has first l) (Has second l) (elim (or_cases (nat_eq l a.group) false h) [
        | inl x ↦ subst (λ y. Has second y ≡ true) (sym (eqb-true l a.group x)) a.later
        | inr x ↦ cc
      ])
    ]

pub no_two_fit : NoTwoFit
no_two_fit t large j k l m f =
    let a = all_apart t (group_labels t) [] (λ x y _ h. absurd (omega (arith, h))) j k l m in
    let narrow = fewer_fit t (Has (a.old ++ a.group ∷ [])) (Has (get_or (sharers t) j [] ++ get_or (sharers t) k [])) large (in_both t (sharers t) j k a) f in
    doesnt_fit t (together t (a.old ++ a.group ∷ [])) a.no_room narrow

-- ---- a plan is on one word

any_label : ℕ → Bool
any_label l = true

filter_all : (test : ℕ → Bool) (xs : List ℕ) → ((i : ℕ) → i < length xs → test (get_or xs i past) ≡ true) → filter test xs ≡ xs
filter_all test [] all = refl
filter_all test (x ∷ xs) all =
    ap (λ b. if b then x ∷ filter test xs else filter test xs) (all 0 (omega arith)) ∙ ap (λ ys. x ∷ ys) (filter_all test xs (λ i l. all (suc i) (omega (arith, l))))

range_all : (test : ℕ → Bool) (n : ℕ) → ((x : ℕ) → x < n → test x ≡ true) → filter test (range_with_len 0 n) ≡ range_with_len 0 n
range_all test n all =
    let long = length-range_with_len 0 n in
    filter_all test (range_with_len 0 n) (λ i l.
    let below : i < n = omega (arith, l, long) in
    let at = get_or-range_with_len 0 n i past below in
    let is : get_or (range_with_len 0 n) i past ≡ i = omega (arith, at) in
    ap test is ∙ all i below)

-- groups that have all labels have all rows
has_all : (t : PlanTable) (own : ℕ → Bool) → ((z : ℕ) → z < zone_count t → own (label_of (labels_of t) z) ≡ true) → ((p : ℕ) → p < pose_count t → own (label_for t (zones_of t (looks_at t p))) ≡ true)
    → ((p : ℕ) → p < place_count t → own (label_for t (zones_of t (touches t p))) ≡ true) → labelled t own ≡ all_rows t
has_all t own zones poses places =
    ap (λ zs. let g : Group = record { zones = zs; poses = (labelled t own).poses; places = (labelled t own).places } in g) (range_all (λ z. own (label_of (labels_of t) z)) (zone_count t) zones)
    ∙ (ap (λ ps. let g : Group = record { zones = (all_rows t).zones; poses = ps; places = (labelled t own).places } in g) (range_all (λ p. own (label_for t (zones_of t (looks_at t p)))) (pose_count t) poses)
    ∙ ap (λ ps. let g : Group = record { zones = (all_rows t).zones; poses = (all_rows t).poses; places = ps } in g) (range_all (λ p. own (label_for t (zones_of t (touches t p)))) (place_count t) places))

all_is : (t : PlanTable) → labelled t any_label ≡ all_rows t
unfolding any_label
all_is t = has_all t any_label (λ _ _. refl) (λ _ _. refl) (λ _ _. refl)

all_fits : (t : PlanTable) → IsLargePlan t → IsPlan t → Fits t (labelled t any_label)
unfolding any_label
all_fits t large p =
    let is = all_is t in
    let zones = ap (λ (g : Group). length g.zones) is ∙ length-range_with_len 0 (zone_count t) in
    let poses = ap (λ (g : Group). length g.poses) is ∙ length-range_with_len 0 (pose_count t) in
    let places = ap (λ (g : Group). length g.places) is ∙ length-range_with_len 0 (place_count t) in
    let width : word_width (table_of t (labelled t any_label)) ≡ sum_below (zone_bits t) (zone_count t) + length (labelled t any_label).places + 21 = width_is t any_label large in
    let a = p.zones_at_most in
    let b = p.poses_at_most in
    let c = p.places_at_most in
    let d = p.fits_a_word in
    record {
      machines = p.machines_at_most;
      zones = omega (arith, zones, a);
      poses = omega (arith, poses, b);
      places = omega (arith, places, c);
      width = omega (arith, width, places, d);
    }

one_long : (t : PlanTable) → IsLargePlan t → IsPlan t → length (sharers t) ≡ 1
unfolding any_label
one_long t large p =
    let last = labelled_on t (zone_count t) (of_loose t) in
    let some = on_within (sharers t) (zone_count t) last.0 last.1 in
    elim (cases_lt 1 (length (sharers t))) [
      | inl h ↦ absurd (no_two_fit t large 0 1 (omega arith) h (fewer_fit t (Has (get_or (sharers t) 0 [] ++ get_or (sharers t) 1 [])) any_label large (λ _ _. refl) (all_fits t large p)))
      | inr h ↦ omega (arith, some, h)
    ]

-- all labels are on the first word
on_first : (t : PlanTable) → length (sharers t) ≡ 1 → (n : ℕ) → ((k : ℕ) × On (sharers t) n k) → Has (get_or (sharers t) 0 []) n ≡ true
on_first t one n on =
    let l = on_within (sharers t) n on.0 on.1 in
    let e : on.0 ≡ 0 = omega (arith, l, one) in
    subst (On (sharers t) n) e on.1

first_has_all : (t : PlanTable) → length (sharers t) ≡ 1 → together t (get_or (sharers t) 0 []) ≡ all_rows t
first_has_all t one =
    has_all t (Has (get_or (sharers t) 0 [])) (λ z l. on_first t one (label_of (labels_of t) z) (zone_on t z l)) (λ p _. on_first t one (label_for t (zones_of t (looks_at t p))) (pose_on t p))
    (λ p _. on_first t one (label_for t (zones_of t (touches t p))) (place_on t p))

-- its numbers are the plan's
number_of : (n p : ℕ) → p < n → number_in (range_with_len 0 n) p ≡ p
number_of n p l =
    let long = length-range_with_len 0 n in
    let at = get_or-range_with_len 0 n p past l in
    let found = number_found (range_with_len 0 n) p (p, (omega (arith, l, long), omega (arith, at))) in
    let below = found.0 in
    let k = number_in (range_with_len 0 n) p in
    let here = get_or-range_with_len 0 n k past (omega (arith, below, long)) in
    let there = found.1 in
    omega (arith, here, there)

way_same : (t : PlanTable) (giver receiver : ℕ) (w : Option Way) → leads t giver receiver w ≡ true → option_map (way_in (all_rows t)) w ≡ w
way_same t giver receiver None e = refl
way_same t giver receiver (Some w) e =
    let parts = and_parts (is_place_of t w.from giver) (is_place_of t w.to receiver) e in
    let from = ltb-true _ _ (and_parts (nat_lt w.from (place_count t)) (nat_eq (keeper_of t w.from) giver) parts.0).0 in
    let to = ltb-true _ _ (and_parts (nat_lt w.to (place_count t)) (nat_eq (keeper_of t w.to) receiver) parts.1).0 in
    ap (λ a. let x : Way = record { from = a; to = number_in (all_rows t).places w.to } in Some x) (number_of (place_count t) w.from from)
    ∙ ap (λ a. let x : Way = record { from = w.from; to = a } in Some x) (number_of (place_count t) w.to to)

zone_same : (t : PlanTable) → IsPlan t → (z : ℕ) → z < zone_count t → zone_row t z ≡ zone_in t (all_rows t) z
zone_same t p z l =
    let row = zone_row t z in
    sym (ap (λ w. let r : PlanZone = record { host = row.host; guest = row.guest; joins = row.joins; inward = w; outward = option_map (way_in (all_rows t)) row.outward } in r)
    (way_same t (guest_of t z) (host_of t z) row.inward (p.inward_to_host z l))
    ∙ ap (λ w. let r : PlanZone = record { host = row.host; guest = row.guest; joins = row.joins; inward = row.inward; outward = w } in r) (way_same t (host_of t z) (guest_of t z) row.outward (p.outward_to_guest z l)))

-- past the zones of the plan a pose gives nothing
none_past : (t : PlanTable) → IsPlan t → (p z : ℕ) → p < pose_count t → zone_count t ≤ z → z < 10 → posture_of t p z ≡ None
none_past t is p z l m ten = by (posture_of t p z) refl
  where
    by : (o : Option Posture) → posture_of t p z ≡ o → posture_of t p z ≡ None
    by None e = e
    by (Some q) e = let h = (is.pose_of_host p z q l ten e).0 in absurd (omega (arith, h, m))

none_filled : (n i : ℕ) → get_or (replicate n (let o : Option Posture = None in o)) i None ≡ None
none_filled n i = elim (cases_lt i n) [
  | inl l ↦ get_or-replicate n i None None l
  | inr m ↦ let long = length-replicate n (let o : Option Posture = None in o) in get_or_past (replicate n None) i None (omega (arith, m, long))
]

gives_same : (t : PlanTable) → IsPlan t → (p : ℕ) → p < pose_count t → filled (map (posture_of t p) (range_with_len 0 (zone_count t))) None 10 ≡ map (posture_of t p) (range_with_len 0 10)
gives_same t is p l =
    let given = map (posture_of t p) (range_with_len 0 (zone_count t)) in
    let range = length-range_with_len 0 (zone_count t) in
    let long = length-map (range_with_len 0 (zone_count t)) (posture_of t p) in
    let rest = length-replicate (10 - length given) (let o : Option Posture = None in o) in
    let all = length-append given (replicate (10 - length given) None) in
    let few = is.zones_at_most in
    fill_by_all (posture_of t p) (filled given None 10) 10 None (omega (arith, all, rest, long, range, few)) (λ z ten. elim (cases_lt z (zone_count t)) [
      | inl h ↦
          let at = get_or-range_with_len 0 (zone_count t) z past h in
          let same : get_or (range_with_len 0 (zone_count t)) z past ≡ z = omega (arith, at) in
          get_or_append_left given (replicate (10 - length given) None) None z (omega (arith, h, long, range))
          ∙ (get_or-map (posture_of t p) (range_with_len 0 (zone_count t)) z past None (omega (arith, h, range)) ∙ ap (posture_of t p) same)
      | inr h ↦
          get_or-append_right given (replicate (10 - length given) None) (length given) z None refl (omega (arith, h, long, range))
          ∙ (none_filled (10 - length given) (z - length given) ∙ sym (none_past t is p z l h ten))
    ])

pose_same : (t : PlanTable) → IsPlan t → (p : ℕ) → p < pose_count t → ten_wide (pose_row t p) ≡ pose_in t (all_rows t) p
pose_same t is p l = sym (ap (λ gs. let r : PlanPose = record { machine = (pose_row t p).machine; after_moving = (pose_row t p).after_moving; gives = gs } in r) (gives_same t is p l))

table_same : (t : PlanTable) → IsPlan t → table_of t (all_rows t) ≡ own_table t
table_same t is =
    let zones : t.zones ≡ map (zone_in t (all_rows t)) (range_with_len 0 (zone_count t)) = fill_by_all (zone_in t (all_rows t)) t.zones (zone_count t) no_zone refl (zone_same t is) in
    let poses : map ten_wide t.poses ≡ map (pose_in t (all_rows t)) (range_with_len 0 (pose_count t)) =
    fill_by_all (pose_in t (all_rows t)) (map ten_wide t.poses) (pose_count t) (ten_wide no_pose) (length-map t.poses ten_wide) (λ p l. get_or-map ten_wide t.poses p no_pose (ten_wide no_pose) l ∙ pose_same t is p l) in
    let places : t.places ≡ map (place_row t) (range_with_len 0 (place_count t)) = fill_by_all (place_row t) t.places (place_count t) no_place refl (λ p l. refl) in
    ap (λ zs. whole_table t.machines zs (map (pose_in t (all_rows t)) (range_with_len 0 (pose_count t))) (map (place_row t) (range_with_len 0 (place_count t)))) (sym zones)
    ∙ (ap (λ ps. whole_table t.machines t.zones ps (map (place_row t) (range_with_len 0 (place_count t)))) (sym poses) ∙ ap (λ ps. whole_table t.machines t.zones (map ten_wide t.poses) ps) (sym places))

one_item : (xs : List (List ℕ)) → length xs ≡ 1 → xs ≡ get_or xs 0 [] ∷ []
one_item [] e = absurd (omega (arith, e))
one_item (x ∷ []) e = refl
one_item (x ∷ y ∷ xs) e = absurd (omega (arith, e))

one_word : (t : PlanTable) → IsLargePlan t → IsPlan t → words_of t ≡ whole_word t ∷ []
one_word t large is =
    let one = one_long t large is in
    let all = first_has_all t one in
    ap (map (shared_word t)) (one_item (sharers t) one)
    ∙ (ap (λ g. (let w : Word = record { group = g; table = table_of t g } in w) ∷ []) all
    ∙ ap (λ u. (let w : Word = record { group = all_rows t; table = u } in w) ∷ []) (table_same t is))

ten_same : (row : PlanPose) → length row.gives ≡ 10 → ten_wide row ≡ row
ten_same row e = ap (λ gs. let r : PlanPose = record { machine = row.machine; after_moving = row.after_moving; gives = gs } in r) (sym (fill_by_all (λ z. get_or row.gives z None) row.gives 10 None e (λ z l. refl)))

map_same : (rows : List PlanPose) → ((p : ℕ) → p < length rows → length (get_or rows p no_pose).gives ≡ 10) → map ten_wide rows ≡ rows
map_same [] all = refl
map_same (row ∷ rows) all = ap (λ r. r ∷ map ten_wide rows) (ten_same row (all 0 (omega arith))) ∙ ap (λ rs. row ∷ rs) (map_same rows (λ p l. all (suc p) (omega (arith, l))))

pub plans_stay : PlansStay
plans_stay = record {
  one_word = one_word;
  own = λ t all. ap (λ ps. whole_table t.machines t.zones ps t.places) (map_same t.poses all);
}
