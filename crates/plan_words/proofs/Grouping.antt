-- The computed groups are groups, and each zone, pose and place is in one.
use Rattle.std.proofs.Common.{◌≡◌, ℕ, ◌+◌, ◌-◌, ◌<◌, ◌⊎◌, inl, inr, zero, suc, Bool, true, false, ◌&&◌, ◌||◌, nat_eq, nat_lt, List, [], ◌∷◌, ◌++◌, length, get_or, Option, Some, None, is_some, refl, sym, subst, ap, ◌∙◌, arith, if◌then◌else◌}
use Rattle.std.specs.List.{range_with_len}
use Rattle.std.proofs.lemmas.Bool.{eqb-true, ltb-true, cases_lt, and_parts, and_from, or_left, or_right}
use Rattle.std.proofs.lemmas.Option.{same_Some}
use Rattle.std.proofs.lemmas.List.{length-map, length-append, get_or_append_left, get_or-append_right}
use Rattle.std.proofs.lemmas.List.FromFn.{length-range_with_len, get_or-range_with_len, get_or-map-range_with_len}
use Rattle.plan_types.specs.declared.posture.Posture.{Posture}
use Rattle.plan_types.specs.declared.posture.Posture.TheVariants.{Closed, Moving, OpenIn, OpenOut}
use Rattle.plan_types.specs.declared.table.Way.{Way}
use Rattle.plan_types.specs.declared.table.Transfer.{Transfer}
use Rattle.plan_types.specs.Table.{PlanTable, zone_count, pose_count, place_count, host_of, guest_of, machine_of, zone_row, pose_row, posture_of, is_moving_pose, transfer_of, transfer_by, is_place_of, keeper_of, joins, space_of}
use Rattle.plan_types.specs.Plan.{leads}
use Rattle.plan_rules.proofs.lemmas.Puts.{nat_eq-self}
use Rattle.plan_words.specs.Group.{past, HasZone, HasPose, HasPlace, LooksAt, Touches, IsGroup}
use Rattle.plan_words.specs.Groups.{IsLargePlan, looks_at, is_end, touches, zones_of, with_space, by_poses, by_places, by_spaces, joined, label_of, labels_of, label_for, labelled, group_of, word_of, Fits}
use Rattle.plan_words.specs.Run.{IsLaidOut}
use Rattle.plan_words.proofs.Tables.{Found, is_table, is_plan}
use Rattle.plan_words.proofs.Picked.{picked, picked_rises, found_in}
use Rattle.plan_words.proofs.Labels.{all_join, all_below, all_long}

-- ---- the tests say what the group's rules say

some_is : {A : Type 0} (o : Option A) (a : A) → o ≡ Some a → is_some o ≡ true
some_is o a e = ap is_some e

looks : (t : PlanTable) (p z : ℕ) → LooksAt t p z → looks_at t p z ≡ true
looks t p z (inl (q, e)) = or_left (is_some (posture_of t p z)) ((is_moving_pose t p || (pose_row t p).after_moving) && nat_eq (host_of t z) (machine_of t p)) (some_is (posture_of t p z) q e)
looks t p z (inr (moves, host)) =
    or_right (is_some (posture_of t p z)) ((is_moving_pose t p || (pose_row t p).after_moving) && nat_eq (host_of t z) (machine_of t p))
    (and_from (is_moving_pose t p || (pose_row t p).after_moving) (nat_eq (host_of t z) (machine_of t p)) (moving moves) (ap (λ n. nat_eq n (machine_of t p)) host ∙ nat_eq-self (machine_of t p)))
  where
    moving : (is_moving_pose t p ≡ true) ⊎ ((pose_row t p).after_moving ≡ true) → (is_moving_pose t p || (pose_row t p).after_moving) ≡ true
    moving (inl e) = or_left (is_moving_pose t p) (pose_row t p).after_moving e
    moving (inr e) = or_right (is_moving_pose t p) (pose_row t p).after_moving e

end_of : (giver receiver : ℕ) (w : Option Way) (way : Transfer) (p : ℕ) → transfer_by giver receiver w ≡ Some way → (way.from ≡ p) ⊎ (way.to ≡ p) → is_end w p ≡ true
end_of giver receiver None way p e at = cc
end_of giver receiver (Some w) way p e (inl at) =
    let x : Transfer = record { giver = giver; receiver = receiver; from = w.from; to = w.to } in
    let same : x ≡ way = same_Some x way e in
    or_left (nat_eq w.from p) (nat_eq w.to p) (ap (λ n. nat_eq n p) (ap (λ (y : Transfer). y.from) same ∙ at) ∙ nat_eq-self p)
end_of giver receiver (Some w) way p e (inr at) =
    let x : Transfer = record { giver = giver; receiver = receiver; from = w.from; to = w.to } in
    let same : x ≡ way = same_Some x way e in
    or_right (nat_eq w.from p) (nat_eq w.to p) (ap (λ n. nat_eq n p) (ap (λ (y : Transfer). y.to) same ∙ at) ∙ nat_eq-self p)

touching_by : (t : PlanTable) (z p : ℕ) (q : Posture) (way : Transfer) → transfer_of t z q ≡ Some way → (way.from ≡ p) ⊎ (way.to ≡ p) → touches t p z ≡ true
touching_by t z p Closed way e at = cc
touching_by t z p Moving way e at = cc
touching_by t z p OpenIn way e at = or_left (is_end (zone_row t z).inward p) (is_end (zone_row t z).outward p) (end_of (guest_of t z) (host_of t z) (zone_row t z).inward way p e at)
touching_by t z p OpenOut way e at = or_right (is_end (zone_row t z).inward p) (is_end (zone_row t z).outward p) (end_of (host_of t z) (guest_of t z) (zone_row t z).outward way p e at)

touching : (t : PlanTable) (z p : ℕ) → Touches t z p → touches t p z ≡ true
touching t z p x = touching_by t z p x.0 x.1 x.2 x.3

-- a place at the end of a way is one of the plan
end_in : (t : PlanTable) (giver receiver : ℕ) (w : Option Way) (way : Transfer) (p : ℕ) → leads t giver receiver w ≡ true → transfer_by giver receiver w ≡ Some way → (way.from ≡ p) ⊎ (way.to ≡ p) → p < place_count t
end_in t giver receiver None way p e f at = cc
end_in t giver receiver (Some w) way p e f at =
    let x : Transfer = record { giver = giver; receiver = receiver; from = w.from; to = w.to } in
    let same : x ≡ way = same_Some x way f in
    let parts = and_parts (is_place_of t w.from giver) (is_place_of t w.to receiver) e in
    let from : w.from < place_count t = ltb-true _ _ (and_parts (nat_lt w.from (place_count t)) (nat_eq (keeper_of t w.from) giver) parts.0).0 in
    let to : w.to < place_count t = ltb-true _ _ (and_parts (nat_lt w.to (place_count t)) (nat_eq (keeper_of t w.to) receiver) parts.1).0 in
    elim at [
      | inl h ↦ subst (λ n. n < place_count t) (ap (λ (y : Transfer). y.from) same ∙ h) from
      | inr h ↦ subst (λ n. n < place_count t) (ap (λ (y : Transfer). y.to) same ∙ h) to
    ]

touched_in_by : (t : PlanTable) → IsLargePlan t → (z p : ℕ) → z < zone_count t → (q : Posture) (way : Transfer) → transfer_of t z q ≡ Some way → (way.from ≡ p) ⊎ (way.to ≡ p) → p < place_count t
touched_in_by t k z p l Closed way e at = cc
touched_in_by t k z p l Moving way e at = cc
touched_in_by t k z p l OpenIn way e at = end_in t (guest_of t z) (host_of t z) (zone_row t z).inward way p (k.inward_to_host z l) e at
touched_in_by t k z p l OpenOut way e at = end_in t (host_of t z) (guest_of t z) (zone_row t z).outward way p (k.outward_to_guest z l) e at

-- ---- the sets of zones that are joined

pub poses_long : (t : PlanTable) → length (by_poses t) ≡ pose_count t
poses_long t = length-map (range_with_len 0 (pose_count t)) (λ p. zones_of t (looks_at t p)) ∙ length-range_with_len 0 (pose_count t)

pub places_long : (t : PlanTable) → length (by_places t) ≡ place_count t
places_long t = length-map (range_with_len 0 (place_count t)) (λ p. zones_of t (touches t p)) ∙ length-range_with_len 0 (place_count t)

-- the sets by poses and by places
abbrev pub by_both : PlanTable → List (List ℕ)
by_both t = by_poses t ++ by_places t

pub spaces_long : (t : PlanTable) → length (by_spaces t) ≡ zone_count t - 1
spaces_long t = length-map (range_with_len 0 (zone_count t - 1)) (with_space t) ∙ length-range_with_len 0 (zone_count t - 1)

pub both_long : (t : PlanTable) → length (by_both t) ≡ pose_count t + place_count t
both_long t = let a = poses_long t in let b = places_long t in let long = length-append (by_poses t) (by_places t) in omega (arith, a, b, long)

pub pose_set : (t : PlanTable) (p : ℕ) → p < pose_count t → (p < length (joined t)) × (get_or (joined t) p [] ≡ zones_of t (looks_at t p))
pose_set t p l =
    let a = poses_long t in
    let both = both_long t in
    let long = length-append (by_both t) (by_spaces t) in (
      omega (arith, l, both, long),
      get_or_append_left (by_both t) (by_spaces t) [] p (omega (arith, l, both))
          ∙ (get_or_append_left (by_poses t) (by_places t) [] p (omega (arith, l, a))
          ∙ get_or-map-range_with_len (λ x. zones_of t (looks_at t x)) 0 (pose_count t) p p [] l (omega arith)),
    )

pub place_set : (t : PlanTable) (p : ℕ) → p < place_count t → (pose_count t + p < length (joined t)) × (get_or (joined t) (pose_count t + p) [] ≡ zones_of t (touches t p))
place_set t p l =
    let a = poses_long t in
    let both = both_long t in
    let long = length-append (by_both t) (by_spaces t) in (
      omega (arith, l, both, long),
      get_or_append_left (by_both t) (by_spaces t) [] (pose_count t + p) (omega (arith, l, both))
          ∙ (get_or-append_right (by_poses t) (by_places t) (pose_count t) (pose_count t + p) [] a (omega arith)
          ∙ (ap (λ n. get_or (by_places t) n []) (omega arith)
          ∙ get_or-map-range_with_len (λ x. zones_of t (touches t x)) 0 (place_count t) p p [] l (omega arith))),
    )

pub space_set : (t : PlanTable) (z : ℕ) → z < zone_count t - 1 → (pose_count t + place_count t + z < length (joined t)) × (get_or (joined t) (pose_count t + place_count t + z) [] ≡ with_space t z)
space_set t z l =
    let a = spaces_long t in
    let both = both_long t in
    let long = length-append (by_both t) (by_spaces t) in (
      omega (arith, l, a, both, long),
      get_or-append_right (by_both t) (by_spaces t) (pose_count t + place_count t) (pose_count t + place_count t + z) [] both (omega arith)
          ∙ (ap (λ n. get_or (by_spaces t) n []) (omega arith)
          ∙ get_or-map-range_with_len (with_space t) 0 (zone_count t - 1) z z [] l (omega arith)),
    )

-- which set one is
pub data SetBy (t : PlanTable) (k : ℕ) : Type 0 where
  ByPose : (p : ℕ) → p < pose_count t → get_or (joined t) k [] ≡ zones_of t (looks_at t p) → SetBy t k
  ByPlace : (p : ℕ) → p < place_count t → get_or (joined t) k [] ≡ zones_of t (touches t p) → SetBy t k
  BySpace : (z : ℕ) → z < zone_count t - 1 → get_or (joined t) k [] ≡ with_space t z → SetBy t k

pub set_cases : (t : PlanTable) (k : ℕ) → k < length (joined t) → SetBy t k
set_cases t k l = elim (cases_lt k (pose_count t)) [
  | inl m ↦ ByPose k m (pose_set t k m).1
  | inr m ↦ elim (cases_lt k (pose_count t + place_count t)) [
    | inl o ↦
        let p = k - pose_count t in
        let at : pose_count t + p ≡ k = omega (arith, m) in
        let in_plan : p < place_count t = omega (arith, m, o) in
        ByPlace p in_plan (ap (λ n. get_or (joined t) n []) (sym at) ∙ (place_set t p in_plan).1)
    | inr o ↦
        let a = spaces_long t in
        let both = both_long t in
        let long = length-append (by_both t) (by_spaces t) in
        let z = k - (pose_count t + place_count t) in
        let at : pose_count t + place_count t + z ≡ k = omega (arith, o) in
        let in_plan : z < zone_count t - 1 = omega (arith, l, o, a, both, long) in
        BySpace z in_plan (ap (λ n. get_or (joined t) n []) (sym at) ∙ (space_set t z in_plan).1)
  ]
]

pub start_long : (t : PlanTable) → length (range_with_len 0 (zone_count t)) ≡ zone_count t
start_long t = length-range_with_len 0 (zone_count t)

-- zones of one set have one label
one_label : (t : PlanTable) (k x y : ℕ) → k < length (joined t) → x < zone_count t → y < zone_count t → ((i : ℕ) × Found (get_or (joined t) k []) x i) → ((i : ℕ) × Found (get_or (joined t) k []) y i)
    → label_of (labels_of t) x ≡ label_of (labels_of t) y
one_label t k x y b l m f g =
    let long = start_long t in
    all_join (range_with_len 0 (zone_count t)) (joined t) k x y b (omega (arith, l, long)) (omega (arith, m, long)) f g

-- the label of a set is that of each zone of it
set_by : (t : PlanTable) (k : ℕ) (zones : List ℕ) (z : ℕ) → k < length (joined t) → get_or (joined t) k [] ≡ zones → ((i : ℕ) → i < length zones → get_or zones i past < zone_count t) → z < zone_count t
    → ((i : ℕ) × Found zones z i) → label_for t zones ≡ label_of (labels_of t) z
set_by t k [] z b is all l f = let h = f.1.0 in absurd (omega (arith, h))
set_by t k (y ∷ zones) z b is all l f =
    let back : (x : ℕ) → ((i : ℕ) × Found (y ∷ zones) x i) → (i : ℕ) × Found (get_or (joined t) k []) x i = λ x g. subst (λ xs. (i : ℕ) × Found xs x i) (sym is) g in
    one_label t k y z b (all 0 (omega arith)) l (back y (0, (omega arith, refl))) (back z f)

set_label : (t : PlanTable) (k : ℕ) (test : ℕ → Bool) (z : ℕ) → k < length (joined t) → get_or (joined t) k [] ≡ zones_of t test → z < zone_count t → test z ≡ true
    → label_for t (zones_of t test) ≡ label_of (labels_of t) z
set_label t k test z b is l e = set_by t k (zones_of t test) z b is (picked_rises test (zone_count t)).below l (found_in test (zone_count t) z l e)

-- ---- zones of one space

joined_pair : (t : PlanTable) (z : ℕ) → joins t (suc z) ≡ true → with_space t z ≡ z ∷ suc z ∷ []
joined_pair t z e = ap (λ b. if b then z ∷ suc z ∷ [] else []) e

in_pair : (z x : ℕ) → (x ≡ z) ⊎ (x ≡ suc z) → (i : ℕ) × Found (z ∷ suc z ∷ []) x i
in_pair z x (inl e) = (0, (omega arith, sym e))
in_pair z x (inr e) = (1, (omega arith, sym e))

pair_label : (t : PlanTable) (z : ℕ) → suc z < zone_count t → joins t (suc z) ≡ true → label_of (labels_of t) (suc z) ≡ label_of (labels_of t) z
pair_label t z l e =
    let k = pose_count t + place_count t + z in
    let set = space_set t z (omega (arith, l)) in
    let is : z ∷ suc z ∷ [] ≡ get_or (joined t) k [] = sym (set.1 ∙ joined_pair t z e) in
    let found : (x : ℕ) → (x ≡ z) ⊎ (x ≡ suc z) → (i : ℕ) × Found (get_or (joined t) k []) x i = λ x h. subst (λ xs. (i : ℕ) × Found xs x i) is (in_pair z x h) in
    one_label t k (suc z) z set.0 l (omega (arith, l)) (found (suc z) (inr refl)) (found z (inl refl))

by_join : (t : PlanTable) (z : ℕ) → suc z < zone_count t → label_of (labels_of t) z ≡ label_of (labels_of t) (space_of t z) → (b : Bool) → joins t (suc z) ≡ b
    → label_of (labels_of t) (suc z) ≡ label_of (labels_of t) (if b then space_of t z else suc z)
by_join t z l before true e = pair_label t z l e ∙ before
by_join t z l before false e = refl

first_label : (t : PlanTable) (z : ℕ) → z < zone_count t → label_of (labels_of t) z ≡ label_of (labels_of t) (space_of t z)
first_label t zero l = refl
first_label t (suc z) l = by_join t z l (first_label t z (omega (arith, l))) (joins t (suc z)) refl

space_label : (t : PlanTable) (y z : ℕ) → y < zone_count t → z < zone_count t → space_of t y ≡ space_of t z → label_of (labels_of t) y ≡ label_of (labels_of t) z
space_label t y z l m e = first_label t y l ∙ (ap (label_of (labels_of t)) e ∙ sym (first_label t z m))

-- ---- what has labels that pass a test

pub zone_has : (t : PlanTable) (own : ℕ → Bool) (z : ℕ) → z < zone_count t → own (label_of (labels_of t) z) ≡ true → HasZone (labelled t own) z
zone_has t own z l e = let f = found_in (λ x. own (label_of (labels_of t) x)) (zone_count t) z l e in (f.0, f.1.0, f.1.1)

pub pose_has : (t : PlanTable) (own : ℕ → Bool) (p : ℕ) → p < pose_count t → own (label_for t (zones_of t (looks_at t p))) ≡ true → HasPose (labelled t own) p
pose_has t own p l e = let f = found_in (λ x. own (label_for t (zones_of t (looks_at t x)))) (pose_count t) p l e in (f.0, f.1.0, f.1.1)

pub place_has : (t : PlanTable) (own : ℕ → Bool) (p : ℕ) → p < place_count t → own (label_for t (zones_of t (touches t p))) ≡ true → HasPlace (labelled t own) p
place_has t own p l e = let f = found_in (λ x. own (label_for t (zones_of t (touches t x)))) (place_count t) p l e in (f.0, f.1.0, f.1.1)

pub zone_own : (t : PlanTable) (own : ℕ → Bool) (z : ℕ) → HasZone (labelled t own) z → (z < zone_count t) × (own (label_of (labels_of t) z) ≡ true)
zone_own t own z has =
    let test : ℕ → Bool = λ x. own (label_of (labels_of t) x) in
    let k = picked test 0 (zone_count t) in
    let below = k.below has.0 has.1 in
    (subst (λ x. x < zone_count t) has.2 (omega (arith, below)), subst (λ x. own (label_of (labels_of t) x) ≡ true) has.2 (k.passes has.0 has.1))

pub pose_own : (t : PlanTable) (own : ℕ → Bool) (p : ℕ) → HasPose (labelled t own) p → (p < pose_count t) × (own (label_for t (zones_of t (looks_at t p))) ≡ true)
pose_own t own p has =
    let test : ℕ → Bool = λ x. own (label_for t (zones_of t (looks_at t x))) in
    let k = picked test 0 (pose_count t) in
    let below = k.below has.0 has.1 in
    (subst (λ x. x < pose_count t) has.2 (omega (arith, below)), subst (λ x. own (label_for t (zones_of t (looks_at t x))) ≡ true) has.2 (k.passes has.0 has.1))

pub place_own : (t : PlanTable) (own : ℕ → Bool) (p : ℕ) → HasPlace (labelled t own) p → (p < place_count t) × (own (label_for t (zones_of t (touches t p))) ≡ true)
place_own t own p has =
    let test : ℕ → Bool = λ x. own (label_for t (zones_of t (touches t x))) in
    let k = picked test 0 (place_count t) in
    let below = k.below has.0 has.1 in
    (subst (λ x. x < place_count t) has.2 (omega (arith, below)), subst (λ x. own (label_for t (zones_of t (touches t x))) ≡ true) has.2 (k.passes has.0 has.1))

-- the group of a label
pub has_zone : (t : PlanTable) (n z : ℕ) → z < zone_count t → label_of (labels_of t) z ≡ n → HasZone (group_of t n) z
has_zone t n z l e = zone_has t (λ x. nat_eq x n) z l (ap (λ x. nat_eq x n) e ∙ nat_eq-self n)

pub has_pose : (t : PlanTable) (n p : ℕ) → p < pose_count t → label_for t (zones_of t (looks_at t p)) ≡ n → HasPose (group_of t n) p
has_pose t n p l e = pose_has t (λ x. nat_eq x n) p l (ap (λ x. nat_eq x n) e ∙ nat_eq-self n)

pub has_place : (t : PlanTable) (n p : ℕ) → p < place_count t → label_for t (zones_of t (touches t p)) ≡ n → HasPlace (group_of t n) p
has_place t n p l e = place_has t (λ x. nat_eq x n) p l (ap (λ x. nat_eq x n) e ∙ nat_eq-self n)

pub zone_label : (t : PlanTable) (n z : ℕ) → HasZone (group_of t n) z → (z < zone_count t) × (label_of (labels_of t) z ≡ n)
zone_label t n z has = let h = zone_own t (λ x. nat_eq x n) z has in (h.0, eqb-true _ _ h.1)

place_label : (t : PlanTable) (n p : ℕ) → HasPlace (group_of t n) p → (p < place_count t) × (label_for t (zones_of t (touches t p)) ≡ n)
place_label t n p has = let h = place_own t (λ x. nat_eq x n) p has in (h.0, eqb-true _ _ h.1)

touched_in : (t : PlanTable) → IsLargePlan t → (z p : ℕ) → z < zone_count t → Touches t z p → p < place_count t
touched_in t k z p l x = touched_in_by t k z p l x.0 x.1 x.2 x.3

pub pose_zone_label : (t : PlanTable) (p z : ℕ) → p < pose_count t → z < zone_count t → LooksAt t p z → label_for t (zones_of t (looks_at t p)) ≡ label_of (labels_of t) z
pose_zone_label t p z l m x = let set = pose_set t p l in set_label t p (looks_at t p) z set.0 set.1 m (looks t p z x)

place_zone_label : (t : PlanTable) (p z : ℕ) → p < place_count t → z < zone_count t → Touches t z p → label_for t (zones_of t (touches t p)) ≡ label_of (labels_of t) z
place_zone_label t p z l m x = let set = place_set t p l in set_label t (pose_count t + p) (touches t p) z set.0 set.1 m (touching t z p x)

pub labelled_group : (t : PlanTable) (own : ℕ → Bool) → IsLargePlan t → IsGroup t (labelled t own)
labelled_group t own k = record {
  zones = picked_rises (λ x. own (label_of (labels_of t) x)) (zone_count t);
  poses = picked_rises (λ x. own (label_for t (zones_of t (looks_at t x)))) (pose_count t);
  places = picked_rises (λ x. own (label_for t (zones_of t (touches t x)))) (place_count t);
  by_pose = λ p z has l x.
      let h = pose_own t own p has in
      zone_has t own z l (ap own (sym (pose_zone_label t p z h.0 l x)) ∙ h.1);
  by_place = λ p z has l x.
      let h = place_own t own p has in
      zone_has t own z l (ap own (sym (place_zone_label t p z h.0 l x)) ∙ h.1);
  by_way = λ z p has x.
      let h = zone_own t own z has in
      let in_plan = touched_in t k z p h.0 x in
      place_has t own p in_plan (ap own (place_zone_label t p z in_plan h.0 x) ∙ h.1);
  by_space = λ y z has l e.
      let h = zone_own t own z has in
      zone_has t own y l (ap own (space_label t y z l h.0 e) ∙ h.1);
}

pub is_group : (t : PlanTable) (n : ℕ) → IsLargePlan t → IsGroup t (group_of t n)
is_group t n k = labelled_group t (λ x. nat_eq x n) k

-- ---- each has a label of a zone, or the last one

-- each set has zones of the plan alone
set_zones : (t : PlanTable) (test : ℕ → Bool) (zones : List ℕ) → zones ≡ zones_of t test → (i : ℕ) → i < length zones → get_or zones i past < zone_count t
set_zones t test zones e = subst (λ xs. (i : ℕ) → i < length xs → get_or xs i past < zone_count t) (sym e) (picked_rises test (zone_count t)).below

pair_zones : (t : PlanTable) (z : ℕ) (zones : List ℕ) → z < zone_count t - 1 → zones ≡ with_space t z → (i : ℕ) → i < length zones → get_or zones i past < zone_count t
pair_zones t z zones l e = subst (λ xs. (i : ℕ) → i < length xs → get_or xs i past < zone_count t) (sym e) (by (joins t (suc z)))
  where
    by : (b : Bool) (i : ℕ) → i < length (if b then z ∷ suc z ∷ [] else []) → get_or (if b then z ∷ suc z ∷ [] else []) i past < zone_count t
    by true zero m = omega (arith, l)
    by true (suc zero) m = omega (arith, l)
    by true (suc (suc i)) m = absurd (omega (arith, m))
    by false i m = absurd (omega (arith, m))

pub sets_are_zones : (t : PlanTable) (k : ℕ) → k < length (joined t) → (i : ℕ) → i < length (get_or (joined t) k []) → get_or (get_or (joined t) k []) i past < zone_count t
sets_are_zones t k l = elim (set_cases t k l) [
  | ByPose p m at ↦ set_zones t (looks_at t p) (get_or (joined t) k []) at
  | ByPlace p m at ↦ set_zones t (touches t p) (get_or (joined t) k []) at
  | BySpace z m at ↦ pair_zones t z (get_or (joined t) k []) m at
]

pub labels_below : (t : PlanTable) (z : ℕ) → z < zone_count t → label_of (labels_of t) z < zone_count t
labels_below t z l =
    let n = zone_count t in
    let start = range_with_len 0 n in
    let long = start_long t in
    let below = all_below start (joined t) n long (sets_are_zones t) (λ x m. let h = subst (λ a. x < a) long m in subst (λ a. a < n) (sym (get_or-range_with_len 0 n x past h)) (omega (arith, h))) in
    below z (subst (λ a. z < a) (sym (all_long start (joined t) ∙ long)) l)

pub label_for_at_most : (t : PlanTable) (test : ℕ → Bool) → label_for t (zones_of t test) < zone_count t + 1
label_for_at_most t test = by t (zones_of t test) (picked_rises test (zone_count t)).below
  where
    by : (t : PlanTable) (zones : List ℕ) → ((i : ℕ) → i < length zones → get_or zones i past < zone_count t) → label_for t zones < zone_count t + 1
    by t [] all = omega arith
    by t (z ∷ zones) all = let h = labels_below t z (all 0 (omega arith)) in omega (arith, h)

pub is_laid_out : (t : PlanTable) → IsLargePlan t → ((n : ℕ) → n < zone_count t + 1 → Fits t (group_of t n)) → IsLaidOut t (zone_count t + 1) (word_of t)
is_laid_out t k fits = record {
  group = λ n l. is_group t n k;
  table = λ n l. is_table t (group_of t n) k (is_group t n k);
  plan = λ n l. is_plan t (group_of t n) k (is_group t n k) (fits n l);
  zone_somewhere = λ z l. let h = labels_below t z l in (label_of (labels_of t) z, omega (arith, h), has_zone t (label_of (labels_of t) z) z l refl);
  pose_somewhere = λ p l. (label_for t (zones_of t (looks_at t p)), label_for_at_most t (looks_at t p), has_pose t (label_for t (zones_of t (looks_at t p))) p l refl);
  place_somewhere = λ p l. (label_for t (zones_of t (touches t p)), label_for_at_most t (touches t p), has_place t (label_for t (zones_of t (touches t p))) p l refl);
  one_word_a_zone = λ n m z _ _ a b. sym (zone_label t n z a).1 ∙ (zone_label t m z b).1;
  one_word_a_place = λ n m p _ _ a b. sym (place_label t n p a).1 ∙ (place_label t m p b).1;
}
