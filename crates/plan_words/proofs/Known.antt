-- Groups and words by labels that are known: literal plants compute them once.
use Rattle.std.proofs.Common.{◌≡◌, ℕ, ◌+◌, Bool, nat_eq, List, [], ◌∷◌, ◌++◌, map, filter, refl, ap, ◌∙◌, if◌then◌else◌}
use Rattle.std.specs.List.{list_any, range_with_len}
use Rattle.plan_types.specs.Table.{PlanTable, zone_count, pose_count, place_count}
use Rattle.plan_words.specs.Group.{Group}
use Rattle.plan_words.specs.Groups.{label_of, label_for, labels_of, zones_of, looks_at, touches, labelled}
use Rattle.plan_words.specs.Plant.{is_first, group_labels, together, fits, first_room, put_on, all_put_on, sharers}

unfoldable pub label_in : PlanTable → List ℕ → List ℕ → ℕ
label_in t labels [] = zone_count t
label_in t labels (z ∷ zones) = label_of labels z

unfoldable pub grouped : PlanTable → List ℕ → (ℕ → Bool) → Group
grouped t labels own = record {
  zones = zones_of t (λ z. own (label_of labels z));
  poses = filter (λ p. own (label_in t labels (zones_of t (looks_at t p)))) (range_with_len 0 (pose_count t));
  places = filter (λ p. own (label_in t labels (zones_of t (touches t p)))) (range_with_len 0 (place_count t));
}

filter_same : (f g : ℕ → Bool) → ((x : ℕ) → f x ≡ g x) → (xs : List ℕ) → filter f xs ≡ filter g xs
filter_same f g same [] = refl
filter_same f g same (x ∷ xs) = ap (λ b. if b then x ∷ filter f xs else filter f xs) (same x) ∙ ap (λ ys. if g x then x ∷ ys else ys) (filter_same f g same xs)

label_is : (t : PlanTable) (zones : List ℕ) → label_for t zones ≡ label_in t (labels_of t) zones
unfolding label_in
label_is t [] = refl
label_is t (z ∷ zones) = refl

pub group_is : (t : PlanTable) (labels : List ℕ) (own : ℕ → Bool) → labels_of t ≡ labels → labelled t own ≡ grouped t labels own
unfolding grouped
group_is t labels own e =
    ap (λ poses. let g : Group = record { zones = (labelled t own).zones; poses = poses; places = (labelled t own).places } in g)
    (filter_same (λ p. own (label_for t (zones_of t (looks_at t p)))) (λ p. own (label_in t (labels_of t) (zones_of t (looks_at t p)))) (λ p. ap own (label_is t (zones_of t (looks_at t p)))) (range_with_len 0 (pose_count t)))
    ∙ (ap (λ places. let g : Group = record { zones = (labelled t own).zones; poses = (grouped t (labels_of t) own).poses; places = places } in g)
    (filter_same (λ p. own (label_for t (zones_of t (touches t p)))) (λ p. own (label_in t (labels_of t) (zones_of t (touches t p)))) (λ p. ap own (label_is t (zones_of t (touches t p)))) (range_with_len 0 (place_count t)))
    ∙ ap (λ l. grouped t l own) e)

-- ---- words

unfoldable pub room_in : PlanTable → List ℕ → ℕ → List (List ℕ) → ℕ
room_in t labels n [] = 0
room_in t labels n (word ∷ words) = if fits t (grouped t labels (λ l. list_any (nat_eq l) (word ++ n ∷ []))) then 0 else 1 + room_in t labels n words

unfoldable pub put_in : PlanTable → List ℕ → List ℕ → List (List ℕ) → List (List ℕ)
put_in t labels [] words = words
put_in t labels (n ∷ groups) words = put_in t labels groups (put_on n (room_in t labels n words) words)

room_is : (t : PlanTable) (labels : List ℕ) → labels_of t ≡ labels → (n : ℕ) (words : List (List ℕ)) → first_room t n words ≡ room_in t labels n words
unfolding room_in
room_is t labels e n [] = refl
room_is t labels e n (word ∷ words) =
    ap (λ g. if fits t g then 0 else 1 + first_room t n words) (group_is t labels (λ l. list_any (nat_eq l) (word ++ n ∷ [])) e)
    ∙ ap (λ k. if fits t (grouped t labels (λ l. list_any (nat_eq l) (word ++ n ∷ []))) then 0 else 1 + k) (room_is t labels e n words)

put_is : (t : PlanTable) (labels : List ℕ) → labels_of t ≡ labels → (groups : List ℕ) (words : List (List ℕ)) → all_put_on t groups words ≡ put_in t labels groups words
unfolding put_in
put_is t labels e [] words = refl
put_is t labels e (n ∷ groups) words =
    ap (λ k. all_put_on t groups (put_on n k words)) (room_is t labels e n words) ∙ put_is t labels e groups (put_on n (room_in t labels n words) words)

pub sharers_are : (t : PlanTable) (labels groups : List ℕ) → labels_of t ≡ labels → map (label_of labels) (zones_of t (is_first labels)) ++ zone_count t ∷ [] ≡ groups → sharers t ≡ put_in t labels groups []
sharers_are t labels groups e f =
    ap (λ ls. all_put_on t (map (label_of ls) (zones_of t (is_first ls)) ++ zone_count t ∷ []) []) e
    ∙ (ap (λ gs. all_put_on t gs []) f ∙ put_is t labels e groups [])
