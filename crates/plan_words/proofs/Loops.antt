-- What loops build, with one step more.
use Rattle.std.proofs.Common.{◌≡◌, ◌≢◌, ℕ, zero, suc, ◌+◌, ◌-◌, ◌<◌, ◌≤◌, Bool, true, false, nat_eq, List, [], ◌∷◌, ◌++◌, length, map, filter, get_or, set, drop, replicate, Some, None, refl, sym, ap, ◌∙◌, arith, if◌then◌else◌, add-zero, add-one, slice_get, append_assoc, eq-eqb}
use Rattle.std.specs.List.{range_with_len, list_any}
use Rattle.std.proofs.lemmas.List.{length-append, set_at, at_drop_more, at_drop_all}
use Rattle.std.proofs.lemmas.Bool.{eqb-true, false_from_ne_true}
use Rattle.std.proofs.lemmas.List.Elements.{filter-append}
use Rattle.std.proofs.lemmas.List.FromFn.{map-range_with_len_more}
use Rattle.plan_types.specs.Kept.{filled}
use Rattle.plan_types.specs.Table.{PlanTable, zone_count}
use Rattle.plan_words.specs.Groups.{label_of, labels_of, label_for, merged, all_merged, number_in}

pub range_more : (a n : ℕ) → range_with_len a (suc n) ≡ range_with_len a n ++ (a + n) ∷ []
range_more a zero = ap (λ x. x ∷ []) (sym (add-zero a))
range_more a (suc n) = ap (λ xs. a ∷ xs) (range_more (a + 1) n ∙ ap (λ x. range_with_len (a + 1) n ++ x ∷ []) (omega arith))

-- the numbers below the next number
pub range_next : (n : ℕ) → range_with_len 0 (n + 1) ≡ range_with_len 0 n ++ n ∷ []
range_next n = ap (range_with_len 0) (add-one n) ∙ (range_more 0 n ∙ ap (λ x. range_with_len 0 n ++ x ∷ []) (omega arith))

pub filter_more : (test : ℕ → Bool) (n : ℕ) → filter test (range_with_len 0 (n + 1)) ≡ filter test (range_with_len 0 n) ++ (if test n then n ∷ [] else [])
filter_more test n = ap (filter test) (range_next n) ∙ filter-append test (range_with_len 0 n) (n ∷ [])

map_if : (f : ℕ → ℕ) (b : Bool) (n : ℕ) → map f (if b then n ∷ [] else []) ≡ (if b then f n ∷ [] else [])
map_if f true n = refl
map_if f false n = refl

map_append : (f : ℕ → ℕ) (xs ys : List ℕ) → map f (xs ++ ys) ≡ map f xs ++ map f ys
map_append f [] ys = refl
map_append f (x ∷ xs) ys = ap (λ zs. f x ∷ zs) (map_append f xs ys)

pub map_filter_more : (f : ℕ → ℕ) (test : ℕ → Bool) (n : ℕ) → map f (filter test (range_with_len 0 (n + 1))) ≡ map f (filter test (range_with_len 0 n)) ++ (if test n then f n ∷ [] else [])
map_filter_more f test n =
    ap (map f) (filter_more test n)
    ∙ (map_append f (filter test (range_with_len 0 n)) (if test n then n ∷ [] else []) ∙ ap (λ zs. map f (filter test (range_with_len 0 n)) ++ zs) (map_if f (test n) n))

-- ---- labels

all_merged_append : (labels : List ℕ) (a b : List (List ℕ)) → all_merged labels (a ++ b) ≡ all_merged (all_merged labels a) b
all_merged_append labels [] b = refl
all_merged_append labels (zones ∷ a) b = all_merged_append (merged labels zones) a b

pub merged_more : (labels : List ℕ) (sets : ℕ → List ℕ) (n : ℕ) → all_merged labels (map sets (range_with_len 0 (n + 1))) ≡ merged (all_merged labels (map sets (range_with_len 0 n))) (sets n)
merged_more labels sets n =
    ap (all_merged labels) (map-range_with_len_more sets 0 n n (omega arith)) ∙ all_merged_append labels (map sets (range_with_len 0 n)) (sets n ∷ [])

pub three_merged : (labels : List ℕ) (a b c : List (List ℕ)) → all_merged labels (a ++ b ++ c) ≡ all_merged (all_merged (all_merged labels a) b) c
three_merged labels a b c = all_merged_append labels (a ++ b) c ∙ ap (λ xs. all_merged xs c) (all_merged_append labels a b)

abbrev pub renamed : List ℕ → List ℕ → ℕ → ℕ → ℕ
renamed labels zones first l = if list_any (λ y. nat_eq (label_of labels y) l) zones then first else l

pub merged_by : (labels zones : List ℕ) (z : ℕ) → slice_get zones 0 ≡ Some z → merged labels zones ≡ map (renamed labels zones (label_of labels z)) labels
merged_by labels [] z e = cc
merged_by labels (y ∷ zones) z e = let same : y ≡ z = cc in ap (λ x. map (renamed labels (y ∷ zones) (label_of labels x)) labels) same

pub merged_none : (labels zones : List ℕ) → slice_get zones 0 ≡ None → merged labels zones ≡ labels
merged_none labels [] e = refl
merged_none labels (y ∷ zones) e = cc

pub label_by : (t : PlanTable) (zones : List ℕ) (z : ℕ) → slice_get zones 0 ≡ Some z → label_for t zones ≡ label_of (labels_of t) z
label_by t [] z e = cc
label_by t (y ∷ zones) z e = let same : y ≡ z = cc in ap (label_of (labels_of t)) same

pub label_none : (t : PlanTable) (zones : List ℕ) → slice_get zones 0 ≡ None → label_for t zones ≡ zone_count t
label_none t [] e = refl
label_none t (y ∷ zones) e = cc

-- ---- rows that are filled

pub filled_more : {A : Type 0} (xs : List A) (d v : A) (n : ℕ) → length xs < n → set (filled xs d n) (length xs) v ≡ filled (xs ++ v ∷ []) d n
filled_more xs d v n l =
    let m = n - (length xs + 1) in
    let long = length-append xs (v ∷ []) in
    let some : n - length xs ≡ suc m = omega (arith, l) in
    let rest : m ≡ n - length (xs ++ v ∷ []) = omega (arith, long) in
    ap (λ k. set (xs ++ replicate k d) (length xs) v) some
    ∙ (set_at xs d (replicate m d) v (length xs) refl
    ∙ (sym (append_assoc xs (v ∷ []) (replicate m d)) ∙ ap (λ k. (xs ++ v ∷ []) ++ replicate k d) rest))

-- ---- numbers in a list

number_here : (xs : List ℕ) (n x : ℕ) (b : Bool) → nat_eq x n ≡ b → number_in (x ∷ xs) n ≡ (if b then 0 else 1 + number_in xs n)
number_here xs n x b e = ap (λ c. if c then 0 else 1 + number_in xs n) e

pub found_at : (xs : List ℕ) (n i d : ℕ) → i < length xs → get_or xs i d ≡ n → number_in (drop i xs) n ≡ 0
found_at xs n i d l e = at_drop_more (λ ys. number_in ys n) xs i d l ∙ number_here (drop (i + 1) xs) n (get_or xs i d) true (eq-eqb _ _ e)

pub not_at : (xs : List ℕ) (n i d : ℕ) → i < length xs → get_or xs i d ≢ n → number_in (drop i xs) n ≡ 1 + number_in (drop (i + 1) xs) n
not_at xs n i d l ne = at_drop_more (λ ys. number_in ys n) xs i d l ∙ number_here (drop (i + 1) xs) n (get_or xs i d) false (false_from_ne_true _ (λ t. ne (eqb-true _ _ t)))

pub none_at : (xs : List ℕ) (n i : ℕ) → length xs ≤ i → number_in (drop i xs) n ≡ 0
none_at xs n i l = at_drop_all (λ ys. number_in ys n) xs i l

pub number_at_most : (xs : List ℕ) (n : ℕ) → number_in xs n ≤ length xs
number_at_most [] n = omega arith
number_at_most (x ∷ xs) n = let h = number_at_most xs n in by (nat_eq x n) (number_in xs n) (length xs) h
  where
    by : (b : Bool) (k m : ℕ) → k ≤ m → (if b then 0 else 1 + k) ≤ suc m
    by true k m l = omega arith
    by false k m l = omega (arith, l)
