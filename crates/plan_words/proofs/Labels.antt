-- After zones are joined, all of them have one label, and keep one.
use Rattle.std.proofs.Common.{◌≡◌, ℕ, zero, suc, ◌<◌, Bool, true, false, nat_eq, List, [], ◌∷◌, length, get_or, refl, sym, subst, ap, ◌∙◌, arith, if◌then◌else◌}
use Rattle.std.specs.List.{list_any}
use Rattle.std.proofs.lemmas.List.{get_or-map, length-map}
use Rattle.plan_rules.proofs.lemmas.Puts.{nat_eq-self}
use Rattle.plan_words.specs.Group.{past}
use Rattle.plan_words.specs.Groups.{label_of, merged, all_merged}
use Rattle.plan_words.proofs.Tables.{Found}
use Rattle.plan_words.proofs.Picked.{any_found}

-- what becomes of a label
abbrev pub renamed : List ℕ → ℕ → List ℕ → ℕ → ℕ
renamed labels z zones l = if list_any (λ y. nat_eq (label_of labels y) l) (z ∷ zones) then label_of labels z else l

pub merged_long : (labels zones : List ℕ) → length (merged labels zones) ≡ length labels
merged_long labels [] = refl
merged_long labels (z ∷ zones) = length-map labels (renamed labels z zones)

pub merged_at : (labels : List ℕ) (z : ℕ) (zones : List ℕ) (y : ℕ) → y < length labels → label_of (merged labels (z ∷ zones)) y ≡ renamed labels z zones (label_of labels y)
merged_at labels z zones y l = get_or-map (renamed labels z zones) labels y past past l

-- two zones of one label keep one
merged_keeps : (labels zones : List ℕ) (x y : ℕ) → x < length labels → y < length labels → label_of labels x ≡ label_of labels y → label_of (merged labels zones) x ≡ label_of (merged labels zones) y
merged_keeps labels [] x y l m e = e
merged_keeps labels (z ∷ zones) x y l m e = merged_at labels z zones x l ∙ (ap (renamed labels z zones) e ∙ sym (merged_at labels z zones y m))

-- the zones that are joined get that of the first
joins : (labels : List ℕ) (z : ℕ) (zones : List ℕ) (y : ℕ) → y < length labels → ((i : ℕ) × Found (z ∷ zones) y i) → label_of (merged labels (z ∷ zones)) y ≡ label_of labels z
joins labels z zones y l f =
    merged_at labels z zones y l
    ∙ ap (λ b. if b then label_of labels z else label_of labels y) (any_found (λ x. nat_eq (label_of labels x) (label_of labels y)) (z ∷ zones) y f (nat_eq-self (label_of labels y)))

merged_joins : (labels zones : List ℕ) (x y : ℕ) → x < length labels → y < length labels → ((i : ℕ) × Found zones x i) → ((i : ℕ) × Found zones y i)
    → label_of (merged labels zones) x ≡ label_of (merged labels zones) y
merged_joins labels [] x y l m f g = let h = f.1.0 in absurd (omega (arith, h))
merged_joins labels (z ∷ zones) x y l m f g = joins labels z zones x l f ∙ sym (joins labels z zones y m g)

all_keep : (labels : List ℕ) (more : List (List ℕ)) (x y : ℕ) → x < length labels → y < length labels → label_of labels x ≡ label_of labels y → label_of (all_merged labels more) x ≡ label_of (all_merged labels more) y
all_keep labels [] x y l m e = e
all_keep labels (zones ∷ more) x y l m e =
    let long = merged_long labels zones in
    all_keep (merged labels zones) more x y (omega (arith, l, long)) (omega (arith, m, long)) (merged_keeps labels zones x y l m e)

pub all_join : (labels : List ℕ) (sets : List (List ℕ)) (k x y : ℕ) → k < length sets → x < length labels → y < length labels → ((i : ℕ) × Found (get_or sets k []) x i) → ((i : ℕ) × Found (get_or sets k []) y i)
    → label_of (all_merged labels sets) x ≡ label_of (all_merged labels sets) y
all_join labels [] k x y b l m f g = absurd (omega (arith, b))
all_join labels (zones ∷ more) zero x y b l m f g =
    let long = merged_long labels zones in
    all_keep (merged labels zones) more x y (omega (arith, l, long)) (omega (arith, m, long)) (merged_joins labels zones x y l m f g)
all_join labels (zones ∷ more) (suc k) x y b l m f g =
    let long = merged_long labels zones in
    all_join (merged labels zones) more k x y (omega (arith, b)) (omega (arith, l, long)) (omega (arith, m, long)) f g

-- ---- labels are numbers of zones

abbrev pub AreBelow : List ℕ → ℕ → Type 0
AreBelow labels n = (x : ℕ) → x < length labels → label_of labels x < n

if_below : (b : Bool) (x y n : ℕ) → x < n → y < n → (if b then x else y) < n
if_below true x y n l m = l
if_below false x y n l m = m

-- the zones that are joined are zones
abbrev pub AreZones : ℕ → List ℕ → Type 0
AreZones n zones = (i : ℕ) → i < length zones → get_or zones i past < n

merged_below : (labels zones : List ℕ) (n : ℕ) → length labels ≡ n → AreZones n zones → AreBelow labels n → AreBelow (merged labels zones) n
merged_below labels [] n e zs k = k
merged_below labels (z ∷ zones) n e zs k = λ x l.
    let m = subst (λ a. x < a) (merged_long labels (z ∷ zones)) l in
    let first = zs 0 (omega arith) in
    subst (λ a. a < n) (sym (merged_at labels z zones x m))
    (if_below (list_any (λ y. nat_eq (label_of labels y) (label_of labels x)) (z ∷ zones)) (label_of labels z) (label_of labels x) n (k z (omega (arith, first, e))) (k x m))

pub all_below : (labels : List ℕ) (sets : List (List ℕ)) (n : ℕ) → length labels ≡ n → ((k : ℕ) → k < length sets → AreZones n (get_or sets k [])) → AreBelow labels n → AreBelow (all_merged labels sets) n
all_below labels [] n e zs k = k
all_below labels (zones ∷ more) n e zs k =
    all_below (merged labels zones) more n (merged_long labels zones ∙ e) (λ j l. zs (suc j) (omega (arith, l))) (merged_below labels zones n e (zs 0 (omega arith)) k)

pub all_long : (labels : List ℕ) (sets : List (List ℕ)) → length (all_merged labels sets) ≡ length labels
all_long labels [] = refl
all_long labels (zones ∷ more) = all_long (merged labels zones) more ∙ merged_long labels zones
