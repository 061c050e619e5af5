-- Whether the pairs of some values make a curve.
use Rattle.cell_config.proofs.Names.{◌≡◌, suc, ◌<◌, ◌∙◌, ◌∷◌, [], List, length, map, cond, Bool, true, false, Option, Some, None, is_some, Ok, Err, sym, ap, refl, arith, filter_map, list_all, cons_option, length-map, Data, Items, array, as_array, view, items_of, items_view, Value, Scale, Pair, HasCount, IsCurve, is_curve, passes_as_curve, curve_of_pass, curve_of, curve_within, is_measured, is_pair, measured_of, pairs_in, values_in, Range}
use Rattle.cell_config.proofs.Tests.{both_hold, not_true}

pub by_fit : (s : Scale) (values : List Data) (b : Bool) → list_all is_measured values ≡ b → curve_within s values ≡ cond b (curve_of s (filter_map measured_of values)) (Err Range)
by_fit s values b e = ap (λ (t : Bool). cond t (curve_of s (filter_map measured_of values)) (Err Range)) e

by_test : (s : Scale) (pairs : List Pair) (b : Bool) → is_curve s pairs ≡ b → curve_of s pairs ≡ cond b (Ok pairs) (Err Range)
by_test s pairs b e = ap (λ (t : Bool). cond t (Ok pairs) (Err Range)) e

pub curve_made : (s : Scale) (pairs kept : List Pair) → IsCurve s pairs → kept ≡ pairs → curve_of s pairs ≡ Ok kept
curve_made s pairs kept curve same = by_test s pairs true (passes_as_curve s pairs curve) ∙ ap (λ (ps : List Pair). Ok ps) (sym same)

pub no_curve : (s : Scale) (pairs : List Pair) → (IsCurve s pairs → ⊥) → curve_of s pairs ≡ Err Range
no_curve s pairs none = by_test s pairs false (not_true (is_curve s pairs) (λ pass. none (curve_of_pass s pairs pass)))

length_put : (o : Option Pair) (pairs : List Pair) → is_some o ≡ true → length (cons_option o pairs) ≡ suc (length pairs)
length_put (Some pair) pairs h = refl
length_put None pairs h = absurd (cc)

all_counted : (values : List Data) → list_all is_measured values ≡ true → length (filter_map measured_of values) ≡ length values
all_counted [] h = refl
all_counted (value ∷ more) h = length_put (measured_of value) (filter_map measured_of more) (both_hold _ _ h).0 ∙ ap suc (all_counted more (both_hold _ _ h).1)

-- more values than a curve has pairs, all of which fit, are too many pairs
pub beyond_count : (vs : List Value) → 32 < length vs → list_all is_measured (map view vs) ≡ true → HasCount (filter_map measured_of (map view vs)) → ⊥
beyond_count vs h all count = absurd (omega (arith, count.most, all_counted (map view vs) all, length-map vs view))

pub too_many : (s : Scale) (vs : List Value) → 32 < length vs → curve_within s (map view vs) ≡ Err Range
too_many s vs h = by_cases (list_all is_measured (map view vs)) refl
  where
    by_cases : (b : Bool) → list_all is_measured (map view vs) ≡ b → curve_within s (map view vs) ≡ Err Range
    by_cases true all = by_fit s (map view vs) true all ∙ no_curve s (filter_map measured_of (map view vs)) (λ curve. beyond_count vs h all curve.number)
    by_cases false some = by_fit s (map view vs) false some

-- ---- arrays of values

pub values_viewed : (ds : List Data) → values_in (items_of ds) ≡ ds
values_viewed [] = refl
values_viewed (d ∷ ds) = ap (λ (more : List Data). d ∷ more) (values_viewed ds)

-- a value with items is an array of them
pub array_is : (value : Data) (items : Items) → Some items ≡ as_array value → value ≡ array items
array_is (array items) found e = cc
array_is other items e = absurd (cc)

pub pairs_found : (value : Data) (vs : List Value) (b : Bool) → value ≡ array (items_view vs) → b ≡ list_all is_pair (map view vs) → pairs_in value ≡ cond b (Some (map view vs)) None
pairs_found value vs b is test =
    ap pairs_in is
    ∙ ap (λ (ds : List Data). cond (list_all is_pair ds) (Some ds) None) (values_viewed (map view vs))
    ∙ ap (λ (t : Bool). cond t (Some (map view vs)) None) (sym test)
