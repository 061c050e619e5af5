-- Another field in a word: the zones and the places, one by one.
use Rattle.cell_word.proofs.Names.{◌≡◌, ℕ, suc, ◌+◌, ◌*◌, ◌<◌, ◌^◌, Bool, List, [], ◌∷◌, ◌++◌, length, map, take, get_or, refl, sym, ap, ◌∙◌, subst, arith, flat_map, take_more, map-append, append-nil, append_assoc, sum_by-append, sum_by_push, flat_map-append, Zone, Place, all_places, ZoneMap, zone_in, put_zone, put_each, ModelState, zone_at, is_full, one_if, ZoneState, Field, term_of, word_of, zone_bit, zone_fields, fields_at, place_bit, place_field}
use Rattle.cell_rules.specs.Types.{all_zones}

put_each-push : (f : Zone → ZoneState → ZoneState) (zs : List Zone) (z : Zone) (m : ZoneMap) → put_each f (zs ++ z ∷ []) m ≡ put_zone (put_each f zs m) z (f z (zone_in (put_each f zs m) z))
put_each-push f [] z m = refl
put_each-push f (y ∷ ys) z m = put_each-push f ys z (put_zone m y (f y (zone_in m y)))

put_more : (f : Zone → ZoneState → ZoneState) (i : ℕ) (d : Zone) (m : ZoneMap) → i < 6
    → put_each f (take (i + 1) all_zones) m ≡ put_zone (put_each f (take i all_zones) m) (get_or all_zones i d) (f (get_or all_zones i d) (zone_in (put_each f (take i all_zones) m) (get_or all_zones i d)))
put_more f i d m inside = ap (λ zs. put_each f zs m) (take_more all_zones i d inside) ∙ put_each-push f (take i all_zones) (get_or all_zones i d) m

-- a step of the loop that puts zones
pub put_step : (f : Zone → ZoneState → ZoneState) (i : ℕ) (d : Zone) (v : ZoneState) (start m n : ZoneMap) → i < 6 → m ≡ put_each f (take i all_zones) start
    → v ≡ f (get_or all_zones i d) (zone_in m (get_or all_zones i d)) → n ≡ put_zone m (get_or all_zones i d) v → n ≡ put_each f (take (i + 1) all_zones) start
put_step f i d v start m n inside e value new =
    let z = get_or all_zones i d in
    new ∙ ap (put_zone m z) value ∙ ap (λ k. put_zone k z (f z (zone_in k z))) e ∙ sym (put_more f i d start inside)

fields_more : {X : Type 0} (f : X → List Field) (xs : List X) (i : ℕ) (d : X) → i < length xs
    → word_of (flat_map f (take (i + 1) xs)) ≡ word_of (flat_map f (take i xs)) + word_of (f (get_or xs i d))
fields_more f xs i d inside =
    ap (λ ys. word_of (flat_map f ys)) (take_more xs i d inside)
    ∙ ap word_of (flat_map-append f (take i xs) (get_or xs i d ∷ []))
    ∙ sum_by-append term_of (flat_map f (take i xs)) (flat_map f (get_or xs i d ∷ []))
    ∙ ap (λ ys. word_of (flat_map f (take i xs)) + word_of ys) (append-nil (f (get_or xs i d)))

field_more : {X : Type 0} (f : X → Field) (before : List Field) (xs : List X) (i : ℕ) (d : X) → i < length xs
    → word_of (before ++ map f (take (i + 1) xs)) ≡ word_of (before ++ map f (take i xs)) + term_of (f (get_or xs i d))
field_more f before xs i d inside =
    ap (λ ys. word_of (before ++ map f ys)) (take_more xs i d inside)
    ∙ ap (λ ys. word_of (before ++ ys)) (map-append f (take i xs) (get_or xs i d ∷ []))
    ∙ ap word_of (sym (append_assoc before (map f (take i xs)) (f (get_or xs i d) ∷ [])))
    ∙ sum_by_push term_of (before ++ map f (take i xs)) (f (get_or xs i d))

pub bit_of_zone : (i : ℕ) (d : Zone) → i < 6 → zone_bit (get_or all_zones i d) ≡ 5 * i
bit_of_zone (suc (suc (suc (suc (suc (suc i)))))) d h = absurd (omega arith)
bit_of_zone _ d h = refl

pub bit_of_place : (i : ℕ) (d : Place) → i < 10 → place_bit (get_or all_places i d) ≡ 30 + i
bit_of_place (suc (suc (suc (suc (suc (suc (suc (suc (suc (suc i)))))))))) d h = absurd (omega arith)
bit_of_place _ d h = refl

-- a step of the loop over the zones of a state
pub zone_step : (s : ModelState) (i : ℕ) (d : Zone) (v : ZoneState) (w new : ℕ) → i < 6 → w ≡ word_of (flat_map (fields_at s) (take i all_zones)) → v ≡ zone_at s (get_or all_zones i d)
    → new ≡ w + word_of (zone_fields (get_or all_zones i d) v) → new ≡ word_of (flat_map (fields_at s) (take (i + 1) all_zones))
zone_step s i d v w new inside e value grown =
    let z = get_or all_zones i d in
    grown ∙ ap (λ u. w + word_of (zone_fields z u)) value ∙ ap (λ n. n + word_of (fields_at s z)) e ∙ sym (fields_more (fields_at s) all_zones i d inside)

pub zone_step_below : (i : ℕ) (d : Zone) (new : ℕ) → i < 6 → new < 2 ^ (zone_bit (get_or all_zones i d) + 5) → new < 2 ^ (5 * (i + 1))
zone_step_below i d new inside below =
    let bit = bit_of_zone i d inside in
    subst (λ n. new < 2 ^ n) (omega arith) below

-- and of the loop over its places
pub place_step : (s : ModelState) (before : List Field) (i : ℕ) (d : Place) (b : Bool) (w new : ℕ) → i < 10 → w ≡ word_of (before ++ map (place_field s) (take i all_places))
    → b ≡ is_full s (get_or all_places i d) → new ≡ w + one_if b * 2 ^ place_bit (get_or all_places i d) → new ≡ word_of (before ++ map (place_field s) (take (i + 1) all_places))
place_step s before i d b w new inside e value grown =
    let p = get_or all_places i d in
    grown ∙ ap (λ u. w + one_if u * 2 ^ place_bit p) value ∙ ap (λ n. n + term_of (place_field s p)) e ∙ sym (field_more (place_field s) before all_places i d inside)

pub place_step_below : (i : ℕ) (d : Place) (new : ℕ) → i < 10 → new < 2 ^ (place_bit (get_or all_places i d) + 1) → new < 2 ^ (30 + (i + 1))
place_step_below i d new inside below =
    let bit = bit_of_place i d inside in
    subst (λ n. new < 2 ^ n) (omega arith) below
