-- Values that are read one after another.
use Rattle.cell_config.proofs.Names.{◌≡◌, ℕ, ◌+◌, ◌<◌, ◌∙◌, ◌++◌, ◌∷◌, [], ◌&&◌, List, length, map, take, get_or, set, Bool, true, false, Option, Some, sym, ap, ap₂, arith, filter_map, list_all, cons_option, length-map, get_or-map, take_more, take_more_set, filter_map-append, list_all_at, list_all_more, Data, view, Value, Pair}

within_views : (vs : List Value) (i : ℕ) → i < length vs → i < length (map view vs)
within_views vs i h = omega (arith, length-map vs view)

view_at : (vs : List Value) (i : ℕ) (v : Value) (d : Data) → i < length vs → v ≡ get_or vs i v → get_or (map view vs) i d ≡ view v
view_at vs i v d h is = get_or-map view vs i v d h ∙ ap view (sym is)

-- a value that fails a test, and one that passes it
pub fails_at : (p : Data → Bool) (vs : List Value) (i : ℕ) (v : Value) → i < length vs → v ≡ get_or vs i v → p (view v) ≡ false → list_all p (map view vs) ≡ false
fails_at p vs i v h is fail = list_all_at p (map view vs) i (view v) (within_views vs i h) (ap p (view_at vs i v (view v) h is) ∙ fail)

pub passes_at : (p : Data → Bool) (vs : List Value) (i : ℕ) (v : Value) → i < length vs → v ≡ get_or vs i v → p (view v) ≡ true
    → list_all p (take i (map view vs)) ≡ true → list_all p (take (i + 1) (map view vs)) ≡ true
passes_at p vs i v h is pass all =
    list_all_more p (map view vs) i (view v) (within_views vs i h) ∙ ap₂ (λ (a b : Bool). a && b) all (ap p (view_at vs i v (view v) h is) ∙ pass)

-- the pair of another value is put after those of the values before it
pub pair_put : (f : Data → Option Pair) (vs : List Value) (pairs : List Pair) (i : ℕ) (v : Value) (pair : Pair) → i < length vs → i < length pairs → v ≡ get_or vs i v
    → f (view v) ≡ Some pair → take i pairs ≡ filter_map f (take i (map view vs)) → take (i + 1) (set pairs i pair) ≡ filter_map f (take (i + 1) (map view vs))
pair_put f vs pairs i v pair h room is found before =
    take_more_set pairs i pair room ∙ ap (λ (ps : List Pair). ps ++ pair ∷ []) before ∙ sym more
  where
    more : filter_map f (take (i + 1) (map view vs)) ≡ filter_map f (take i (map view vs)) ++ pair ∷ []
    more =
        ap (filter_map f) (take_more (map view vs) i (view v) (within_views vs i h) ∙ ap (λ (d : Data). take i (map view vs) ++ d ∷ []) (view_at vs i v (view v) h is))
        ∙ filter_map-append f (take i (map view vs)) (view v ∷ [])
        ∙ ap (λ (o : Option Pair). filter_map f (take i (map view vs)) ++ cons_option o []) found
