use Rattle.cell_config.proofs.Names.{List, [], ◌∷◌, ◌≡◌, ◌<◌, ◌≤◌, ◌∙◌, Option, None, ℤ, length, refl, sym, ap, arith, Data, Items, string, integer, array, item, no_items, items_view, view, Value, pair_of}
use Rattle.cell_config.proofs.CurveChoices.{array_is}
use Rattle.cell_config.proofs.sections.pair_of.Goals as goal

-- one item is no pair, nor are three or more
one_is_none : (x : Data) → ◌≡◌ {A = Option (ℤ × ℤ)} None (pair_of (array (item x no_items)))
one_is_none (string s) = refl
one_is_none other = refl

after_number : (z : ℤ) (y third : Data) (more : Items) → ◌≡◌ {A = Option (ℤ × ℤ)} None (pair_of (array (item (integer z) (item y (item third more)))))
after_number z (integer n) third more = refl
after_number z other third more = refl

three_are_none : (x y third : Data) (more : Items) → ◌≡◌ {A = Option (ℤ × ℤ)} None (pair_of (array (item x (item y (item third more)))))
three_are_none (integer z) y third more = after_number z y third more
three_are_none other y third more = refl

few : (vs : List Value) → length vs < 2 → ◌≡◌ {A = Option (ℤ × ℤ)} None (pair_of (array (items_view vs)))
few [] h = refl
few (x ∷ []) h = one_is_none (view x)
few (x ∷ y ∷ more) h = absurd (omega arith)

many : (vs : List Value) → 3 ≤ length vs → ◌≡◌ {A = Option (ℤ × ℤ)} None (pair_of (array (items_view vs)))
many (x ∷ y ∷ z ∷ more) h = three_are_none (view x) (view y) (view z) (items_view more)
many other h = absurd (omega arith)

pub returns-in_default : goal.returns-in_default
returns-in_default c =
    let short : length c.in_ok-items.items.now.items < 2 = rw c.as_slice.ensures.value at c.in_default.len_below in
    few c.in_ok-items.items.now.items short ∙ ap pair_of (sym (array_is _ _ c.in_ok-items.ensures))

pub returns-in_default-2 : goal.returns-in_default-2
returns-in_default-2 c =
    let long : 3 ≤ length c.in_ok-items.items.now.items = rw c.as_slice.ensures.value at c.in_default.len_at_least in
    many c.in_ok-items.items.now.items long ∙ ap pair_of (sym (array_is _ _ c.in_ok-items.ensures))
