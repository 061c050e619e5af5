-- What stands in lists, and where.
use Rattle.std.proofs.Common.{◌≡◌, ◌∙◌, ◌+◌, ◌-◌, ◌<◌, ◌++◌, ◌∷◌, [], ◌⊎◌, inl, inr, ℕ, zero, suc, Bool, true, false, ◌&&◌, List, length, map, get_or, refl, sym, ap, subst, arith}
use Rattle.std.proofs.Common.{Option, Some, None}
use Rattle.std.proofs.lemmas.Grind.{flat_map-append, get_or_head}
use Rattle.std.proofs.lemmas.List.{append_assoc, get_or-append_right, length-append, length-map, map-append}
use Rattle.std.proofs.lemmas.List.Folds.{list_all-append}
use Rattle.std.proofs.lemmas.List.FromFn.{length-enumerate_from}
use Rattle.std.proofs.lemmas.Slice.Eq.{bytes_eq-Decides}
use Rattle.std.specs.Bool.{then_some}
use Rattle.std.specs.List.{AllZip, enumerate_from, flat_map, list_all}
use Rattle.std.specs.Option.{option_or}
use Rattle.std.specs.Str.{bytes_eq}
use Rattle.plan_types.specs.Below.{first_below}
use Rattle.plan_text.specs.Names.{Text, name_in, number_if, number_in}
use Rattle.plan_document.specs.Names.{AreDistinct}
use Rattle.plan_document.specs.PlanLaws.{StandsAt}
use Rattle.plan_document.proofs.PlanRows.{both}

-- ---- one list

-- the item that comes after a list of a known length
seam : {A : Type 0} (front : List A) (x : A) (back : List A) (d : A) (i : ℕ) → length front ≡ i → get_or (front ++ x ∷ back) i d ≡ x
seam front x back d i e =
    get_or-append_right front (x ∷ back) i i d e (omega arith) ∙ get_or_head x back (i - i) d (omega arith)

pub read_at : {A : Type 0} (xs : List A) (i : ℕ) (x d : A) → StandsAt xs i x → get_or xs i d ≡ x
read_at xs i x d here = ap (λ ys. get_or ys i d) here.is ∙ seam here.before x here.after d i here.count

within : {A : Type 0} (xs : List A) (i : ℕ) (x : A) → StandsAt xs i x → i < length xs
within xs i x here =
    let long : length xs ≡ length here.before + (length here.after + 1) = ap length here.is ∙ length-append here.before (x ∷ here.after) ∙ (omega arith) in
    omega (arith, long, here.count)

-- the same list and the same number, said in another way
pub moved : {A : Type 0} (xs ys : List A) (i j : ℕ) (x : A) → xs ≡ ys → i ≡ j → StandsAt ys i x → StandsAt xs j x
moved xs ys i j x same e here = record { before = here.before; after = here.after; is = same ∙ here.is; count = here.count ∙ e }

pub begins : {A : Type 0} (x : A) (xs : List A) → StandsAt (x ∷ xs) 0 x
begins x xs = record { before = []; after = xs; is = refl; count = refl }

-- the items of a list stand one place later in a longer one
pub later : {A : Type 0} (x : A) (xs : List A) (i : ℕ) (y : A) → StandsAt xs i y → StandsAt (x ∷ xs) (i + 1) y
later x xs i y here = record {
  before = x ∷ here.before;
  after = here.after;
  is = ap (λ ys. x ∷ ys) here.is;
  count = omega (arith, here.count);
}

-- an item that stands in a list passes the test that all pass
pub all_at : {A : Type 0} (test : A → Bool) (xs : List A) (i : ℕ) (x : A) → list_all test xs ≡ true → StandsAt xs i x → test x ≡ true
all_at test xs i x all here =
    let joined : (list_all test here.before && list_all test (x ∷ here.after)) ≡ true = sym (ap (list_all test) here.is ∙ list_all-append test here.before (x ∷ here.after)) ∙ all in
    let rest = both (list_all test here.before) (list_all test (x ∷ here.after)) joined in
    (both (test x) (list_all test here.after) rest.1).0

-- ---- a list made of another

pub mapped : {A B : Type 0} (f : A → B) (xs : List A) (i : ℕ) (x : A) → StandsAt xs i x → StandsAt (map f xs) i (f x)
mapped f xs i x here = record {
  before = map f here.before;
  after = map f here.after;
  is = ap (map f) here.is ∙ map-append f here.before (x ∷ here.after);
  count = length-map here.before f ∙ here.count;
}

number_on : {X : Type 0} (k m : ℕ) (front : List X) (x : X) (back : List X) → k + length front ≡ m → enumerate_from k (front ++ x ∷ back) ≡ enumerate_from k front ++ (m, x) ∷ enumerate_from (m + 1) back
number_on k m [] x back e =
    let same : k ≡ m = omega (arith, e) in ap (λ j. enumerate_from j (x ∷ back)) same
number_on k m (b ∷ bs) x back e = ap (λ ys. (k, b) ∷ ys) (number_on (k + 1) m bs x back (omega (arith, e)))

numbers : {X : Type 0} (xs : List X) (i : ℕ) (x : X) (here : StandsAt xs i x) → enumerate_from 0 xs ≡ enumerate_from 0 here.before ++ (i, x) ∷ enumerate_from (i + 1) here.after
numbers xs i x here = ap (enumerate_from 0) here.is ∙ number_on 0 i here.before x here.after (omega (arith, here.count))

-- each item with its number
pub numbered_at : {X : Type 0} (xs : List X) (i : ℕ) (x : X) → StandsAt xs i x → StandsAt (enumerate_from 0 xs) i (i, x)
numbered_at xs i x here = record {
  before = enumerate_from 0 here.before;
  after = enumerate_from (i + 1) here.after;
  is = numbers xs i x here;
  count = length-enumerate_from 0 here.before ∙ here.count;
}

inner : {A : Type 0} (es fs : List A) (x : A) (gs hs : List A) → es ++ ((fs ++ x ∷ gs) ++ hs) ≡ (es ++ fs) ++ x ∷ (gs ++ hs)
inner es fs x gs hs =
    ap (λ ys. es ++ ys) (append_assoc fs (x ∷ gs) hs) ∙ sym (append_assoc es fs (x ∷ (gs ++ hs)))

-- what one item has, among what all have: after what those before it have
flat_on : {X A : Type 0} (g : X → List A) (front : List X) (x : X) (back : List X) (j : ℕ) (y : A) → StandsAt (g x) j y → StandsAt (flat_map g (front ++ x ∷ back)) (length (flat_map g front) + j) y
flat_on g front x back j y own = record {
  before = flat_map g front ++ own.before;
  after = own.after ++ flat_map g back;
  is =
      flat_map-append g front (x ∷ back)
      ∙ ap (λ ys. flat_map g front ++ (ys ++ flat_map g back)) own.is
      ∙ inner (flat_map g front) own.before y own.after (flat_map g back);
  count = length-append (flat_map g front) own.before ∙ ap (λ k. length (flat_map g front) + k) own.count;
}

pub flat_at : {X A : Type 0} (g : X → List A) (xs : List X) (i : ℕ) (x : X) (here : StandsAt xs i x) (j : ℕ) (y : A) → StandsAt (g x) j y → StandsAt (flat_map g xs) (length (flat_map g here.before) + j) y
flat_at g xs i x here j y own =
    moved (flat_map g xs) (flat_map g (here.before ++ x ∷ here.after)) _ _ y (ap (flat_map g) here.is) refl
    (flat_on g here.before x here.after j y own)

-- two lists that have as many items for each item of one list
pub as_many : {X A B : Type 0} (f : ℕ × X → List A) (g : X → List B) → ((k : ℕ) (x : X) → length (f (k, x)) ≡ length (g x))
    → (k : ℕ) (xs : List X) → length (flat_map f (enumerate_from k xs)) ≡ length (flat_map g xs)
as_many f g same k [] = refl
as_many f g same k (b ∷ bs) =
    length-append (f (k, b)) (flat_map f (enumerate_from (k + 1) bs))
    ∙ rw (same k b, as_many f g same (k + 1) bs) refl
    ∙ sym (length-append (g b) (flat_map g bs))

-- so what a numbered item has stands after as many items
pub numbered_flat : {X A B : Type 0} (f : ℕ × X → List A) (g : X → List B) → ((k : ℕ) (x : X) → length (f (k, x)) ≡ length (g x))
    → (xs : List X) (i : ℕ) (x : X) (here : StandsAt xs i x) (j : ℕ) (y : A) → StandsAt (f (i, x)) j y → StandsAt (flat_map f (enumerate_from 0 xs)) (length (flat_map g here.before) + j) y
numbered_flat f g same xs i x here j y own =
    moved (flat_map f (enumerate_from 0 xs)) (flat_map f (enumerate_from 0 here.before ++ (i, x) ∷ enumerate_from (i + 1) here.after)) _ _ y
    (ap (flat_map f) (numbers xs i x here))
    (ap (λ k. k + j) (as_many f g same 0 here.before))
    (flat_on f (enumerate_from 0 here.before) (i, x) (enumerate_from (i + 1) here.after) j y own)

-- ---- two lists

zip_on : {A B : Type 0} (R : A → B → Type 0) (front : List A) (x : A) (back : List A) (ys : List B) (d : B) → AllZip R (front ++ x ∷ back) ys → R x (get_or ys (length front) d)
zip_on R [] x back [] d all = absurd all
zip_on R [] x back (y ∷ ys) d all = all.0
zip_on R (b ∷ bs) x back [] d all = absurd all
zip_on R (b ∷ bs) x back (y ∷ ys) d all = zip_on R bs x back ys d all.1

pub zip_at : {A B : Type 0} (R : A → B → Type 0) (xs : List A) (ys : List B) (i : ℕ) (x : A) (d : B) → AllZip R xs ys → StandsAt xs i x → R x (get_or ys i d)
zip_at R xs ys i x d all here =
    subst (λ j. R x (get_or ys j d)) here.count (zip_on R here.before x here.after ys d (subst (λ zs. AllZip R zs ys) here.is all))

pub zipped : {A B : Type 0} (R : A → B → Type 0) (xs : List A) (ys : List B) (i : ℕ) (x : A) (y : B) → AllZip R xs ys → StandsAt xs i x → StandsAt ys i y → R x y
zipped R xs ys i x y all one other = subst (R x) (read_at ys i y y other) (zip_at R xs ys i x y all one)

-- ---- names

or_cases : (a b : Option ℕ) (v : ℕ) → option_or a b ≡ Some v → (a ≡ Some v) ⊎ (b ≡ Some v)
or_cases None b v e = inr e
or_cases (Some w) b v e = inl e

found : (f : ℕ → Option ℕ) (n v : ℕ) → first_below f n ≡ Some v → (k : ℕ) × (k < n) × (f k ≡ Some v)
found f zero v e = absurd (cc)
found f (suc n) v e = elim (or_cases (first_below f n) (f n) v e) [
  | inl h ↦ let before = found f n v h in (before.0, omega (arith, before.1), before.2)
  | inr h ↦ (n, omega arith, h)
]

pub passed : (test : Bool) (k v : ℕ) → then_some test k ≡ Some v → (test ≡ true) × (k ≡ v)
passed true k v e = (refl, cc)
passed false k v e = absurd (cc)

-- the name of the number that a name has
pub name_of : (names : List Text) (name : Text) (v : ℕ) → number_in names name ≡ Some v → name_in names v ≡ name
name_of names name v e =
    let h = found (number_if names name) (length names) v e in
    let p = passed (bytes_eq (name_in names h.0) name) h.0 v h.2 in
    ap (name_in names) (sym p.1) ∙ (bytes_eq-Decides (name_in names h.0) name).0 p.0

-- which is below the count of names
pub number_below : (names : List Text) (name : Text) (v : ℕ) → number_in names name ≡ Some v → v < length names
number_below names name v e =
    let h = found (number_if names name) (length names) v e in
    let p = passed (bytes_eq (name_in names h.0) name) h.0 v h.2 in
    omega (arith, h.1, p.1)

-- the name with the number of a row is that of the row
pub named_at : {A : Type 0} (f : A → Text) (xs : List A) (names : List Text) (i : ℕ) (x : A) → names ≡ map f xs → StandsAt xs i x → name_in names i ≡ f x
named_at f xs names i x is here =
    ap (λ ns. name_in ns i) is ∙ read_at (map f xs) i (f x) [] (mapped f xs i x here)

-- a name that stands among distinct ones has the number of its place
pub own_number : (names : List Text) (i : ℕ) (name : Text) → AreDistinct names → StandsAt names i name → number_in names name ≡ Some i
own_number names i name all here =
    sym (ap (number_in names) (read_at names i name [] here)) ∙ all i (within names i name here)

pub same_number : (i j : ℕ) → Some i ≡ Some j → i ≡ j
same_number i j e = cc
