-- Rows of one width, one after another.
use Rattle.std.proofs.Common.{◌≡◌, ℕ, suc, ◌*◌, ◌<◌, List, [], ◌∷◌, ◌++◌, length, take, drop, All, flat_map}
use Rattle.std.proofs.Common.{refl, sym, ◌∙◌, ap, arith, append_assoc, length-append, mul-zero}
use Rattle.std.proofs.lemmas.List.{take_at, drop_at, append-nil}

pub all_head : {A : Type 0} (P : A → Type 0) (x : A) (xs : List A) → All P (x ∷ xs) → P x
all_head P x xs all = all 0 x (omega arith)

pub all_tail : {A : Type 0} (P : A → Type 0) (x : A) (xs : List A) → All P (x ∷ xs) → All P xs
all_tail P x xs all k d below = all (suc k) d (omega (arith, below))

-- no row is empty
pub some_bytes : {A : Type 0} (f : A → List ℕ) (w : ℕ) (x : A) (rest : List ℕ) → length (f x) ≡ suc w
    → [] ≡ f x ++ rest → ⊥
some_bytes f w x rest width e =
    let long : 0 ≡ length (f x ++ rest) = ap length e in omega (arith, long, width, length-append (f x) rest)

-- where two texts begin with rows of one width, the rows are the same, and so is what follows
pub same_heads : (a b rest more : List ℕ) (n : ℕ) → length a ≡ n → length b ≡ n → a ++ rest ≡ b ++ more → a ≡ b
same_heads a b rest more n la lb e = sym (take_at a rest n la) ∙ ap (λ xs. take n xs) e ∙ take_at b more n lb

pub same_tails : (a b rest more : List ℕ) (n : ℕ) → length a ≡ n → length b ≡ n → a ++ rest ≡ b ++ more
    → rest ≡ more
same_tails a b rest more n la lb e = sym (drop_at a rest n la) ∙ ap (λ xs. drop n xs) e ∙ drop_at b more n lb

-- rows that begin with some rows go on after them
pub rows_go_on : {A : Type 0} (f : A → List ℕ) (P : A → Type 0) (w : ℕ)
    → ((x : A) → P x → length (f x) ≡ suc w) → ((x y : A) → P x → P y → f x ≡ f y → x ≡ y)
    → (xs ys : List A) (rest : List ℕ) → All P xs → All P ys → flat_map f ys ≡ flat_map f xs ++ rest
    → (zs : List A) × (ys ≡ xs ++ zs) × (flat_map f zs ≡ rest) × All P zs
rows_go_on f P w width same [] ys rest ax ay e = (ys, refl, e, ay)
rows_go_on f P w width same (x ∷ xs) [] rest ax ay e =
    let apart = e ∙ append_assoc (f x) (flat_map f xs) rest in
    absurd (some_bytes f w x (flat_map f xs ++ rest) (width x (all_head P x xs ax)) apart)
rows_go_on f P w width same (x ∷ xs) (y ∷ ys) rest ax ay e =
    let more = flat_map f ys in
    let after = flat_map f xs ++ rest in
    let split : f y ++ more ≡ f x ++ after = e ∙ append_assoc (f x) (flat_map f xs) rest in
    let wy = width y (all_head P y ys ay) in
    let wx = width x (all_head P x xs ax) in
    let one : y ≡ x = same y x (all_head P y ys ay) (all_head P x xs ax)
    (same_heads (f y) (f x) more after (suc w) wy wx split) in
    let all = rows_go_on f P w width same xs ys rest (all_tail P x xs ax) (all_tail P y ys ay)
    (same_tails (f y) (f x) more after (suc w) wy wx split) in
    let begins : ys ≡ xs ++ all.0 = all.1 in
    (all.0, cc, all.2, all.3)

-- no rows have no bytes
pub no_more_rows : {A : Type 0} (f : A → List ℕ) (P : A → Type 0) (w : ℕ)
    → ((x : A) → P x → length (f x) ≡ suc w) → (zs : List A) → All P zs → flat_map f zs ≡ [] → zs ≡ []
no_more_rows f P w width [] az e = refl
no_more_rows f P w width (z ∷ zs) az e =
    absurd (some_bytes f w z (flat_map f zs) (width z (all_head P z zs az)) (sym e))

-- the rows of some bytes are these alone
pub one_reading : {A : Type 0} (f : A → List ℕ) (P : A → Type 0) (w : ℕ)
    → ((x : A) → P x → length (f x) ≡ suc w) → ((x y : A) → P x → P y → f x ≡ f y → x ≡ y)
    → (xs ys : List A) → All P xs → All P ys → flat_map f ys ≡ flat_map f xs → ys ≡ xs
one_reading f P w width same xs ys ax ay e =
    let all = rows_go_on f P w width same xs ys [] ax ay (e ∙ sym (append-nil (flat_map f xs))) in
    let nothing = no_more_rows f P w width all.0 all.3 all.2 in
    all.1 ∙ ap (λ zs. xs ++ zs) nothing ∙ append-nil xs

-- where a row has no reading, all have none
pub begins_with : {A : Type 0} (f : A → List ℕ) (P : A → Type 0) (w : ℕ)
    → ((x : A) → P x → length (f x) ≡ suc w) → (zs : List A) (rest : List ℕ) → All P zs → flat_map f zs ≡ rest
    → 0 < length rest → (z : A) × P z × (f z ≡ take (suc w) rest)
begins_with f P w width [] rest az e some =
    let none : 0 ≡ length rest = ap length e in absurd (omega (arith, none, some))
begins_with f P w width (z ∷ zs) rest az e some =
    let head = all_head P z zs az in
    (z, head, sym (take_at (f z) (flat_map f zs) (suc w) (width z head)) ∙ ap (λ xs. take (suc w) xs) e)

pub no_reading : {A : Type 0} (f : A → List ℕ) (P : A → Type 0) (w : ℕ)
    → ((x : A) → P x → length (f x) ≡ suc w) → ((x y : A) → P x → P y → f x ≡ f y → x ≡ y)
    → (xs ys : List A) (bytes rest : List ℕ) → All P xs → All P ys → bytes ≡ flat_map f xs ++ rest → 0 < length rest
    → ((z : A) → P z → f z ≡ take (suc w) rest → ⊥) → flat_map f ys ≡ bytes → ⊥
no_reading f P w width same xs ys bytes rest ax ay is some unread e =
    let all = rows_go_on f P w width same xs ys rest ax ay (e ∙ is) in
    let first = begins_with f P w width all.0 rest all.3 all.2 some in
    unread first.0 first.1 first.2

-- how long rows are together
pub rows_length : {A : Type 0} (f : A → List ℕ) (P : A → Type 0) (n : ℕ)
    → ((x : A) → P x → length (f x) ≡ n) → (xs : List A) → All P xs → length (flat_map f xs) ≡ n * length xs
rows_length f P n width [] all = sym (mul-zero n)
rows_length f P n width (x ∷ xs) all =
    let first = width x (all_head P x xs all) in
    let others = rows_length f P n width xs (all_tail P x xs all) in
    omega (arith, first, others, length-append (f x) (flat_map f xs))
