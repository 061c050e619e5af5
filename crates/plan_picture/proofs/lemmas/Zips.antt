-- One pair more, after those so far.
use Rattle.std.proofs.Common.{◌≡◌, ℕ, ◌+◌, ◌<◌, List, [], ◌∷◌, ◌++◌, get_or, length, take, sym, subst}
use Rattle.std.specs.List.{AllZip}
use Rattle.std.proofs.lemmas.List.{take_more}

zip_push : {A B : Type 0} (R : A → B → Type 0) (xs : List A) (ys : List B) (x : A) (y : B) → AllZip R xs ys → R x y
    → AllZip R (xs ++ x ∷ []) (ys ++ y ∷ [])
zip_push R [] [] x y all one = (one, tt)
zip_push R [] (b ∷ ys) x y all one = absurd all
zip_push R (a ∷ xs) [] x y all one = absurd all
zip_push R (a ∷ xs) (b ∷ ys) x y all one = (all.0, zip_push R xs ys x y all.1 one)

pub zip_more : {A B : Type 0} (R : A → B → Type 0) (xs : List A) (i : ℕ) (none : A) (ys zs : List B) (y : B)
    → i < length xs → AllZip R (take i xs) ys → R (get_or xs i none) y → zs ≡ ys ++ y ∷ []
    → AllZip R (take (i + 1) xs) zs
zip_more R xs i none ys zs y h all one pushed =
    subst (λ rows. AllZip R rows zs) (sym (take_more xs i none h))
    (subst (AllZip R (take i xs ++ get_or xs i none ∷ [])) (sym pushed)
    (zip_push R (take i xs) ys (get_or xs i none) y all one))
