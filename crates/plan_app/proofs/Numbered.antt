-- A list paired with another one, by their numbers, grows at its end.
use Rattle.std.proofs.Common.{◌≡◌, ℕ, ◌+◌, ◌<◌, ◌≤◌, List, [], ◌∷◌, ◌++◌, length, take, get_or, sym, ap₂, subst, ◌∙◌, arith}
use Rattle.std.specs.List.{AllZip, enumerate_from}
use Rattle.std.proofs.lemmas.List.{take_more, take_all}
use Rattle.plan_app.proofs.Verdicts.{zip_push}
use Rattle.std.proofs.lemmas.List.FromFn.{get_or-enumerate_from, length-enumerate_from}

pub numbered_more : {A B : Type 0} (R : ℕ × A → B → Type 0) (xs : List A) (i : ℕ) (x : A) (ys zs : List B) (y : B)
    → i < length xs → x ≡ get_or xs i x → AllZip R (take i (enumerate_from 0 xs)) ys → R (i, x) y
    → zs ≡ ys ++ y ∷ [] → AllZip R (take (i + 1) (enumerate_from 0 xs)) zs
numbered_more R xs i x ys zs y h is all one pushed =
    let rows = enumerate_from 0 xs in
    let long : i < length rows = subst (λ n. i < n) (sym (length-enumerate_from 0 xs)) h in
    let same : 0 + i ≡ i = omega arith in
    let here : get_or rows i (i, x) ≡ (i, x) =
    get_or-enumerate_from 0 xs i (i, x) h ∙ ap₂ (λ k a. (k, a)) same (sym is) in
    subst (λ l. AllZip R l zs) (sym (take_more rows i (i, x) long))
    (subst (AllZip R (take i rows ++ get_or rows i (i, x) ∷ [])) (sym pushed)
    (zip_push R (take i rows) ys (get_or rows i (i, x)) y all (subst (λ p. R p y) (sym here) one)))

pub numbered_all : {A B : Type 0} (R : ℕ × A → B → Type 0) (xs : List A) (i : ℕ) (ys : List B) → length xs ≤ i
    → AllZip R (take i (enumerate_from 0 xs)) ys → AllZip R (enumerate_from 0 xs) ys
numbered_all R xs i ys h all =
    let rows = enumerate_from 0 xs in
    let long : length rows ≤ i = subst (λ n. n ≤ i) (sym (length-enumerate_from 0 xs)) h in
    subst (λ l. AllZip R l ys) (take_all i rows long) all
