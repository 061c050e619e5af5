-- A list in place of another, which is as long.
use Rattle.std.proofs.Common.{◌≡◌, ℕ, List, [], ◌++◌, length, take, drop, ap, ◌∙◌, arith, append-nil}
use Rattle.std.proofs.lemmas.List.{drop_all, take_all}

pub written : {X : Type 0} (old new : List X) (n : ℕ) → n ≡ length old → length new ≡ length old → take n (new ++ drop (length new) old) ≡ new
written old new n all same =
    let none : drop (length new) old ≡ [] = drop_all (length new) old (omega (arith, same)) in
    ap (λ ys. take n (new ++ ys)) none ∙ (ap (take n) (append-nil new) ∙ take_all n new (omega (arith, all, same)))
