-- A text that grows by the text of each item.
use Rattle.std.proofs.Common.{◌≡◌, ◌<◌, ◌+◌, ◌++◌, ◌∷◌, [], ℕ, List, length, get_or, take, ap, sym, ◌∙◌}
use Rattle.std.proofs.lemmas.List.{flat_map_more, take_more}
use Rattle.std.specs.List.{flat_map}
use Rattle.explore_app.specs.Bounds.{Text}

pub one_more_item : {X : Type 0} (f : X → Text) (xs : List X) (i : ℕ) (x d : X) (old text new : Text) → i < length xs → x ≡ get_or xs i d → text ≡ old ++ flat_map f (take i xs) → new ≡ text ++ f x
    → new ≡ old ++ flat_map f (take (i + 1) xs)
one_more_item f xs i x d old text new below is so_far joined =
    let more = ap (λ w. take i xs ++ w ∷ []) is ∙ sym (take_more xs i d below) in
    joined ∙ ap (λ t. t ++ f x) so_far ∙ flat_map_more f old (take i xs) x ∙ ap (λ l. old ++ flat_map f l) more
