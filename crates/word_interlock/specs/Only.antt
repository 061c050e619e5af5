-- The element of a list that has only one.
use Rattle.std.specs.Prelude.{List, [], ◌∷◌, ⊤}
use Rattle.std.specs.Coded.{Unit-prop}

abbrev pub HasOne : {T : Type 0} → List T → Type 0
HasOne [] = ⊥
HasOne (x ∷ []) = ⊤
HasOne (x ∷ y ∷ rest) = ⊥

abbrev pub only_of : {T : Type 0} → (xs : List T) → HasOne xs → T
only_of [] one = absurd one
only_of (x ∷ rest) one = x

bottom-prop : IsProp ⊥
bottom-prop x y = absurd x

pub HasOne-prop : {T : Type 0} → (xs : List T) → IsProp (HasOne xs)
HasOne-prop [] = bottom-prop
HasOne-prop (x ∷ []) = Unit-prop
HasOne-prop (x ∷ y ∷ rest) = bottom-prop
