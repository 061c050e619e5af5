-- Two parts of a text, one after the other.
use Rattle.std.proofs.Common.{◌≡◌, ℕ, List, ◌++◌, ap, ◌∙◌, Result, Ok, Err, OnOk}
use Rattle.std.proofs.lemmas.List.{append_assoc}

pub two_parts : {X E : Type 0} (r : Result X E) (old one all a b : List ℕ) → one ≡ old ++ a
    → OnOk r (all ≡ one ++ b) → OnOk r (all ≡ old ++ (a ++ b))
two_parts (Err e) old one all a b first second = tt
two_parts (Ok x) old one all a b first second = second ∙ ap (λ l. l ++ b) first ∙ append_assoc old a b
