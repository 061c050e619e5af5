-- One byte more, after those so far.
use Rattle.std.proofs.Common.{◌≡◌, ℕ, ◌+◌, ◌<◌, List, ◌++◌, flat_map, get_or, length, take, sym, ap, ◌∙◌}
use Rattle.std.proofs.lemmas.List.{flat_map_more, take_more}

pub one_byte_more : (f : ℕ → List ℕ) (old before new bytes : List ℕ) (n : ℕ) → n < length bytes
    → before ≡ old ++ flat_map f (take n bytes) → new ≡ before ++ f (get_or bytes n 0)
    → new ≡ old ++ flat_map f (take (n + 1) bytes)
one_byte_more f old before new bytes n below so_far next =
    next ∙ ap (λ l. l ++ f (get_or bytes n 0)) so_far ∙ flat_map_more f old (take n bytes) (get_or bytes n 0)
    ∙ ap (λ l. old ++ flat_map f l) (sym (take_more bytes n 0 below))
