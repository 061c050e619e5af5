use Rattle.std.proofs.Common.{◌≡◌, ◌∷◌, ◌++◌, [], ℕ, List, map, codes, string_bytes, refl}
use Rattle.program_shell.proofs.words.words_with.Goals as goal

-- words after the name
after_name : {S : Type 0} (bytes : S → List ℕ) (name : S) (none words rest all : List S) → bytes name ≡ codes "cell" → none ≡ [] → words ≡ none ++ name ∷ [] → all ≡ words ++ rest
    → map bytes all ≡ codes "cell" ∷ map bytes rest
after_name bytes name none words rest all is empty one joined = rw (joined, one, empty, is) refl

pub returns : goal.returns
returns c = after_name string_bytes c.in_ok-from_str.field-0 _ _ _ _ c.in_ok-from_str.ensures.ok c.new-words.ensures.items c.in_ok-push.ensures.items c.in_ok-append.ensures.items
