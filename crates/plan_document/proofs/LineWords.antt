-- The first word of a text, byte by byte.
use Rattle.std.proofs.Common.{◌≡◌, ◌∙◌, ◌+◌, ◌<◌, ◌≤◌, ◌++◌, ◌∷◌, [], ℕ, List, true, false, nat_eq, length, take, drop, get_or, ap, sym, append_assoc, append-nil, arith, if◌then◌else◌}
use Rattle.std.proofs.lemmas.List.{take_more, at_drop_more, at_drop_all}
use Rattle.plan_document.specs.OnWord.{first_word, second_word}

pub word_more : (text : List ℕ) (i : ℕ) → i < length text → nat_eq (get_or text i 0) 32 ≡ false → take (i + 1) text ++ first_word (drop (i + 1) text) ≡ take i text ++ first_word (drop i text)
unfolding first_word
word_more text i l other =
    let byte = get_or text i 0 in
    let here : first_word (drop i text) ≡ byte ∷ first_word (drop (i + 1) text) = at_drop_more first_word text i 0 l ∙ ap (λ b. if b then [] else byte ∷ first_word (drop (i + 1) text)) other in
    ap (λ xs. xs ++ first_word (drop (i + 1) text)) (take_more text i 0 l)
    ∙ append_assoc (take i text) (byte ∷ []) (first_word (drop (i + 1) text))
    ∙ ap (λ xs. take i text ++ xs) (sym here)

pub word_stops : (text : List ℕ) (i : ℕ) → i < length text → nat_eq (get_or text i 0) 32 ≡ true → take i text ++ first_word (drop i text) ≡ take i text
unfolding first_word
word_stops text i l blank =
    ap (λ xs. take i text ++ xs) (at_drop_more first_word text i 0 l ∙ ap (λ b. if b then [] else get_or text i 0 ∷ first_word (drop (i + 1) text)) blank)
    ∙ append-nil (take i text)

pub word_ends : (text : List ℕ) (i : ℕ) → length text ≤ i → take i text ++ first_word (drop i text) ≡ take i text
unfolding first_word
word_ends text i l = ap (λ xs. take i text ++ xs) (at_drop_all first_word text i l) ∙ append-nil (take i text)

pub second_past : (text : List ℕ) → length text < length (first_word text) + 1 → [] ≡ second_word text
unfolding first_word
second_past text l = sym (at_drop_all first_word text (length (first_word text) + 1) (omega (arith, l)))
