-- Texts with a number in their names, one word after another.
use Rattle.std.proofs.Common.{◌≡◌, ◌≢◌, ◌∙◌, ◌<◌, ◌++◌, ◌∷◌, [], ℕ, false, nat_eq, List, codes, flat_map, get_or, length, refl, sym, ap, append_assoc, ne_eqb, arith}
use Rattle.std.proofs.Common.{Result, Ok, Err, OnOk}
use Rattle.std.proofs.lemmas.List.{append-nil}
use Rattle.std.proofs.lemmas.List.Elements.{All-from_get_or}
use Rattle.std.proofs.lemmas.List.Splits.{slice_split_at, slice_split_none, length-slice_split}
use Rattle.std.specs.List.{All, join_by}
use Rattle.plan_text.specs.Names.{Text}
use Rattle.plan_document.specs.Saying.{words_in}
use Rattle.plan_header.specs.Numbered.{numbered, numbered_word}

-- no byte of a word is a blank
abbrev pub LacksBlank : Text → Type 0
LacksBlank word = All (λ byte. nat_eq byte 32 ≡ false) word

pub no_blank : (word : Text) → ((i : ℕ) → i < length word → get_or word i 0 ≢ 32) → LacksBlank word
no_blank word lacks =
    All-from_get_or (λ byte. nat_eq byte 32 ≡ false) word 0 (λ i within. ne_eqb (get_or word i 0) 32 (lacks i within))

-- of some items the first has the separator before it too
pub joined : (f : Text → Text) (sep : Text) (items : List Text) → 0 < length items
    → flat_map (λ item. sep ++ f item) items ≡ sep ++ join_by f sep items
joined f sep [] some = absurd (omega (arith, some))
joined f sep (item ∷ items) some = append_assoc sep (f item) (flat_map (λ item. sep ++ f item) items)

pub some_words : (text : Text) → 0 < length (words_in text)
some_words text = omega (arith, length-slice_split (λ byte. nat_eq byte 32) text)

pub numbered_more : (number : ℕ) (rest word more : Text) → rest ≡ word ++ 32 ∷ more → LacksBlank word
    → numbered number rest ≡ numbered_word number word ++ (codes " " ++ numbered number more)
numbered_more number rest word more whole lacks =
    ap (numbered number) whole
    ∙ ap (join_by (numbered_word number) (codes " "))
    (slice_split_at (λ byte. nat_eq byte 32) word 32 more lacks refl)
    ∙ ap (λ l. numbered_word number word ++ l)
    (joined (numbered_word number) (codes " ") (words_in more) (some_words more))

pub numbered_last : (number : ℕ) (word : Text) → LacksBlank word → numbered number word ≡ numbered_word number word
numbered_last number word lacks =
    ap (join_by (numbered_word number) (codes " ")) (slice_split_none (λ byte. nat_eq byte 32) word lacks)
    ∙ append-nil (numbered_word number word)

-- a text so far, with what is still to come
pub word_more : (number : ℕ) (whole text new later rest word more : Text) → whole ≡ text ++ numbered number rest
    → new ≡ text ++ numbered_word number word → later ≡ new ++ codes " " → rest ≡ word ++ 32 ∷ more → LacksBlank word
    → whole ≡ later ++ numbered number more
word_more number whole text new later rest word more so_far one blank cut lacks =
    so_far ∙ ap (λ l. text ++ l) (numbered_more number rest word more cut lacks)
    ∙ sym (append_assoc text (numbered_word number word) (codes " " ++ numbered number more))
    ∙ ap (λ l. l ++ (codes " " ++ numbered number more)) (sym one)
    ∙ sym (append_assoc new (codes " ") (numbered number more))
    ∙ ap (λ l. l ++ numbered number more) (sym blank)

pub word_last : {X E : Type 0} (r : Result X E) (number : ℕ) (whole text new rest : Text)
    → whole ≡ text ++ numbered number rest → LacksBlank rest → OnOk r (new ≡ text ++ numbered_word number rest)
    → OnOk r (new ≡ whole)
word_last (Err e) number whole text new rest so_far lacks last = tt
word_last (Ok x) number whole text new rest so_far lacks last =
    last ∙ ap (λ l. text ++ l) (sym (numbered_last number rest lacks)) ∙ sym so_far
