use Rattle.std.proofs.Common.{◌≡◌, ◌<◌, ◌+◌, ◌++◌, ◌∷◌, [], ℕ, List, length, get_or, map, take, string_bytes, ap, ap₂, sym, ◌∙◌}
use Rattle.std.specs.Borrow.{Bor}
use Rattle.std.proofs.lemmas.List.{map-append, take_more}
use Rattle.program_shell.proofs.words.texts_of.Goals as goal

-- the texts of some first words, and one more
one_more : {S T : Type 0} (now : T → List ℕ) (bytes : S → List ℕ) (words : List S) (i : ℕ) (word : S) (old new : List T) (text : T) → i < length words → word ≡ get_or words i word → now text ≡ bytes word
    → map now old ≡ map bytes (take i words) → new ≡ old ++ text ∷ [] → map now new ≡ map bytes (take (i + 1) words)
one_more now bytes words i word old new text below is same so_far one =
    let more = ap (λ w. take i words ++ w ∷ []) is ∙ sym (take_more words i word below) in
    ap (map now) one ∙ map-append now old (text ∷ []) ∙ ap₂ (λ a b. a ++ b ∷ []) so_far same ∙ sym (map-append bytes (take i words) (word ∷ [])) ∙ ap (map bytes) more

pub words-preserved : goal.words-preserved
words-preserved c =
    one_more (λ (w : Bor (List ℕ)). w.now) string_bytes c.args.words.now c.words.word-index c.word-item.result c.words.texts.items c.push.new.self.items c.as_str.result
    c.words-test.true c.word-item.is c.as_str.ensures.value c.words.invariant c.in_ok-push.ensures.items
