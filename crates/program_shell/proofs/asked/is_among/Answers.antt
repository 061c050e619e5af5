use Rattle.std.proofs.Common.{◌≡◌, ◌||◌, ℕ, List, [], ◌∷◌, refl, ap, ◌∙◌}
use Rattle.std.specs.Borrow.{Bor}
use Rattle.std.specs.List.{list_any}
use Rattle.std.specs.Str.{bytes_eq}
use Rattle.program_shell.specs.Asked.{is_among}
use Rattle.program_shell.specs.Words.{texts_of}
use Rattle.program_shell.proofs.asked.is_among.Goals as goal

among_texts : (own : List (Bor (List ℕ))) (word : List ℕ) → list_any (λ one. bytes_eq one.now word) own ≡ is_among (texts_of own) word
among_texts [] word = refl
among_texts (one ∷ own) word = ap (λ b. bytes_eq one.now word || b) (among_texts own word)

pub returns : goal.returns
returns c = c.contains.ensures.value ∙ among_texts c.args.own.now c.args.word.now
