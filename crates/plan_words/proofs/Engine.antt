-- A step for a call on one word of a table keeps one history of all words.
use Rattle.std.proofs.Common.{◌≡◌, ◌≢◌, ℕ, List, [], ◌∷◌, ◌++◌, get_or, refl, sym, ap, ◌∙◌, subst, ⊎_elim, append-nil, append_assoc}
use mathlib.Core.Option.{some}
use lib.ListN.{get_elem?}
use Rattle.atomic_table.specs.Table.{keeps}
use Rattle.atomic_table.proofs.Lists.{at_set}
use Rattle.plan_words.specs.Run.{Word, WordEvent}
use Rattle.plan_words.specs.Table.{word_event}
use Rattle.plan_words.specs.Engine.{CallsAreAllowed}
use Rattle.plan_words.proofs.OneTable.{steps_tell}

abbrev pub Begins : List WordEvent → List WordEvent → Type 0
Begins now before = (more : List WordEvent) × (now ≡ before ++ more)

begins_more : (h before : List WordEvent) (x : WordEvent) → Begins h before → Begins (h ++ x ∷ []) before
begins_more h before x (more, e) = (more ++ x ∷ [], ap (λ es. es ++ x ∷ []) e ∙ append_assoc before more (x ∷ []))

pub calls_are_allowed : (T : Type 0) (count : ℕ) (words : ℕ → Word) → CallsAreAllowed T count words
calls_are_allowed T count words states slots id n m c answer new me l step s k homes at fits =
    let word = get_or s.words n 0 in
    let x = word_event n m c (answer word) in
    let now = k.history ++ x ∷ [] in (
      now,
      keeps,
      tt,
      record {
        history = now;
        cells = steps_tell count words states k.history s.words n m c (answer word) (new word) k.cells l (step word);
        seen = λ j view e. ⊎_elim (λ (t : (j ≡ id) × (now ≡ view)). subst (Begins now) t.1 ([], sym (append-nil now)))
            (λ (t : (j ≢ id) × (get_elem? s.views j ≡ some view)). begins_more k.history view x (k.seen j view t.1)) (at_set s.views id j now view e);
      },
      (k.history, k.seen id me.0 at, k.cells.each n l, refl),
    )
