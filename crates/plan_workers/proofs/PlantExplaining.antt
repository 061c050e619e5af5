-- The words of a plant, audited one after another.
use Rattle.std.proofs.Common.{◌≡◌, ℕ, ◌+◌, ◌<◌, List, [], ◌∷◌, ◌++◌, length, get_or, refl, sym, ap, ◌∙◌, subst, arith, below_more}
use Rattle.std.proofs.lemmas.List.{get_or_append_left, get_or_default, length-append}
use Rattle.plan_types.specs.declared.answer.Event.{Event}
use Rattle.plan_workers.specs.declared.plant_audit.WordJournals.{WordJournals}
use Rattle.plan_workers.specs.Audited.{AreInOrder}
use Rattle.plan_workers.specs.PlantAudits.{EachIsExplained, ExplainsWord, IsFirstUnexplained, IsUnexplained}

-- the words below one are explained by these histories
pub record AreExplained (words : List WordJournals) (histories : List (List Event)) (n : ℕ) : Type 0 where
  pub many : length histories ≡ n
  pub each : (k : ℕ) → k < n → (w : WordJournals) (h : List Event) → ExplainsWord (get_or words k w) (get_or histories k h) × AreInOrder (get_or histories k h)

pub one_more_explained : (words : List WordJournals) (histories now : List (List Event)) (n : ℕ) (word : WordJournals) (history : List Event) → n < length words → AreExplained words histories n → word ≡ get_or words n word → now ≡ histories ++ history ∷ []
    → ExplainsWord word history → AreInOrder history → AreExplained words now (n + 1)
one_more_explained words histories now n word history low so at is explains order = record {
  many = ap length is ∙ (length-append histories (history ∷ []) ∙ ap (λ x. x + 1) so.many);
  each = below_more (λ k. (w : WordJournals) (h : List Event) → ExplainsWord (get_or words k w) (get_or now k h) × AreInOrder (get_or now k h)) n
      (λ k below w h.
      let many = so.many in
      let same : get_or now k h ≡ get_or histories k h = ap (λ xs. get_or xs k h) is ∙ get_or_append_left histories (history ∷ []) h k (omega (arith, below, many)) in
      subst (λ x. ExplainsWord (get_or words k w) x × AreInOrder x) (sym same) (so.each k below w h))
      (λ w h.
      let same : get_or now n h ≡ history = ap (λ xs. get_or xs n h) is ∙ (ap (λ m. get_or (histories ++ history ∷ []) m h) (sym so.many) ∙ last histories h) in
      let word_is : get_or words n w ≡ word = get_or_default words n w word low ∙ sym at in
      subst (λ x. ExplainsWord (get_or words n w) x × AreInOrder x) (sym same) (subst (λ y. ExplainsWord y history) (sym word_is) explains, order));
}
  where
    last : (xs : List (List Event)) (h : List Event) → get_or (xs ++ history ∷ []) (length xs) h ≡ history
    last [] h = refl
    last (x ∷ xs) h = last xs h

pub first_unexplained : (words : List WordJournals) (histories : List (List Event)) (n : ℕ) (word : WordJournals) → n < length words → AreExplained words histories n → word ≡ get_or words n word → IsUnexplained word → IsFirstUnexplained words n
first_unexplained words histories n word low so at none = record {
  below = low;
  none = λ w. subst (λ y. IsUnexplained y) (at ∙ get_or_default words n word w low) none;
  earlier = λ k w below. (get_or histories k [], (so.each k below w []).0);
}

pub all_explained : (words : List WordJournals) (histories : List (List Event)) (n : ℕ) → n ≡ length words → AreExplained words histories n → EachIsExplained words histories
all_explained words histories n all so k w h low = so.each k (subst (λ x. k < x) (sym all) low) w h
