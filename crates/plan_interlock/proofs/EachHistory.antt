-- Each word's own history stays legal.
use Rattle.std.proofs.Common.{◌≡◌, ◌≢◌, ◌⊎◌, inl, inr, ℕ, List, All, get_or, sym, subst}
use Rattle.std.proofs.lemmas.Bool.{cases_eq}
use Rattle.std.proofs.lemmas.List.{get_or-map}
use Rattle.word_interlock.specs.History.{IsLawful}
use Rattle.plan_interlock.specs.Book.{plan_book, plan_of}
use Rattle.plan_interlock.specs.Plant.{WordView, RightView, PlantPassView}
use Rattle.plan_interlock.specs.PlantLaws.{HasAsked, IsLawfulOnEach, WordsStayLawful}
use Rattle.plan_interlock.specs.PlantMake.{new_pass, new_right}

abbrev Lawful : WordView → RightView → Type 0
Lawful i v = IsLawful (plan_book (plan_of i.rules)) v.opening v.seen

at_first : (words : List WordView) (m : ℕ) → All (λ i. (plan_book (plan_of i.rules)).is_sound i.opening) words → IsLawfulOnEach words (new_pass words m)
at_first words m sound n i v low =
    let new : Lawful (get_or words n i) (new_right m (get_or words n i)) = record { opened = sound n i low; legal = tt } in
    subst (Lawful (get_or words n i)) (sym (get_or-map (new_right m) words n i v low)) new

stays : (words : List WordView) (before after : PlantPassView) → IsLawfulOnEach words before → HasAsked words before after → IsLawfulOnEach words after
stays words before after all made n i v low = go (cases_eq n made.word)
  where
    go : (n ≡ made.word) ⊎ (n ≢ made.word) → Lawful (get_or words n i) (get_or after.rights n v)
    go (inl same) =
        let one = made.asked i v v in
        let here : Lawful (get_or words made.word i) (get_or after.rights made.word v) = subst (λ s. IsLawful (plan_book (plan_of (get_or words made.word i).rules)) s (get_or after.rights made.word v).seen) (sym one.pass.opening) one.lawful in
        subst (λ k. Lawful (get_or words k i) (get_or after.rights k v)) (sym same) here
    go (inr other) = subst (Lawful (get_or words n i)) (sym (made.others n v other)) (all n i v low)

pub words_stay_lawful : WordsStayLawful
words_stay_lawful = record { at_first = at_first; stays = stays }
