-- Prefixes of histories, and the states after them.
use Rattle.cell_rules.proofs.Names.{◌≡◌, List, [], ◌∷◌, ◌++◌, refl, subst, ModelState, IsSound, next, after, IsLegal, Throughout}
use Rattle.cell_types.specs.declared.answer.Event.{Event}
use Rattle.cell_rules.proofs.lemmas.Soundness.{next_keeps}

pub after-append : (s : ModelState) (a b : List Event) → after s (a ++ b) ≡ after (after s a) b
after-append s [] b = refl
after-append s (e ∷ a) b = after-append (next s e.machine e.call) a b

pub legal-left : (s : ModelState) (a b : List Event) → IsLegal s (a ++ b) → IsLegal s a
legal-left s [] b l = tt
legal-left s (e ∷ a) b l = (l.0, legal-left (next s e.machine e.call) a b l.1)

-- a law of legal histories holds of each prefix of one
pub throughout : (s : ModelState) (Law : List Event → Type 0) → ((h : List Event) → IsLegal s h → Law h) → (h : List Event) → IsLegal s h → Throughout Law h
throughout s Law each h l before more e = each before (legal-left s before more (subst (IsLegal s) e l))

pub sound-after : (s : ModelState) (h : List Event) → IsSound s → IsSound (after s h)
sound-after s [] k = k
sound-after s (e ∷ h) k = sound-after (next s e.machine e.call) h (next_keeps s e.machine e.call k)
