-- The stamp counts the Done events.
use Rattle.cell_rules.proofs.Names.{◌≡◌, ◌+◌, cond, List, [], ◌∷◌, arith, sum_by-cons, Event, ModelState, next, IsLegal, is_done, StampCountsChanges}
use Rattle.cell_rules.proofs.lemmas.Soundness.{event_cases}

pub stamp-after : (s : ModelState) (h : List Event) → IsLegal s h → StampCountsChanges s h
stamp-after s [] l = omega arith
stamp-after s (e ∷ h) l =
    let rest = stamp-after (next s e.machine e.call) h l.1 in
    let here = event_cases (λ b t. t.stamp ≡ cond b 1 0 + s.stamp) s e l.0 (λ _. omega arith) (omega arith) in
    let more = sum_by-cons (λ (x : Event). cond (is_done x) 1 0) e h in
    omega (arith, rest, here, more)
