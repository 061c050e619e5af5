-- The journals of callers who each have seen a prefix of one legal history, with all their own events, tell that history.
use Rattle.cell_rules.proofs.Names.{◌≡◌, List, ◌++◌, map, Some, refl, sym, ap, ◌∙◌, append-nil, Machine, Event, Entry, ModelState, after, IsLegal, noted, event_by, IsAudited, Waits}
use Rattle.cell_rules.proofs.lemmas.Notes.{noted-append, noted-foreign, events_of_noted}
use Rattle.cell_rules.proofs.lemmas.SeenLemmas.{waits-foreign}

-- what a caller notes of a history is what it notes of the prefix that it has seen
pub noted-waits : (s : ModelState) (m : Machine) (before now : List Event) → Waits m before now → noted s now m ≡ noted s before m
noted-waits s m before now w =
    ap (λ (h : List Event). noted s h m) w.begins.1 ∙ noted-append s before w.begins.0 m
    ∙ ap (λ (l : List Entry). noted s before m ++ l) (noted-foreign (after s before) w.begins.0 m (waits-foreign m before now w)) ∙ append-nil (noted s before m)

pub told : (s : ModelState) (history : List Event) (seen : Machine → List Event) → IsLegal s history → ((m : Machine) → Waits m (seen m) history) → IsAudited s (λ m. noted s (seen m) m) (Some (after s history)) history
told s history seen legal waits =
    let same : (m : Machine) → noted s history m ≡ noted s (seen m) m = λ m. noted-waits s m (seen m) history (waits m) in
    record { legal = legal; own = λ m. sym (events_of_noted s history m) ∙ ap (map (event_by m)) (same m); noted = same; ends = refl }
