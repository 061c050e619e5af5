-- A machine at the start of its program is ready.
use Rattle.cell_plant.proofs.Names.{◌≡◌, List, [], Option, sym, ap, ◌∙◌, ModelState, own_events, Steps, CtlFault, reached_first, IsReady}
use Rattle.cell_types.specs.declared.answer.Event.{Event}

pub ready_first : {S Sense Reading Act : Type 0} → (t : Steps S Sense Reading Act) (o opening : ModelState) (seen : List Event) (stopped : Option CtlFault) (p : S)
    → seen ≡ [] → opening ≡ o → p ≡ t.start o → IsReady t opening seen stopped p
ready_first t o opening seen stopped p none same begins runs = reached_first t p opening seen (ap (λ h. own_events h t.machine) none) (begins ∙ ap t.start (sym same))
