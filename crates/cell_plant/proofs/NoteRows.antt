-- What the watch notes in each state of a run.
use Rattle.cell_plant.proofs.Names.{◌≡◌, ℕ, true, false, List, [], ◌∷◌, ◌++◌, Some, Ok, refl, sym, ◌∙◌, Watch, Stop, Refused, Refusal, Worn, Stopped, Settled, CellState, Step, IsRefusedAsWorn, AreRefusedAsWorn, NotesTheMark, NotesThroughout}
use Rattle.cell_plant.specs.NoteExamples.{NotesAreTold}

first : (w : CellState) (steps : List Step) → NotesThroughout w steps → NotesTheMark w
first w [] k = k
first w (s ∷ ss) k = k.0

each : (w : CellState) (before more : List Step) (s : Step) → NotesThroughout w (before ++ s ∷ more) → NotesTheMark s.set × NotesTheMark s.moved
each w [] more s k = (k.1.0, first s.moved more k.1.1)
each w (b ∷ before) more s k = each b.moved before more s k.1.1

each_call : (before more : List Step) (s : Step) → AreRefusedAsWorn (before ++ s ∷ more) → IsRefusedAsWorn s
each_call [] more s k = k.0
each_call (b ∷ before) more s k = each_call before more s k.1

unnoted : (w : CellState) → (w.side Watch).progress.has_stopped ≡ false → w.interlock.stopped ≡ true → NotesTheMark w → ⊥
unnoted w note stopped k = let lie : false ≡ true = sym note ∙ k ∙ stopped in cc

made_up : (w : CellState) → (w.side Watch).progress.has_stopped ≡ true → w.interlock.stopped ≡ false → NotesTheMark w → ⊥
made_up w note runs k = let lie : true ≡ false = sym note ∙ k ∙ runs in cc

not_worn : (s : Step) (stamp : ℕ) → s.machine ≡ Watch → s.asked ≡ Some (Stop, Ok (Settled (Refused Stopped) stamp)) → IsRefusedAsWorn s → ⊥
not_worn s stamp own asked k = let lie : Stopped ≡ Worn = k Stop Stopped stamp own asked in cc

pub notes_are_told : NotesAreTold
notes_are_told = record { unnoted = unnoted; made_up = made_up; first = first; each = each; not_worn = not_worn; each_call = each_call }
