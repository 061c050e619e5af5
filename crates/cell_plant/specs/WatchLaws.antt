-- The watch's note is the mark of the interlock, so the watch is refused only as worn.
use Rattle.std.specs.Prelude.{◌≡◌, ℕ, List, [], ◌∷◌, Some, Ok, ⊤}
use Rattle.cell_rules.specs.Types.{Watch, Call, Refused, Refusal, Worn, Settled}
use Rattle.cell_rules.specs.Names.{ModelState, IsStartState}
use Rattle.cell_notes.specs.declared.schedule.Turn.{Turn}
use Rattle.cell_parts.specs.Axes.{CellScales}
use Rattle.cell_plant.specs.CellStates.{CellState, cell_at_start}
use Rattle.cell_plant.specs.Runs.{Step, IsRun}

-- the watch notes a stop exactly while the cell is stopped
abbrev pub NotesTheMark : CellState → Type 0
NotesTheMark w = (w.side Watch).progress.has_stopped ≡ w.interlock.stopped

-- in each state of a run
abbrev pub NotesThroughout : CellState → List Step → Type 0
NotesThroughout w [] = NotesTheMark w
NotesThroughout w (s ∷ ss) = NotesTheMark w × (NotesTheMark s.set × NotesThroughout s.moved ss)

-- a call of the watch that is refused is refused as worn
abbrev pub IsRefusedAsWorn : Step → Type 0
IsRefusedAsWorn s =
    (call : Call) (r : Refusal) (stamp : ℕ)
    → s.machine ≡ Watch → s.asked ≡ Some (call, Ok (Settled (Refused r) stamp)) → r ≡ Worn

abbrev pub AreRefusedAsWorn : List Step → Type 0
AreRefusedAsWorn [] = ⊤
AreRefusedAsWorn (s ∷ ss) = IsRefusedAsWorn s × AreRefusedAsWorn ss

-- in every run from a start, which isn't stopped
abbrev pub FromEachStart : (CellState → List Step → Type 0) → Type 0
FromEachStart Holds =
    (c : CellScales) (opening : ModelState) (turns : List Turn) (steps : List Step)
    → IsStartState opening → IsRun c (cell_at_start opening) turns steps
    → Holds (cell_at_start opening) steps

pub record WatchNotesTheMark : Type 0 where
  pub noted : FromEachStart NotesThroughout
  pub refused : FromEachStart (λ w steps. AreRefusedAsWorn steps)
