-- What the watch notes in each state of a run, and how its calls are refused: what the law says of each, and what it
-- refuses.
use Rattle.std.specs.Prelude.{◌≡◌, ℕ, true, false, List, ◌∷◌, ◌++◌, Some, Ok}
use Rattle.cell_rules.specs.Types.{Watch, Stop, Refused, Stopped, Settled}
use Rattle.cell_plant.specs.CellStates.{CellState}
use Rattle.cell_plant.specs.Runs.{Step}
use Rattle.cell_plant.specs.WatchLaws.{AreRefusedAsWorn, IsRefusedAsWorn, NotesTheMark, NotesThroughout}

pub record NotesAreTold : Type 0 where
  -- the cell is stopped, and the watch hasn't noted that; or it has noted a stop of a cell that isn't stopped
  pub unnoted : (w : CellState) → (w.side Watch).progress.has_stopped ≡ false → w.interlock.stopped ≡ true
      → ¬ NotesTheMark w
  pub made_up : (w : CellState) → (w.side Watch).progress.has_stopped ≡ true → w.interlock.stopped ≡ false
      → ¬ NotesTheMark w
  -- it is so in the first state of a run, and in both states of each step
  pub first : (w : CellState) (steps : List Step) → NotesThroughout w steps → NotesTheMark w
  pub each : (w : CellState) (before more : List Step) (s : Step) → NotesThroughout w (before ++ s ∷ more)
      → NotesTheMark s.set × NotesTheMark s.moved
  -- the watch's stop is refused since the cell is stopped
  pub not_worn : (s : Step) (stamp : ℕ) → s.machine ≡ Watch
      → s.asked ≡ Some (Stop, Ok (Settled (Refused Stopped) stamp)) → ¬ IsRefusedAsWorn s
  pub each_call : (before more : List Step) (s : Step) → AreRefusedAsWorn (before ++ s ∷ more) → IsRefusedAsWorn s
